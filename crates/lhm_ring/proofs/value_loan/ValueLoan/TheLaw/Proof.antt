-- A `&` to it holds none of the values. Assumes `Logic`.
use Rattle.lhm_ring.proofs.Names.{copy_shared, RattleType, MutRef, NamedLft, nothing_shr_laws, Lends-nothing, of_Lends}
use Rattle.lhm_ring.proofs.{value_loan.ValueLoan.TheLaw.Statement.statement}
use denote.{Param.Laws.Laws, Struct.Laws.field_copy}
use Rattle.std.specs.contracts.marker.PhantomData as marker
use Rattle.lhm_ring.specs.contracts.nodes.Node as Node-type
use Rattle.lhm_ring.specs.contracts.value_loan.ValueLoan as C

pub shares : (κ : NamedLft) (L K V : RattleType) (LL : Laws L) (LK : Laws K) (LV : Laws V) → statement κ L K V LL LK LV
shares κ L K V LL LK LV =
    let R : RattleType = MutRef κ.mir κ.lft (Node-type.the_row L K V) in
    of_Lends (C.struct κ L K V) (C.the_codes L.Denot K.Denot V.Denot L.coded K.coded V.coded
    (marker.the_row R).coded (Node-type.the_row L K V).coded) (C.the_heap κ.lft L K V)
    (C.the_lent κ.lft L K V) (λ d p. nothing_shr_laws)
    (copy_shared (marker.the_field R) (field_copy (marker.the_type R) tt), tt)
    (λ M 𝓤 𝓛 d p. Lends-nothing 𝓛 (C.the_heap κ.lft L K V d) (C.the_row κ L K V).lives)
