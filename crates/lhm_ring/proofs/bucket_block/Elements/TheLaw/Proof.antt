-- A `&` to the elements reaches each. Assumes `Logic`.
use Rattle.lhm_ring.proofs.Names.{[], length, ◌++◌, Incl-trans, meet_⊑_left, copy_shared, RattleType, RawPtr, of_Lends}
use Rattle.lhm_ring.proofs.{bucket_block.Elements.TheLaw.Statement.statement, memory.ElementsLent.Lends-elements}
use Rattle.std_alloc.proofs.SharedLaws.{lent_shr_laws}
use denote.{Param.Laws.Laws, Struct.Laws.field_copy}
use Rattle.std.specs.contracts.marker.PhantomData as marker
use Rattle.lhm_ring.specs.contracts.bucket_block.Elements as C

pub shares : (R : RattleType) (L : Laws R) → statement R L
shares R L = of_Lends (C.struct R) (C.the_codes R.Denot R.coded (marker.the_row RawPtr).coded) (C.the_heap R) (C.the_lent R)
    (λ e p. lent_shr_laws R L.shr_laws e.at (length e.items) (length e.items) e.items)
    (copy_shared (marker.the_field RawPtr) (field_copy (marker.the_type RawPtr) tt), tt)
    (λ M 𝓤 𝓛 e p. Lends-elements 𝓛 (C.the_row R).lives R L
    (Incl-trans (meet_⊑_left (R.lives ++ []) _) (meet_⊑_left R.lives [])) e.at e.items)
