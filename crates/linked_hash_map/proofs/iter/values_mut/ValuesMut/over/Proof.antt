-- By the lemma on what hands on the result of the table's own `iter_mut`.
use Rattle.linked_hash_map.proofs.{Names.◌≡◌, Names.named_lft, Names.param, Names.values_left, Names.values_loan, Names.values_of}
use Rattle.linked_hash_map.proofs.{iter.values_mut.ValuesMut.over.Statement.statement, nodes.LoansHandedOn.hands_on}
use denote.Param.Laws.{param_laws}
use Rattle.linked_hash_map.specs.contracts.iter.values_mut.ValuesMut as Iter-type
use Rattle.linked_hash_map.proofs.iter.values_mut.ValuesMut.TheLaws as iter-laws
use Rattle.linked_hash_map.proofs.iter.values_mut.ValuesMut.of.Met as of
use Rattle.linked_hash_map.proofs.iter.values_mut.ValuesMut.over.Code as code

pub over_spec : {M : Type 1} → statement M
over_spec 𝓤 𝓛 𝓜 𝓡 wired K V LK LV =
    let S = param 0 K in let W = param 1 V in
    hands_on 𝓤 𝓛 𝓜 𝓡 K V LK LV (λ κs. Iter-type.the_row (named_lft 3 0 tt κs) S W) (λ κs. values_loan)
    (λ κs r ps. values_left r ≡ values_of ps) _ _ _
    (λ κs. ((iter-laws.the_row_laws (named_lft 3 0 tt κs) S W (param_laws 0 K LK) (param_laws 1 V LV)).lawful 𝓛).typed)
    (code.calls-lhm_ring::table::Table::iter_mut 𝓡.env wired)
    (of.met 𝓤 𝓛 𝓜 𝓡 (code.calls-linked_hash_map::iter::values_mut::ValuesMut::of 𝓡.env wired) K V LK LV)
    (code.unfolded 𝓤 𝓛.H 𝓜 𝓡 wired (K, (V, tt)))
