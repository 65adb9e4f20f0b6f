use Rattle.linked_hash_map.proofs.Names.{Some, ap₂, sym, ◌∙◌, occupied_key, occupied_map, LinkedMap, set_or_push}
use Rattle.linked_hash_map.proofs.Callers.Writes.{set_or_push-set_if_some}
use Rattle.linked_hash_map.proofs.entry.Entry.and_modify.Goals as goal

pub returns-in-Occupied-clause-called : goal.returns-in-Occupied-clause-called
returns-in-Occupied-clause-called g c =
    rw c.in-Occupied.is
    (record {
      lent = c.get_mut.result;
      result = c.f.result;
      left = _;
      before = c.get_mut.ensures.value;
      met = c.f.ensures;
      after = sym (c.get_mut.ensures.written c.f.new.arg2);
    })

pub returns-in-Occupied-clause-writes : goal.returns-in-Occupied-clause-writes
returns-in-Occupied-clause-writes g c = λ v.
    let entry = c.in-Occupied.entry in let said = c.get_mut.ensures in let written = c.f.new.arg2 in
    rw c.in-Occupied.is
    (ap₂ (λ (m : LinkedMap g.row.K.Denot g.row.V.Denot g.row.S.Denot) (k : g.row.K.Denot).
    set_or_push g.K.PartialEq.eq m.pairs k v) (said.map written) (said.key written)
    ∙ set_or_push-set_if_some g.K.PartialEq.eq (occupied_map entry).pairs (occupied_key entry) (Some written) v)
