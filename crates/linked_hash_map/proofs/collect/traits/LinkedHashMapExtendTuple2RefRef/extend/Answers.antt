use Rattle.linked_hash_map.proofs.{Names.refl, Names.deref_pair, pairs.ExtendSteps.ExtendsWith-shown}
use Rattle.linked_hash_map.proofs.collect.traits.LinkedHashMapExtendTuple2RefRef.extend.Goals as goal

pub returns-in-Ok : goal.returns-in-Ok
returns-in-Ok g c =
    let all = c.in-Ok.ensures in let inserts = all.to_visit.0 in let gives = inserts.gives in
    let into = ExtendsWith-shown deref_pair inserts.given refl inserts.pairs all.capacity all.rechained
    all.settings all.to_visit.1 all.stays_valid in
    record { ran = (gives.iterator, inserts.given, gives.made, into, gives.gives) }

pub returns-in-Err : goal.returns-in-Err
returns-in-Err g c =
    let some = c.in-Err.ensures in let inserts = some.visit_stopped.0 in let gives = inserts.gives in
    let into = ExtendsWith-shown deref_pair inserts.given refl inserts.pairs some.capacity some.rechained
    some.settings some.visit_stopped.1 some.stays_valid in
    record { ran = (gives.iterator, inserts.given, gives.made, into, (gives.gives.0, gives.gives.1)) }
