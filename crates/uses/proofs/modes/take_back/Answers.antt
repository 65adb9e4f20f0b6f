use Rattle.linked_hash_map.proofs.Callers.NumberRules.{undone_number}
use Rattle.uses.proofs.modes.take_back.Goals as goal

pub returns-in-Some-get_mut : goal.returns-in-Some-get_mut
returns-in-Some-get_mut c = λ before value distinct had was. let is = c.in-Some.is in
    rw was ((undone_number before _ value distinct).3 _ (cc))
