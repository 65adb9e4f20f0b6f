use Rattle.linked_hash_map.proofs.Callers.Extended.{InsertsAll_vec, InsertsUntil_vec}
use Rattle.uses.proofs.collecting.insert_all.Goals as goal

pub returns-in-Ok : goal.returns-in-Ok
returns-in-Ok g c = let is = c.in-Ok.ensures in let told = InsertsAll_vec g.met.K.Eq.laws
    is.all (λ it m. (m.0, m.1)) is.valid.distinct is.capacity in assumption

pub returns-in-Err : goal.returns-in-Err
returns-in-Err g c = let is = c.in-Err.ensures in
    let told = InsertsUntil_vec is.stopped is.succeeds (λ it m. (m.0, m.1)) in assumption
