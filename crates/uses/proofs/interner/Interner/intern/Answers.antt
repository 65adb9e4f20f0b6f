use Rattle.linked_hash_map.proofs.Callers.Prelude.{rules, values_of_dense_push, eq-dense}
use Rattle.uses.proofs.interner.Interner.intern.Goals as goal

pub returns-clause-one_name : goal.returns-clause-one_name
returns-clause-one_name g c = search (rules, g.met.K.Eq.laws, values_of_dense_push, eq-dense)
