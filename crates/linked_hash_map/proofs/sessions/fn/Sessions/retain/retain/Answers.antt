use Rattle.linked_hash_map.proofs.Names.{refl}
use Rattle.linked_hash_map.proofs.sessions.fn.Sessions.retain.retain.Goals as goal

pub returns : goal.returns
returns g c = record { called = record { lent = _; shows = refl; left = _; called = c.keep.ensures; leaves = refl }; weight = refl }
