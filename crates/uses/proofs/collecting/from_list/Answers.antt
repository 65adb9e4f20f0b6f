use Rattle.linked_hash_map.proofs.Callers.Extended.{pairs-Collects_vec}
use Rattle.uses.proofs.collecting.from_list.Goals as goal

pub returns : goal.returns
returns g c = pairs-Collects_vec c.args.list c.in_ok-made.ensures.all (λ it m. (m.0, m.1))
