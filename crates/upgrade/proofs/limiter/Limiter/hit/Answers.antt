use Rattle.linked_hash_map.proofs.Callers.Texts.{by_bytes_pushed}
use Rattle.upgrade.proofs.limiter.Limiter.hit.Goals as goal

pub returns-clause-new : goal.returns-clause-new
returns-clause-new c = λ absent. by_bytes_pushed _ _ _ _ _ c.in_ok-name.ensures.ok absent
    c.make_place.ensures.pairs c.in-Ok.ensures.pushed
