use Rattle.linked_hash_map.proofs.Callers.Pages.{map_from_take_collect}
use Rattle.uses.proofs.listing.first_rows.Goals as goal

pub returns : goal.returns
returns g c = map_from_take_collect _ _ _ _ c.collect.ensures.ran (cc) (cc)
