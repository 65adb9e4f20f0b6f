use Rattle.linked_hash_map.proofs.Callers.Pages.{map_from_skip_take_collect}
use Rattle.uses.proofs.listing.next_rows.Goals as goal

pub returns : goal.returns
returns g c = map_from_skip_take_collect _ c.args.rows 1 _ _ c.collect.ensures.ran (cc) (cc) (cc)
