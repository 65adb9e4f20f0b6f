use Rattle.linked_hash_map.proofs.Callers.{Prelude.rules, Prelude.◌/◌, Sorts.IsNonDecreasingBy-from_sort_by_key_pairs}
use Rattle.uses.proofs.playlist.Playlist.sort_by_minutes.Goals as goal

pub returns-clause-sorted : goal.returns-clause-sorted
returns-clause-sorted c = IsNonDecreasingBy-from_sort_by_key_pairs (λ song. song.1.seconds / 60) _
    c.in_ok-sort_by_cached_key.ensures.sorted (λ a r f called. search rules)
