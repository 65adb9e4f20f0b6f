-- For callers: the sets of lemmas that an attribute names, as #[tactic(auto,
-- using(linked_hash_map::proofs::Callers::Rules::number_keys))]. Each stands in the file of its
-- lemmas.
pub use Rattle.linked_hash_map.proofs.Callers.NumberKeys.{number_keys, number_pairs, front_keys, moved_to_front, keys_of-put_number}
pub use Rattle.linked_hash_map.proofs.Callers.NumberKeys.{length-put_number, put_number, put_front_number, to_front-put_number}
pub use Rattle.linked_hash_map.proofs.Callers.NumberKeys.{keys_of-put_to_front, keys_of-without_number, keys_of-to_front_number}
pub use Rattle.linked_hash_map.proofs.Callers.EachPair.{each_pair, in-found_number, in-without_number, in-to_back_as_is_number}
pub use Rattle.linked_hash_map.proofs.Callers.TextLookups.{text_keys, byte_keys, text_lookups, keys_of-without_text, value_at-put_bytes}
pub use Rattle.linked_hash_map.proofs.Callers.TextLookups.{keys_of-set_or_push_text, value_at-text_bytes, values_of-text_bytes}
pub use Rattle.linked_hash_map.proofs.Callers.{EachPair.in-put_number, TextCounts.text_counts, NumberKeys.value_at-take_number}
pub use Rattle.linked_hash_map.proofs.Callers.{Lookups.new_numbers, Lookups.value_at-append_number, Collected.insertions, Turns.turns}
pub use Rattle.linked_hash_map.proofs.Callers.{Keys.stored_keys, Keys.end_keys, Keys.absent_keys, Counted.counts, Counted.known_counts}
pub use Rattle.linked_hash_map.proofs.Callers.{Cuts.neighbors, Cuts.neighbors_number, Cuts.placed, Cuts.placed_number, Rounds.rounds}
pub use Rattle.linked_hash_map.proofs.Callers.{Dense.dense, Dense.dense_below, Dense.dense_apart, Visits.visits, WritingVisits.changes}
