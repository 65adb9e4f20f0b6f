-- For callers: the names that their proofs cite most, of std and of this library. It declares none.
pub use Rattle.std.proofs.Common.{rules, arith, refl, sym, ap, ap₂, ◌∙◌, subst, inl, inr, ◌≡◌, ◌⊎◌, ◌≤◌, ◌<◌, ◌+◌, ◌-◌, ◌*◌, ◌/◌, ◌%◌, ◌^◌}
pub use Rattle.std.proofs.Common.{ℕ, List, [], ◌∷◌, ◌++◌, length, map, filter, take, drop, fold, sum, min, max, nat_eq, Bool, true, false}
pub use Rattle.std.proofs.Common.{cond, not, ◌==◌, ◌&&◌, Option, Some, None, is_some, option_map, unwrap_or, slice_get, get_or}
pub use Rattle.std.proofs.Common.{IfSome, IfOk}
pub use Rattle.std.specs.Prelude.{String, string_eq}
pub use Rattle.std.specs.declared.alloc.Global.{Global}
pub use Rattle.std.specs.Cmp.{nat_eq_equiv, unsigned_Decides}
pub use Rattle.std.specs.String.{string_bytes, string_eq_equiv}
pub use Rattle.std.specs.Str.{bytes_eq}
pub use Rattle.std.specs.List.{count_by, filter_map, list_any, IsDistinct}
pub use Rattle.std.specs.Map.{keys_of, values_of}
pub use Rattle.std.specs.Map.Iter.{deref, deref_pair}
pub use Rattle.std.proofs.lemmas.List.Elements.{All-same}
pub use Rattle.std.proofs.lemmas.Fn.{filter_same}
pub use Rattle.linked_hash_map.specs.Pairs.{find, value_at, from, without, without_first, to_back_as_is, set_value, set_or_push, put}
pub use Rattle.linked_hash_map.specs.Inserts.{insert_each}
pub use Rattle.linked_hash_map.specs.Cursor.{to_visit}
pub use Rattle.linked_hash_map.specs.Visits.{VisitKeeps, VisitMaps}
pub use Rattle.linked_hash_map.proofs.Callers.Arranged.{IsArranged, IsArranged-next, IsArranged-all}
pub use Rattle.linked_hash_map.proofs.Callers.Collected.{value_at-insert_each}
pub use Rattle.linked_hash_map.proofs.Callers.Counted.{CountsItems, CountsItems-counted, CountsItems-set_or_push, CountsItemsBy}
pub use Rattle.linked_hash_map.proofs.Callers.Counted.{CountsItemsBy-counted, CountsKnown}
pub use Rattle.linked_hash_map.proofs.Callers.Dense.{values_of_dense_push, eq-dense}
pub use Rattle.linked_hash_map.proofs.Callers.EachPair.{All-to_back_as_is}
pub use Rattle.linked_hash_map.proofs.Callers.Ends.{take-keys_of}
pub use Rattle.linked_hash_map.proofs.Callers.Equality.{pairs-clone, pairs-cloned, eq-Decides}
pub use Rattle.linked_hash_map.proofs.Callers.FrontKeys.{keys_of-front_few, value_at-front_kept}
pub use Rattle.linked_hash_map.proofs.Callers.Insertions.{NoneRefused-inserted}
pub use Rattle.linked_hash_map.proofs.Callers.Keys.{keys_of-without}
pub use Rattle.linked_hash_map.proofs.Callers.NumberKeys.{keys_of-put_to_front}
pub use Rattle.linked_hash_map.proofs.Callers.Retained.{filter_same_pairs, map_from_retain_pairs, map-filter_from_retain_pairs}
pub use Rattle.linked_hash_map.proofs.Callers.Rounds.{IsTurned, IsTurned-turn}
pub use Rattle.linked_hash_map.proofs.Callers.Sessions.{filter_same_sessions}
pub use Rattle.linked_hash_map.proofs.Callers.Sorts.{IsNonDecreasingBy-from_sort_by_key_pairs}
pub use Rattle.linked_hash_map.proofs.Callers.Sums.{IsSumSoFar}
pub use Rattle.linked_hash_map.proofs.Callers.TextCounts.{CountsTexts}
pub use Rattle.linked_hash_map.proofs.Callers.Texts.{same_text-laws, by_bytes, by_bytes-append, find-is_text, find-drop_text}
pub use Rattle.linked_hash_map.proofs.Callers.Turns.{IsRenaming, IsRenaming-turn}
pub use Rattle.linked_hash_map.proofs.Callers.TwoRuns.{replayed_never_refused}
pub use Rattle.linked_hash_map.proofs.Callers.Valid.{IsValid-set_or_pushed}
pub use Rattle.linked_hash_map.proofs.Callers.Visits.{VisitAppends, VisitAppends-appended, VisitAppends-at, VisitAppends-end}
pub use Rattle.linked_hash_map.proofs.Callers.Visits.{VisitAppends-appended_number}
pub use Rattle.linked_hash_map.proofs.Callers.Visits.{VisitKeeps-removed, VisitTakes, VisitTakes-passed, VisitTakes-removed}
pub use Rattle.linked_hash_map.proofs.Callers.Writes.{set_or_push-own, present_own}
pub use Rattle.linked_hash_map.proofs.Callers.WritingVisits.{VisitMaps-holds, changes}
