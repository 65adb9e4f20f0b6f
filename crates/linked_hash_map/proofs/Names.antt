-- The names of std, of the program logic, of `lhm_ring` and of `specs/` that the proofs share.
pub use Rattle.std.proofs.Common.{Bool, Bor, Err, Global, IfNone, IfOk, IfSome, IsFalse, IsOkAnd, IsSome, IsTrue, List, None, Ok, OnErr}
pub use Rattle.std.proofs.Common.{OnOk, OnSome, Option, Result, Some, Vec, [], add-one, ap, append-nil, append_assoc, ap₂, arith, cond}
pub use Rattle.std.proofs.Common.{count_by, drop, drop_of_length-le, eq-eqb, eqb, false, filter, filter_map, fold, get_or, inl, inr}
pub use Rattle.std.proofs.Common.{is_some, length, length-append, length-drop, length-take, length-take-le, map, map-id, max, nat_le}
pub use Rattle.std.proofs.Common.{nat_lt, ne_eqb, not, option_map, option_to_list, refl, remove, reverse, rules, slice_get, subst, suc, sym}
pub use Rattle.std.proofs.Common.{take, take_all, true, true≢false, unwrap_or, vec_capacity, vec_items, vec_len, zero, ℕ, ⊎_elim, ◌%◌, ◌&&◌}
pub use Rattle.std.proofs.Common.{◌*◌, ◌++◌, ◌+◌, ◌-◌, ◌<◌, ◌==◌, ◌||◌, ◌∙◌, ◌∷◌, ◌≡◌, ◌≤◌, ◌⊎◌}
pub use Rattle.std.specs.Prelude.{MatchResult, String, if◌then◌else◌, slice_set, string_eq}
pub use Rattle.lhm_ring.proofs.lists.Apart.{IsApart-tail, IsFresh, IsFresh-head, IsFresh-middle, same_ptr-reflexive, same_ptr-symmetric}
pub use Rattle.lhm_ring.proofs.lists.ForAll.{AllByRecursion-append, AllByRecursion-left, AllByRecursion-map, AllByRecursion-right}
pub use Rattle.lhm_ring.proofs.lists.Options.{IfNone-then, Some-injective, none_some}
pub use Rattle.lhm_ring.proofs.lists.{RearrangedCounts.count_by-cons, Splits.SplitAround, Splits.SplitFirst}
pub use Rattle.lhm_ring.proofs.rings.Ends.{AllZip-last, First, First-first_at, Last, Last-last_at, first_held, last_held, none-last_at}
pub use Rattle.lhm_ring.proofs.tables.{Calls.AlwaysReturns-called, MergedRuns.headed}
pub use Rattle.lhm_ring.proofs.tables.Positions.{CutAt, CutAt-IsAt, IsAt-first_at, IsAt-index_of, IsAt-last_at, IsAt-split, IsAt-within}
pub use Rattle.lhm_ring.proofs.tables.Positions.{IsPermutation-to_back_at, IsPermutation-to_front_at, IsSome-place, PlaceAt-first_at}
pub use Rattle.lhm_ring.proofs.tables.Positions.{PlaceAt-within, cut_at, drop-from, index_of-behind_front, index_of-earlier, index_of-front}
pub use Rattle.lhm_ring.proofs.tables.Positions.{index_of-held, index_of-later, map-remove, map-to_back_at, map-to_before_at}
pub use Rattle.lhm_ring.proofs.tables.Positions.{map-to_front_at, remove-append, remove-at, slice_get-append, slice_get-at, take-through}
pub use Rattle.lhm_ring.specs.Index.{Spot, entries, spot, spots}
pub use Rattle.lhm_ring.specs.{Nodes.IsApart, Nodes.same_ptr, Ring.set_held_values, Ring.triples, declared.pointer.Position.Position}
pub use Rattle.lhm_ring.specs.{Pointer.pointer_of, Pointer.pointer_of_some, Search.HasKey, Search.LacksKey}
pub use Rattle.lhm_ring.specs.Positions.{IsAt, PlaceAt, index_of, to_back_at, to_before_at, to_front_at}
pub use Rattle.lhm_ring.specs.Ring.{AtHeld, Held, IsHeld, IsTripleClone, change_at, first_at, held, last_at, rekeyed, revalued}
pub use Rattle.lhm_ring.specs.Table.{KeepsCounts, RetainsHeld, TableState, WritesOnly}
pub use Rattle.linked_hash_map.specs.AllowedAnswers.{Answers, HasNoRoom, HasValue, IsAbsent, IsAllowed, IsLive, effects, log_after}
pub use Rattle.linked_hash_map.specs.CachedSorts.{Arranges, IsPlaced, pointers_of}
pub use Rattle.linked_hash_map.specs.Changes.{Keeps, KeepsSettings, MovesCurrent, drained, pushed, refreshed, set_or_pushed}
pub use Rattle.linked_hash_map.specs.{Clones.AreClones, Clones.IsClone, Pairs.without_first, Pairs.without_last}
pub use Rattle.linked_hash_map.specs.Commands.{answer_to, capacity_after, is_refusal, mode_after, old_or, pair_or_empty, pairs_after}
pub use Rattle.linked_hash_map.specs.Commands.{pairs_after_all, refusals, refused_after, replies_to, to_back_if_some}
pub use Rattle.linked_hash_map.specs.Comparison.{pair_order, pair_writes, partial_pair_order, same_pair}
pub use Rattle.linked_hash_map.specs.Counts.{rechained_each, rechained_fitted, rechained_raised, same}
pub use Rattle.linked_hash_map.specs.Cursor.{IsOutside, IsOutside-prop, to_visit, without_cursor}
pub use Rattle.linked_hash_map.specs.Drains.{DrainKeepsAlong, DrainSteps, DrainStepsBack, drain_name, drain_rest}
pub use Rattle.linked_hash_map.specs.Entry.{Occupied, Vacant, entry_key, entry_map, entry_value, is_occupied, occupied_key, occupied_map}
pub use Rattle.linked_hash_map.specs.Entry.{occupied_value, vacant_key, vacant_map, with_occupied_value}
pub use Rattle.linked_hash_map.specs.{Hashers.hash_by, Retains.IsSublist, Touches.IsTouched, Validity.IsValid}
pub use Rattle.linked_hash_map.specs.Indexes.{IsIndex, pair_at, set_value_at, within-set_value_at}
pub use Rattle.linked_hash_map.specs.Inserts.{Collects, CollectsInto, ExtendsWith, GivesAtMost, InsertsAll, InsertsUntil, IsNewDefault}
pub use Rattle.linked_hash_map.specs.{Inserts.LeavesVisit, Inserts.insert_each, Visits.VisitKeeps, Visits.VisitMaps}
pub use Rattle.linked_hash_map.specs.LinkedMap.{LinkedMap, cursor_state, nowhere, without_entry}
pub use Rattle.linked_hash_map.specs.Log.{Defines, Event, Fit, IsFull, Log, Need, Put, Refresh, Remove, RemoveAll, SetMode, Write}
pub use Rattle.linked_hash_map.specs.Log.{beginnings, ends, first_some, fitted, is_fit, largest, last_some, mode_set, moments, moves}
pub use Rattle.linked_hash_map.specs.Log.{needed, put_each, put_key, puts, stands, touched, touches, written}
pub use Rattle.linked_hash_map.specs.MutableValues.{LendsFirstValue, LendsLastValue, values_left, values_loan}
pub use Rattle.linked_hash_map.specs.Nodes.{Beside, IsKept, Lies, VisitState, bare, bare_node, beside, bookmark_at, bookmark_of, current_at}
pub use Rattle.linked_hash_map.specs.Nodes.{current_of, cursor_at, map_of, pairs_back_from, pairs_from, pairs_of, unvisited_of, visit_of}
pub use Rattle.linked_hash_map.specs.Pairs.{ActsAs, KeysStand, count_before, find, first, from, from_first, key_or, last, put, put_front}
pub use Rattle.linked_hash_map.specs.Pairs.{replaced, set_first, set_if_some, set_key, set_last, set_or_push, set_value, set_values}
pub use Rattle.linked_hash_map.specs.Pairs.{to_after, to_back, to_back_as_is, to_before, to_behind, to_front, value_at, without}
pub use Rattle.linked_hash_map.specs.{Rehashes.rechained_after, Rehashes.rechained_after_all, Updates.Updates, Updates.UpdatesBy}
pub use Rattle.linked_hash_map.specs.Run.{IsReply, IsRun, MayEndVisit, Replayed, Serves, first_log, last_log}
pub use Rattle.linked_hash_map.specs.SessionHandOuts.{CallableWithEachSession, CalledWithSession}
pub use Rattle.linked_hash_map.specs.SessionPuts.{AreLeaving, HasPut, IsPutPlan}
pub use Rattle.linked_hash_map.specs.SessionRetains.{CallableOnEachSession, CalledAtSession, RetainsSessions, SomeCallAtSession}
pub use Rattle.linked_hash_map.specs.SessionRetains.{TakesSession, weights_of}
pub use Rattle.linked_hash_map.specs.SessionTables.{IsEnd, IsLongestEnd, IsValidTable, Session, deref_session, fit, ids_of, leaving}
pub use Rattle.linked_hash_map.specs.SessionTables.{payload_of, session_of, session_table, to_end, total_weight, weight_of, with_last}
pub use Rattle.linked_hash_map.specs.SessionsKept.{IsKeptWithin, sessions_of}
pub use Rattle.linked_hash_map.specs.Sort.{ComputesFromPair, IsSortedByClosure, IsSortedByKeyClosure}
pub use Rattle.linked_hash_map.specs.ValueIterators.{loan_name, pairs_left}
pub use Rattle.linked_hash_map.specs.declared.{drain.Drain.Drain, entry.OccupiedEntry.OccupiedEntry, sessions.storage.Weighted.Weighted}
pub use Rattle.linked_hash_map.specs.declared.map.{Mode.Mode, TheConstants.LIMIT, Mode.TheVariants.Keep, Mode.TheVariants.Touch}
pub use Rattle.linked_hash_map.specs.declared.replay.{Answer.Answer, Command.Command, Reply.Reply}
pub use Rattle.linked_hash_map.specs.declared.replay.Answer.TheVariants.{Absent, Done, Empty, Found, Missing, New, NoRoom, Old, Pair, Pairs}
pub use Rattle.linked_hash_map.specs.declared.replay.Answer.TheVariants.{Refused, Stopped, TooLarge}
pub use Rattle.linked_hash_map.specs.declared.replay.Command.TheVariants.{Clear, EntryInsert, EntryRemove, Extend, Insert, OrInsert}
pub use Rattle.linked_hash_map.specs.declared.replay.Command.TheVariants.{PopBack, PopFront, Reserve, Shrink}
pub use Rattle.std.proofs.Math.{Bool.and-false, Bool.and-true, Bool.or-true, Nat.eq-or-lt_of_le, Nat.le_of_suc-le-suc, Nat.pos_of_ne-zero}
pub use Rattle.std.proofs.Math.Seq.{drop-append_seam, drop-nil, set-append_seam, take-append_seam, take-length, take-nil}
pub use Rattle.std.proofs.iter.runs.Sources.{as_is, as_is_back, from_back, from_front}
pub use Rattle.std.proofs.lemmas.Bool.{cases_lt, eqb-true, le-leb, le-ltb, leb-false, leb-true, lt-leb, lt-ltb, ltb-true}
pub use Rattle.std.proofs.lemmas.{Cmp.nat_list_eq_equiv, Simd.map-map, List.Edits.length-remove, List.MinMax.ranks_by}
pub use Rattle.std.proofs.lemmas.Fn.{FoldsTo-push, always_returns_same, answers_by, chained_keeps}
pub use Rattle.std.proofs.lemmas.Iterator.{IsCollectResult, YieldsList, YieldsList-from_take, items_from_collect}
pub use Rattle.std.proofs.lemmas.Iterator.Adapters.{YieldsList-from_skip, YieldsList-from_vec}
pub use Rattle.std.proofs.lemmas.Iterator.Consumers.{YieldsList-end, YieldsList-from_rest, YieldsList-from_shown, YieldsList-so_far}
pub use Rattle.std.proofs.lemmas.Iterator.Consumers.{map_from_collect, nth_from_yields_List}
pub use Rattle.std.proofs.lemmas.List.{append_cancel_right, drop-append-le, drop-drop, drop-map, drop-set-add, drop-set-lt, drop_all}
pub use Rattle.std.proofs.lemmas.List.{drop_more, get_or-map, get_or_append_left, get_or_default, length-map, length-reverse, map-append}
pub use Rattle.std.proofs.lemmas.List.{map-set, reverse-append, take-append-drop, take-append-le, take-map, take-set-le, take_more}
pub use Rattle.std.proofs.lemmas.List.Elements.{All-append, All-cons, All-contains, All-contains_itself, All-filter, All-from_recursion}
pub use Rattle.std.proofs.lemmas.List.Elements.{All-head, All-nil, All-push, All-tail, All-weaker, Contains-append_cases}
pub use Rattle.std.proofs.lemmas.List.Elements.{Contains-append_right, filter-append, filter_map-append, filter_more, recursion_from_All}
pub use Rattle.std.proofs.lemmas.List.Folds.{find-append, list_all-append, list_any-append}
pub use Rattle.std.proofs.lemmas.List.Sorted.{All-permutation, Contains-permutation, IsNonDecreasingBy-from_sort, IsPermutation-append_comm}
pub use Rattle.std.proofs.lemmas.List.Sorted.{IsPermutation-append_left, IsPermutation-map, IsPermutation-reverse, IsPermutation-sym}
pub use Rattle.std.proofs.lemmas.List.Sorted.{IsPermutation-trans, answers_always, length_permutation}
pub use Rattle.std.proofs.lemmas.List.Sums.{count_by-le-length, count_by_more_no, count_by_more_yes, fold_more, length-filter}
pub use Rattle.std.proofs.lemmas.List.Sums.{suffix_len-le-length, sum_by-append, sum_by-cons}
pub use Rattle.std.proofs.lemmas.Map.Keys.{IsDistinct-IsPermutation, IsDistinct-cons, IsDistinct-head, IsDistinct-push, IsDistinct-tail}
pub use Rattle.std.proofs.lemmas.Option.{IfSome_then, slice_get-get_or, slice_get-map, slice_get_cases, slice_get_past}
pub use Rattle.std.proofs.lemmas.Result.{IfErr-weaker, IfOk-weaker, MatchResult-from_err, err_from_is_err_and}
pub use Rattle.std.proofs.raw_atomic.Walks.{proved}
pub use Rattle.std.specs.Borrow.{MutBor, name_if_ok, name_if_some}
pub use Rattle.std.specs.{Cmp.IsEquivalence, Cmp.IsTotalOrder, Cmp.nat_cmp_total, Cmp.nat_eq_equiv, Ordering.is_lt, Ordering.nat_cmp}
pub use Rattle.std.specs.Cmp.Lexicographic.{bytes_decides, pointwise, slice_cmp, slice_partial_cmp}
pub use Rattle.std.specs.{Fn.Called, Fn.FnOnceReturnsAt, Fn.Once, Fn.Takes, String.string_bytes, String.string_eq_equiv}
pub use Rattle.std.specs.Iterator.{Count, Drains, IsFinite, MakesProgress, YieldsThen, at_most}
pub use Rattle.std.specs.Iterator.Adapters.{rev_source, rev_steps, skip_count, skip_source, skip_steps, take_count, take_source, take_steps}
pub use Rattle.std.specs.Iterator.Runs.{YieldsInOrder, YieldsInReverse, YieldsMutRefsInOrder, YieldsMutRefsInReverse}
pub use Rattle.std.specs.List.{All, AllByRecursion, AllZip, Contains, FoldsTo, after_last, cons_option, flat_map, list_all, list_any}
pub use Rattle.std.specs.List.{position_or_len, prefix_len, range_with_len, suffix_len, zip}
pub use Rattle.std.specs.List.Sorted.{IsNonDecreasingBy, IsPermutation, IsSortedBy, IsSortedByKey, IsStableBy, IsStableByKey, ties}
pub use Rattle.std.specs.Map.{AreApart, IsKeyTest, keys_of, lookup_entry, values_of}
pub use Rattle.std.specs.Map.Calls.{CallableOnEachPair, CalledAtPair, MayWrite, ModifiesValue, RetainsPairs, SomeCallAtPair, TakesPair}
pub use Rattle.std.specs.Map.Iter.{GivesInOrder, GivesInReverse, LendsFirst, LendsLast, LendsValuesInOrder, LendsValuesInReverse}
pub use Rattle.std.specs.Map.Iter.{ShowsInOrder, ShowsInReverse, TakesFirst, TakesLast, deref, deref_pair}
pub use Rattle.std.specs.{Option.option_or, Option.option_zip, Str.bytes_eq, declared.cmp.Ordering.Ordering}
pub use Rattle.std.specs.Vec.Iter.{into_iter_items, into_iter_len, into_iter_steps}
pub use base.{Fml.Fml, Fml.GName, Fml.flft, Fml.ftrue, Logic.emp, Logic.ent, Logic.fst∗, Logic.id⊢, Logic.sep}
pub use borrow.Follows.Closed.{read_of}
pub use contract.{BorrowLft.◌⊑◌, Fact.fact_i, Monad.fact, Running.tables}
pub use denote.{Array.Array, Exit.no, RattleType.RattleType, RawPtr.Ptr, RawPtr.null_ptr, Ref.MutRef, Ref.mut_Tells, Ref.mut_vals}
pub use denote.{Follow.followed, Follow.follows, Follow.follows_if, Steps.heard, Steps.nothing, Steps.only, Steps.peeks}
pub use denote.Param.{bounded, layouts, param, Members.Mut, Always.always_mut, Always.mut_by, Always.mut_next}
pub use denote.Signature.{mut_ref_to, named_lft, plain}
pub use denote.Triple.{Call.calls_at, Entry.on_entry, Spec.triple_of, Table.framed, Clauses.Ended, Clauses.Lasts, Clauses.lasts}
pub use denote.Triple.Walked.{Goes-spent_ref, Stays, ends_at, says, stay_dropped}
pub use mir.{MapTy.inst_fn, Syntax.Args, Syntax.a_type, Syntax.dcons, Syntax.dnil, Syntax.named}
pub use types.ByLocal.{alloc_all, free_all, get, lands_as, look_at, pass_all, sets, through}
pub use types.Kit.{await, by, frame, group, join, later, move, pick, qed, raw, !, rewrite, some, split, suffices, use0, use1, use2, ‵, ◌$◌}
pub use types.{Kit.◌∵◌, Kit.◌⊛◌, Run.addr, Run.and_then, Run.enter, Run.no_more, Run.returns, Run.stop}
unfoldable pub use Rattle.linked_hash_map.specs.{Counts.buckets, Entry.occupied_pair}
unfoldable pub use Rattle.linked_hash_map.specs.Log.{high, live, mode, pair_of, pairs, size, standing, standing_in, stored, value}
unfoldable pub use Rattle.std.specs.List.{IsDistinct}
unfoldable pub use denote.Follow.{follows_by}
