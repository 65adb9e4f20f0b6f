-- The names of std, of the program logic and of `specs/` that the proofs share.
pub use Rattle.std.proofs.Common.{Bool, List, None, Option, Some, T, [], ap, append-nil, append_assoc, ap₂, arith, cond, eq-eqb, eqb}
pub use Rattle.std.proofs.Common.{false, get_or, get_or-set_other, get_or-set_same, inl, inr, leb→le, length, length-append}
pub use Rattle.std.proofs.Common.{length-set, lit<, ltb→lt, lt→ltb, map, max, not, refl, remove, reverse, set, slice_get, subst}
pub use Rattle.std.proofs.Common.{suc, sym, take, true, true≢false, vec_len, w16, zero, ℕ, ◌%◌, ◌&&◌, ◌*◌, ◌++◌, ◌+◌, ◌-◌, ◌/◌, ◌<◌, ◌==◌}
pub use Rattle.std.proofs.Common.{◌^◌, ◌∙◌, ◌∷◌, ◌≡◌, ◌≢◌, ◌≤◌, ◌⊎◌}
pub use Rattle.std.specs.Prelude.{Err, IfNone, IfSome, Ok, OnErr, OnOk, OnSome, Result, bit_and, bit_or, count_by, filter, is_some, min}
pub use Rattle.std.specs.{Prelude.nat_lt, Cmp.IsStrictWeakOrder, Mem.type_size, Vec.vec_capacity, Vec.vec_ptr}
pub use Rattle.lhm_ring.specs.BucketBlock.{behind, block_dealloc, block_heads, elements_lent, elements_own, parts_own}
pub use Rattle.lhm_ring.specs.Buckets.{BitsHaveChains, BucketState, HasNoChain, IsBucketCount, SetsBit, bits_of}
pub use Rattle.lhm_ring.specs.Buckets.{leads_to, made_fitted, made_raised, may_contain, rechained_fitted}
pub use Rattle.lhm_ring.specs.Buckets.{rechained_raised}
pub use Rattle.lhm_ring.specs.ContentLoan.{Bodies, HasBody, bodies, bodies_of, borrows_bodies, cleared, firsts, seconds, with_bodies}
pub use Rattle.lhm_ring.specs.Drain.{HasRow, IsRow, SameButLinks, SparesRow, StartsAt, onto}
pub use Rattle.lhm_ring.specs.Index.{ChangesLinks, HasChain, HasChains, HoldsOthers, Indexes, IsChain, IsIndexed, IsLast}
pub use Rattle.lhm_ring.specs.Index.{IsOnChain, IsPutFirst, IsRearranged, OfNodeAt, PutsFirst, PutsIn, Spot, count_in_bucket}
pub use Rattle.lhm_ring.specs.Index.{count_with_hash, entries, is_in, spot, spots}
pub use Rattle.lhm_ring.specs.{Iter.held_left, Iter.loan_name, Ring.unvalued}
pub use Rattle.lhm_ring.specs.Links.{AreLinked, AreNeighbours, ChainsTo, HasEnds, HasSpan, IsJoined, IsLaid, IsOwned, IsRing, IsSpan}
pub use Rattle.lhm_ring.specs.Links.{IsSpareList, IsThere, LeadsBack, LeadsOn, chaining_to, content_of, ends_links, has_links}
pub use Rattle.lhm_ring.specs.Links.{is_there, leading_back, leading_on, least_more, link_at, link_of, most_nodes, next_at}
pub use Rattle.lhm_ring.specs.Links.{next_of, nodes_grown, one_of, prev_at, prev_of, ring_cells, span}
pub use Rattle.lhm_ring.specs.{Links.holders, Nodes.AtCell, Nodes.BeforeCell, Nodes.IsPlaceFor, Nodes.first_place}
pub use Rattle.lhm_ring.specs.Nodes.{AreBlocks, Cell, Chunk, Holds, IsApart, IsAt, IsChunk, IsKey, IsUnit, IsValue, block_owns, body_at}
pub use Rattle.lhm_ring.specs.Nodes.{body_lent, body_of, body_owns, cell, cell_lent, cell_owns, cells_lent, cells_own, chunk, chunk_token}
pub use Rattle.lhm_ring.specs.Nodes.{chunk_type, chunk_units, chunks_own, deed_owns, fields_own, head_owns, head_type, head_val, is_block}
pub use Rattle.lhm_ring.specs.Nodes.{is_null, is_null_or_block, key_address, key_offset, land_owns, links_address, links_at, links_of}
pub use Rattle.lhm_ring.specs.Nodes.{links_offset, node_bytes, node_type, places_own, pointers, pointers-change, same_ptr, unit_bytes}
pub use Rattle.lhm_ring.specs.Nodes.{value_address, value_offset, with_body, with_links}
pub use Rattle.lhm_ring.specs.Pointer.{led_to, pointer_of, pointer_of_some, target}
pub use Rattle.lhm_ring.specs.Positions.{PlaceAt, index_of, insert_at, to_back_at, to_before_at, to_front_at}
pub use Rattle.lhm_ring.specs.Ring.{AtHeld, BeforeHeld, ChangesOnly, Held, IsHeld, IsTripleClone, SplitAt, SplitLast, State, change_at}
pub use Rattle.lhm_ring.specs.Ring.{first_at, held, last_at, last_of, linked_to, pair, rekeyed, revalued, set_held_values, state, triples}
pub use Rattle.lhm_ring.specs.RingAfterLoan.{KeepsAllButValues, cleared_nodes, holding, value_set, with_value, with_values}
pub use Rattle.lhm_ring.specs.Search.{Compares, CountsAll, CountsSome, DifferAll, FindsKey, FindsNone, HasKey, IsPart, LacksKey}
pub use Rattle.lhm_ring.specs.Sort.{AscendsBoth, ComparesBy, MergesRuns, PairOrder, Reorders, RunAt, RunsAt, Sorts, SortsRun, by_pair}
pub use Rattle.lhm_ring.specs.Table.{CallsAt, IsTable, KeepsCounts, RetainsAt, RetainsHeld, TableState, TakesAt, WritesOnly, table_of}
pub use Rattle.lhm_ring.specs.ValueLoan.{AreLent, HasValueAt, Spread, borrowed, spread}
pub use Rattle.lhm_ring.specs.declared.bucket_block.{Head.Head, Word.Word}
pub use Rattle.lhm_ring.specs.declared.{content_loan.ContentLoan.ContentLoan, nodes.Nodes.Nodes, value_loan.ValueLoan.ValueLoan}
pub use Rattle.lhm_ring.specs.declared.{links.Ends.Ends, links.Links.Links, pointer.Link.Link, pointer.Position.Position}
pub use Rattle.std.proofs.Math.{Nat.mod-lt, Nat.pow-le-pow_right, Nat.pow-suc, Seq.drop-append-add, Seq.drop-length, Seq.take-length}
pub use Rattle.std.proofs.{RawLayout.as_raw, RawLayout.as_written, lemmas.Nat.and_mask, lemmas.Nat.pow_pos}
pub use Rattle.std.proofs.RcSteps.{Good, word, word-Good, word_ty}
pub use Rattle.std.proofs.VecSteps.{El.El, El.P, El.R, El.args, El.elτ, El.sz, El.wider, Shapes.after, Shapes.arm_body, Shapes.head}
pub use Rattle.std.proofs.alloc.Calls.{Answer-typed, Answered, Gives, Gives-Gives, Gives-goes, Goes-blank, Takes, Takes-gives, Takes-goes}
pub use Rattle.std.proofs.alloc.Calls.{answers, at_gives, at_takes, handle_tells}
pub use Rattle.std.proofs.lemmas.Bool.{cases_eq, cases_lt, eqb-false, eqb-true, false≢true, ltb-false, ltb-true, ne_eqb}
pub use Rattle.std.proofs.lemmas.List.{drop-map, drop_more, get_or-map, length-drop, length-map, length-take, map-append, map-set}
pub use Rattle.std.proofs.lemmas.List.{nil_from_length, reverse-append, take-append-drop, take-map, take_more, Sorted.length_permutation}
pub use Rattle.std.proofs.lemmas.List.Sorted.{IsPermutation-append, IsPermutation-append_comm, IsPermutation-append_right}
pub use Rattle.std.proofs.lemmas.List.Sorted.{IsPermutation-cons, IsPermutation-middle, IsPermutation-refl, IsPermutation-trans}
pub use Rattle.std.proofs.lemmas.List.Sums.{count_by-le-length, length-filter, sum_by-append, sum_by-cons}
pub use Rattle.std.proofs.lemmas.Option.{IfSome_then, get_or_from_slice_get, slice_get-map, slice_get_cases, slice_get_within}
pub use Rattle.std.proofs.{mem.Timeless.timeless, mem.Timeless.timeless_laws, ptr.Rows.next, ptr.Rows.one_below, ptr.Rows.one_more}
pub use Rattle.std.proofs.raw_atomic.Walks.{leaves, proved_at}
pub use Rattle.std.specs.{Allocator.array_of, Allocator.block_with_items, Int.IsNextPowerOfTwo, Int.IsPowerOfTwo, Int.bit_at}
pub use Rattle.std.specs.{List.AllByRecursion, List.AllZip, Option.IsSome, Option.option_to_list}
pub use Rattle.std.specs.List.Sorted.{IsPermutation, IsSortedBy, IsStableBy, ties}
pub use Rattle.std.specs.Map.Calls.{CallableOnEachPair, CalledAtPair, SomeCallAtPair, TakesPair}
pub use Rattle.std.specs.Vec.Ownership.{has_block, lodged, owns_if}
pub use Rattle.std_alloc.proofs.VecSteps.Opens.{blk_in, blk_out, is_live}
pub use Rattle.std_alloc.proofs.VecSteps.Rows.{all_room, empty, glued, room_split}
pub use Rattle.std_alloc.specs.declared.vec.{Vec.Vec, lodged.Lodged.Lodged}
pub use base.Fml.{Fml, GName, Incl, Incl-refl, Incl-trans, Lft, Share, fat, fauth, fbor, feq, fex, ffalse, fhide, flft, flt, fobs, froom}
pub use base.{Fml.fsep, Fml.ftrue, Fml.fwand, Fraction.full_share, Stored.coded_list}
pub use base.Logic.{SProp, apply∗, comm∗, emp, ent, ex, fst∗, guard, id⊢, never, never_e, sep, snd∗, via, wand}
pub use contract.BorrowLft.{meet_⊑_left, meet_⊑_right, ⊑_refl, ◌⊑◌}
pub use contract.Lifetimes.{Lfts, Shares, lft_at}
pub use contract.{Monad.Fun, Monad.fact, Monad.fact_i, Monad.fact_use, Running.MachineTables, Running.Running, Running.tables}
pub use denote.{Array.Array, Array.each, Shadow.makes_shadow, Struct.Owning.shape, Opens.hide, Opens.unhide, Exit.left, Exit.no, Exit.yes}
pub use denote.{Builtin.RefOf, Builtin.u8, Builtin.usize, RawPtr.rawptr_Lawful, RawPtr.room_for, RawPtr.◌+ₚ◌}
pub use denote.{Follow.Part, Follow.follows, Follow.follows_if, Follow.lends_Part, Sharing.ShrLaws, Sharing.beside, Sharing.said}
pub use denote.Memory.{cell_raw, mem, part_at, raw_all, shared_of}
pub use denote.Model.Fields.{Plain-in, plain_out, view-Hides, view_made, view_owns}
pub use denote.Param.{layout, layouts, param, Shared.Sharable, Shared.copy_shared, Shared.parts_share}
pub use denote.RattleType.{Denots, RattleType, RowLaws, Valss, owns}
pub use denote.RawPtr.{InBlock, Ptr, RawPtr, Testable, block_of, block_ptr, count_of, in_a_block, in_block, lies_at, null_ptr, ptr_val}
pub use denote.Ref.{Bor, MutBor, MutRef, NamedLft, ShrRef}
pub use denote.{Shares.Shares-Array, Shares.Shares-less, SharingLaws.beside_shr_laws, SharingLaws.nothing_shr_laws}
pub use denote.Signature.{mut_ref_to, named_lft, plain, types_at}
pub use denote.Steps.{closes, heard, nothing, only, opens, owned, peeks}
pub use denote.Struct.Lending.{Law, Lends, Lends-both, Lends-false, Lends-first, Lends-lies, Lends-nothing, Lends-said, in_block_says}
pub use denote.Struct.Lending.{lending_shared, lent_at, lent_at_shr_laws, of_Lends}
pub use denote.Struct.Struct.{Shape, Struct, Struct-Makes, as_fields, within}
pub use denote.Triple.{Call.calls_at, Entry.alive, Table.framed}
pub use denote.Triple.Clauses.{Clauses, Ended, Lasts, closing, lasts}
pub use denote.Triple.Walked.{Goes-dropped, Goes-ref, Goes-spent_ref, Stays, stay_dropped, stay_ref, walk_of}
pub use mir.{MapTy.inst_fn, Val.Val, Val.WT, Val.has_ty, Val.of_list, Val.vcons, Val.vint, Val.vnil, Val.vptr, Val.vstruct, Val.vunit}
pub use mir.Syntax.{Args, Callee, Fn, Sym, Ty, Tys, a_type, addr_of, assign, block, copy, deref, erased, field, imm, local, named, place}
pub use mir.Syntax.{return, rv_opd, seq, tcons, tnil, ty_array, ty_int, ty_ptr, ty_ref, ty_struct, ty_unit, value_local, w64, w8}
pub use native.Mathlib.Nat.{add-mul, le-mul_of_pos_right, lt_of_le_of_lt, mul-zero, mul_assoc, suc-mul, zero-mul}
pub use prog.Capped.{capped_fits, capped_is, capped_small}
pub use prog.Memory.{Memory, align, capped, field_of, size}
pub use prog.{Model.Model, Model.rooms_at, Routine.Routine, RawLaws.align-raw, RawLaws.size-raw}
pub use prog.Wp.{Calls, Closed, Loops, Wp, WpFn, after_seq, at_return}
pub use seplogic.Ra.Ura.{Ura}
pub use types.ByLocal.{alloc_all, env, free_all, get, get_in, get_tag, is, lands_as, look_at, pass_all, sets, sets_last}
pub use types.{ByLocal.through, Kit.◌∵◌, Kit.◌⊛◌, Mut.close_ref, Mut.open_ref, SemTy.Body, SemTy.SemTy, Logic.Logic, Logic.lfts, Logic.sem}
pub use types.{Follow.after₂, Follow.takes_beside, Follow.takes_two, Part.agg, Part.look_in, Part.sub, Part.whole}
pub use types.Kit.{Goal, Item, Seq, Step, allocs, any_q, assume, at_ret, await, !, by, check, done, drop, feq_i, feq_l, fjoin, fjoin3}
pub use types.Kit.{flt_i, flt_l, fpack, fpick, frame, fsplit, fsplit3, given, group, join, keep, later, learn, mean, move, now, params'}
pub use types.Kit.{pick, prop, qed, raw, rewrite, runs, show, some, split, split3, step, suffices, updating, use0, use1, use2, use3, ‵, ◌$◌}
pub use types.Run.{addr, align_word, and_then, assigns, bin, blocks, enter, exec, first, fld, init, lit, load, look, no_more}
pub use types.Run.{of_opd, returns, size_lit, size_word, stop, store, switches_on, unit_lit}
unfoldable pub use Rattle.lhm_ring.specs.{Buckets.buckets, Sort.IsAscending, ValueLoan.value_at, ValueLoan.without_value}
unfoldable pub use Rattle.lhm_ring.specs.Index.{CoversAll}
unfoldable pub use Rattle.lhm_ring.specs.ContentLoan.{body_in, without_body}
unfoldable pub use Rattle.lhm_ring.specs.Links.{IsStacked, contents, from_at, place_count}
unfoldable pub use Rattle.lhm_ring.specs.Nodes.{cell_at, change, places, row}
unfoldable pub use Rattle.std.specs.List.{IsDistinct}
unfoldable pub use base.Fml.{fseps}
unfoldable pub use denote.{Follow.follows_by, Memory.part_of}
