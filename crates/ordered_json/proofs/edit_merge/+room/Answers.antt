use Rattle.std.proofs.Common.{◌≡◌, ◌<◌, ◌+◌, ◌*◌, ◌∷◌, ◌++◌, [], List, ℕ, Option, Some, refl}
use Rattle.std.proofs.Common.{sym, ap, ◌∙◌, subst, append_assoc, arith, rules}
use Rattle.std.proofs.lemmas.Result.{on_ok_weaker}
use Rattle.std.specs.List.{IsDistinct}
use Rattle.std.specs.Map.{keys_of}
use Rattle.std.specs.String.{string_bytes, string_eq}
use Rattle.json.specs.Json.{object}
use Rattle.json.specs.Tree.{depth, members_depth}
use Rattle.linked_hash_map.specs.Pairs.{set_value}
use Rattle.linked_hash_map.proofs.Callers.Texts.{is_text}
use Rattle.ordered_json.specs.Room.{FitsAt, at_name, new_count}
use Rattle.ordered_json.specs.View.{members_view, view}
use Rattle.ordered_json.specs.declared.value.Value.{Value}
use Rattle.ordered_json.proofs.Children.{change_member-view, change_member-own}
use Rattle.ordered_json.proofs.Merges.{KeepsOthers, KeepsOthers-updated, Fits-Object, FitsEach-kept, FitsEach-next}
use Rattle.ordered_json.proofs.Merges.{depth-member, find_member-before}
use Rattle.ordered_json.proofs.Views.{Entry, view-Object, view-lent}
use Rattle.ordered_json.proofs.edit_merge.+room.Goals as goal

pub make_room-returns-in-Object-replace-clause-view : goal.make_room-returns-in-Object-replace-clause-view
make_room-returns-in-Object-replace-clause-view t c =
    let target_is = view-lent (sym c.replace.ensures.value ∙ c.in-Object-replace.is) c.deref_mut.ensures.value in
    view-Object _ ∙ ap object c.make_room_in-done.ensures.view ∙ sym target_is

pub make_room-returns-in-Object-replace-clause-fits : goal.make_room-returns-in-Object-replace-clause-fits
make_room-returns-in-Object-replace-clause-fits t c =
    let same : members_view c.in-Object.changes.value.pairs ≡ members_view c.deref.result.now.pairs = search rules in
    let patch_is = ap view c.in-Object.is ∙ view-Object c.in-Object.changes ∙ ap object same in
    on_ok_weaker c.make_room_in-done.result (λ fits. Fits-Object (view c.args.patch.now) _ _ patch_is fits) c.make_room_in-done.ensures.fits

pub make_room_at-returns-in-Some-clause-view : goal.make_room_at-returns-in-Some-clause-view
make_room_at-returns-in-Some-clause-view t c =
    let pairs = c.args.members.now.pairs in
    change_member-view (λ j. j) pairs c.args.name.now c.in-Some.member.now c.make_room.new.target c.get_mut.ensures.valid.distinct
    (sym c.in-Some.ensures.value) c.make_room.ensures.view
    ∙ change_member-own (λ j. j) c.args.name.now (members_view pairs) (λ j there. refl)

pub make_room_at-returns-in-Some-clause-fits : goal.make_room_at-returns-in-Some-clause-fits
make_room_at-returns-in-Some-clause-fits t c =
    let here = (c.in-Some.ensures.updates c.make_room.new.target).here in
    on_ok_weaker c.make_room.result
    (λ fits. subst (λ (o : Option Value). FitsAt (view c.args.change.now) o) (sym here) fits)
    c.make_room.ensures.fits

pub make_room_at-returns-in-Some-clause-others : goal.make_room_at-returns-in-Some-clause-others
make_room_at-returns-in-Some-clause-others t c =
    KeepsOthers-updated c.args.name.now c.args.members.now.pairs
    (set_value is_text c.args.members.now.pairs c.args.name.now c.make_room.new.target)
    (Some c.make_room.new.target) (c.in-Some.ensures.updates c.make_room.new.target)

pub make_room_in-make_room_at-requires : goal.make_room_in-make_room_at-requires
make_room_in-make_room_at-requires t c =
    let l = c.loop-name in
    let e : Entry = (c.in-Some.name.now, c.in-Some.change.now) in
    let all = l.invariant.1 ∙ ap (λ (es : List Entry). l.invariant.0 ++ es) c.in-Some.ensures.steps in
    let deep = ap (λ (es : List Entry). members_depth (members_view es)) all in
    let less : 3 * depth (view c.in-Some.change.now) + 1 < t =
    omega (arith, deep, depth-member l.invariant.0 e c.next.new.self, c.decreases) in
    (less, tt)

pub make_room_in-loop-name-preserved : goal.make_room_in-loop-name-preserved
make_room_in-loop-name-preserved t c =
    let l = c.loop-name in
    let done = l.invariant.0 in
    let e : Entry = (c.in-Some.name.now, c.in-Some.change.now) in
    let left = c.next.new.self in
    let pairs = c.args.changes.now.pairs in
    let after = c.make_room_at.new.members.pairs in
    let all : pairs ≡ done ++ e ∷ left = l.invariant.1 ∙ ap (λ (es : List Entry). done ++ es) c.in-Some.ensures.steps in
    let distinct = subst (λ (es : List Entry). IsDistinct string_eq (keys_of es)) all c.iter-name-items.ensures.valid.distinct in
    let made = c.in_ok-make_room_at.ensures in
    let keeps = subst (λ (n : List ℕ). KeepsOthers n l.members.pairs after) c.as_str.ensures.value made.others in
    let fits = subst (λ (n : List ℕ). FitsAt (view e.1) (at_name n after)) c.as_str.ensures.value made.fits in (
      done ++ e ∷ [],
      all ∙ sym (append_assoc done (e ∷ []) left),
      made.view ∙ l.invariant.2,
      omega (arith, l.invariant.3, made.len, made.capacity, ap (new_count (members_view pairs)) made.view),
      FitsEach-next done e after (FitsEach-kept (string_bytes e.0) l.members.pairs after keeps (members_view done)
          (find_member-before done e left distinct) l.invariant.4) fits,
    )
