use Rattle.std.proofs.Common.{◌≡◌, ◌<◌, ◌+◌, ◌*◌, ◌∷◌, ◌++◌, [], List, ℕ, Option, Some, None, length}
use Rattle.std.proofs.Common.{refl, sym, ap, ◌∙◌, subst, append_assoc, option_map}
use Rattle.std.proofs.Common.{arith, rules}
use Rattle.std.specs.String.{string_bytes, string_eq, string_eq_equiv}
use Rattle.std.specs.declared.alloc.Global.{Global}
use Rattle.json.specs.Json.{object, no_members}
use Rattle.json.specs.Tree.{depth, members_depth}
use Rattle.linked_hash_map.specs.Pairs.{set_value, without}
use Rattle.linked_hash_map.specs.Updates.{UpdatesBy}
use Rattle.linked_hash_map.proofs.Callers.Keys.{length-without, length-set_value}
use Rattle.linked_hash_map.proofs.Callers.Texts.{is_text}
use Rattle.ordered_json.specs.Merge.{merged, merge_each}
use Rattle.ordered_json.specs.Read.{put}
use Rattle.ordered_json.specs.Room.{FitsAt, FitsIn, at_name}
use Rattle.ordered_json.specs.View.{members_view, view}
use Rattle.ordered_json.specs.declared.value.Value.{Value}
use Rattle.ordered_json.proofs.Children.{find_member-view}
use Rattle.ordered_json.proofs.Merges.{KeepsOthers-updated, FitsIn-kept, FitsIn-first, cons-first, depth-member, new_one-new}
use Rattle.ordered_json.proofs.Merges.{drop_member-view, put-new, put-there, merge_member-null, merge_member-new, merge_member-there}
use Rattle.ordered_json.proofs.Views.{Entry, view-Object}
use Rattle.ordered_json.proofs.edit_merge.+apply.Goals as goal

pub apply_at-returns-then-is_null-clause-members : goal.apply_at-returns-then-is_null-clause-members
apply_at-returns-then-is_null-clause-members t c =
    let pairs = c.args.members.now.pairs in let name = string_bytes c.args.name in
    ap members_view (c.remove.ensures.pairs ∙ ap (λ (n : List ℕ). without is_text pairs n) c.as_str.ensures.value)
    ∙ sym (merge_member-null name (view c.args.change) (members_view pairs) (sym c.if-is_null.ensures)
    ∙ drop_member-view pairs name c.remove.ensures.valid.distinct)

pub apply_at-returns-then-is_null-clause-fits : goal.apply_at-returns-then-is_null-clause-fits
apply_at-returns-then-is_null-clause-fits t c = λ others gone fits.
    let old = c.args.members.now in let after = c.remove.new.self.pairs in let name = string_bytes c.args.name in
    let updates = subst (λ (n : List ℕ). UpdatesBy string_eq old.pairs after (is_text n) None) c.as_str.ensures.value
    c.remove.ensures.updates in
    let left = ap length (c.remove.ensures.pairs ∙ ap (λ (n : List ℕ). without is_text old.pairs n) c.as_str.ensures.value) in
    let few = length-without (string_eq_equiv {Z = Global}) old.pairs c.args.name c.remove.ensures.valid.distinct in
    FitsIn-kept name (view c.args.change) others old after c.remove.new.self.capacity
    (KeepsOthers-updated name old.pairs after None updates) gone (omega (arith, left, few)) c.remove.ensures.keeps.capacity fits

pub apply_at-apply-requires : goal.apply_at-apply-requires
apply_at-apply-requires t c =
    let there : Some c.in-Some.member.now ≡ at_name (string_bytes c.args.name) c.args.members.now.pairs =
    c.in-Some.ensures.value ∙ ap (λ (n : List ℕ). at_name n c.args.members.now.pairs) c.as_str-2.ensures.value in
    let less : 4 * depth (view c.args.change) < t = omega (arith, c.decreases) in
    (less, subst (λ (o : Option Value). FitsAt (view c.args.change) o) (sym there) c.requires.1.0)

pub apply_at-returns-in-Some-clause-members : goal.apply_at-returns-in-Some-clause-members
apply_at-returns-in-Some-clause-members t c =
    let pairs = c.args.members.now.pairs in let name = string_bytes c.args.name in let p = view c.args.change in
    let found = c.in-Some.member.now in let v = c.apply.new.target in
    let there : at_name name pairs ≡ Some found =
    sym (c.in-Some.ensures.value ∙ ap (λ (n : List ℕ). at_name n pairs) c.as_str-2.ensures.value) in
    ap (λ (n : List ℕ). members_view (set_value is_text pairs n v)) c.as_str-2.ensures.value
    ∙ sym (merge_member-there pairs name p found (sym c.if-is_null.ensures) there
    ∙ ap (λ j. put name j (members_view pairs)) (sym c.apply.ensures)
    ∙ put-there pairs c.args.name found v c.get_mut.ensures.valid.distinct there)

pub apply_at-returns-in-Some-clause-fits : goal.apply_at-returns-in-Some-clause-fits
apply_at-returns-in-Some-clause-fits t c = λ others gone fits.
    let old = c.args.members.now in let name = string_bytes c.args.name in let v = c.apply.new.target in
    let text = c.as_str-2.result.now in
    let after = set_value is_text old.pairs text v in
    let updates = subst (λ (n : List ℕ). UpdatesBy string_eq old.pairs after (is_text n) (Some v)) c.as_str-2.ensures.value
    (c.in-Some.ensures.updates v) in
    let few = ap (λ (n : List ℕ). length (set_value is_text old.pairs n v)) c.as_str-2.ensures.value
    ∙ length-set_value string_eq old.pairs c.args.name v in
    FitsIn-kept name (view c.args.change) others old after old.capacity
    (KeepsOthers-updated name old.pairs after (Some v) updates) gone (omega (arith, few)) refl fits

pub apply_at-insert_within_capacity-requires : goal.apply_at-insert_within_capacity-requires
apply_at-insert_within_capacity-requires t c = λ absent.
    let none = ap (option_map (λ (p : Entry). p.1)) absent in
    let some = sym c.if-is_null.ensures in
    omega (arith, c.requires.0, new_one-new c.args.members.now.pairs (string_bytes c.args.name) (view c.args.change) some none)

pub apply_at-returns-clause-members : goal.apply_at-returns-clause-members
apply_at-returns-clause-members t c =
    let pairs = c.args.members.now.pairs in let name = string_bytes c.args.name in let p = view c.args.change in
    let none : at_name name pairs ≡ None = search rules in
    ap members_view (c.insert_within_capacity.ensures.pushed none)
    ∙ sym (merge_member-new pairs name p (sym c.if-is_null.ensures) none ∙ ap (λ j. put name j (members_view pairs)) (sym c.strip.ensures)
    ∙ put-new pairs c.args.name c.strip.new.value none)

pub apply_at-returns-clause-fits : goal.apply_at-returns-clause-fits
apply_at-returns-clause-fits t c = λ others gone fits.
    let old = c.args.members.now in let after = c.insert_within_capacity.new.self.pairs in let name = string_bytes c.args.name in
    let none : at_name name old.pairs ≡ None = search rules in
    let one = new_one-new old.pairs name (view c.args.change) (sym c.if-is_null.ensures) none in
    FitsIn-kept name (view c.args.change) others old after c.insert_within_capacity.new.self.capacity
    (KeepsOthers-updated name old.pairs after (Some c.strip.new.value) c.insert_within_capacity.ensures.updates) gone
    (omega (arith, c.insert_within_capacity.ensures.more none, one)) c.insert_within_capacity.ensures.keeps.capacity fits

pub apply_each-apply_at-requires : goal.apply_each-apply_at-requires
apply_each-apply_at-requires t c =
    let l = c.changes in let e = c.in-Some.change in let left = c.pop_front.new.self.pairs in
    let first_is : l.changes.pairs ≡ e ∷ left =
    cons-first l.changes.pairs e (sym c.in-Some.ensures.pair) ∙ ap (λ (es : List Entry). e ∷ es) (sym c.pop_front.ensures.pairs) in
    let all = l.invariant.1 ∙ ap (λ (es : List Entry). l.invariant.0 ++ es) first_is in
    let deep = ap (λ (es : List Entry). members_depth (members_view es)) all in
    let less : 4 * depth (view e.1) + 1 < t = omega (arith, deep, depth-member l.invariant.0 e left, c.decreases) in (
      less,
      FitsIn-first (string_bytes e.0) (view e.1) (members_view left) l.members
          (subst (λ (es : List Entry). FitsIn (members_view es) l.members) first_is l.invariant.2),
    )

pub apply_each-changes-preserved : goal.apply_each-changes-preserved
apply_each-changes-preserved t c =
    let l = c.changes in let e = c.in-Some.change in let left = c.pop_front.new.self.pairs in
    let first_is : l.changes.pairs ≡ e ∷ left =
    cons-first l.changes.pairs e (sym c.in-Some.ensures.pair) ∙ ap (λ (es : List Entry). e ∷ es) (sym c.pop_front.ensures.pairs) in
    let all = l.invariant.1 ∙ ap (λ (es : List Entry). l.invariant.0 ++ es) first_is in
    let gone = find_member-view left (string_bytes e.0)
    ∙ ap (λ o. option_map view (option_map (λ (p : Entry). p.1) o)) c.in-Some.ensures.gone in (
      l.invariant.0 ++ e ∷ [],
      all ∙ sym (append_assoc l.invariant.0 (e ∷ []) left),
      c.apply_at.ensures.fits (members_view left) gone
          (subst (λ (es : List Entry). FitsIn (members_view es) l.members) first_is l.invariant.2),
      ap (merge_each (members_view left)) c.apply_at.ensures.members
          ∙ ap (λ (es : List Entry). merge_each (members_view es) (members_view l.members.pairs)) (sym first_is) ∙ l.invariant.3,
    )

pub apply_object-returns : goal.apply_object-returns
apply_object-returns t c =
    let ps = members_view c.args.changes.value.pairs in
    let target_is = ap view c.in-Some.ensures.taken ∙ view-Object c.in-Some.members in
    let each : members_view c.apply_each.new.members.pairs ≡ merge_each ps (members_view c.in-Some.members.value.pairs) = search rules in
    view-Object _ ∙ ap object each ∙ ap (merged (object ps)) (sym target_is)

pub apply_object-returns-in_default : goal.apply_object-returns-in_default
apply_object-returns-in_default t c =
    let ps = members_view c.args.changes.value.pairs in
    let each : members_view c.strip_each.new.members.pairs ≡ merge_each ps no_members = search rules in
    view-Object _ ∙ ap object (each ∙ ap (merge_each ps) (sym c.in_default.ensures.absent))
