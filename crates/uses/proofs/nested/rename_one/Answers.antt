use Rattle.std.proofs.Common.{option_map, sym, refl, ◌∙◌, ap}
use Rattle.std.specs.Cmp.Lexicographic.{bytes_decides}
use Rattle.linked_hash_map.specs.Pairs.{find, set_value}
use Rattle.linked_hash_map.proofs.Callers.Keys.{find-none, set_value-none}
use Rattle.uses.specs.Texts.{names}
use Rattle.uses.specs.Documents.{members_view}
use Rattle.uses.specs.declared.nested.Value.{Null}
use Rattle.uses.proofs.Edits.{rename_member-own}
use Rattle.uses.proofs.TreeViews.{Entry, is_some-view, no_find}
use Rattle.uses.proofs.Renames.{renames}
use Rattle.uses.proofs.nested.rename_one.Goals as goal

pub returns-then-not-contains_key-clause-why : goal.returns-then-not-contains_key-clause-why
returns-then-not-contains_key-clause-why c =
    let there = is_some-view c.args.members.now.pairs c.args.name.now ∙ sym c.if-not-contains_key.ensures in
    rw there refl

pub returns-then-eq-clause-tree : goal.returns-then-eq-clause-tree
returns-then-eq-clause-tree c =
    let name = c.args.name.now in let to = c.args.to.now in
    sym (rename_member-own to name (members_view c.args.members.now.pairs) ((bytes_decides name to).0 (sym c.if-eq.ensures)))

pub returns-then-eq-clause-there : goal.returns-then-eq-clause-there
returns-then-eq-clause-there c = λ done.
    is_some-view c.args.members.now.pairs c.args.name.now ∙ sym c.if-not-contains_key.ensures

pub returns-then-contains_key-clause-why : goal.returns-then-contains_key-clause-why
returns-then-contains_key-clause-why c =
    let pairs = c.args.members.now.pairs in
    let there = is_some-view pairs c.args.name.now ∙ sym c.if-not-contains_key.ensures in
    let taken = is_some-view pairs c.args.to.now ∙ sym c.if-contains_key.ensures in
    let apart = sym c.if-eq.ensures in
    rw (there, apart, taken) refl

pub push-requires : goal.push-requires
push-requires c =
    let pairs = c.args.members.now.pairs in
    ap (option_map (λ (p : Entry). p.1)) (no_find (find names pairs c.args.to.now) (sym c.if-contains_key.ensures))

pub returns-in_default-clause-why : goal.returns-in_default-clause-why
returns-in_default-clause-why c =
    let pairs = c.args.members.now.pairs in
    let there = is_some-view pairs c.args.name.now ∙ sym c.if-not-contains_key.ensures in
    let free = is_some-view pairs c.args.to.now ∙ sym c.if-contains_key.ensures in
    let apart = sym c.if-eq.ensures in
    rw (there, apart, free) refl

pub returns-in-Some-clause-tree : goal.returns-in-Some-clause-tree
returns-in-Some-clause-tree c =
    let pushed = c.in-Ok.ensures.pairs in let pairs = c.args.members.now.pairs in let name = c.args.name.now in let to = c.args.to.now in
    let removed = c.remove.new.self.pairs in
    renames pushed.0 Null name to pushed.1 (sym c.if-eq.ensures) pairs c.push.new.members.pairs c.move_before.new.self.pairs
    removed _ c.remove.result c.in-Ok.ensures.distinct
    (no_find (find names pairs to) (sym c.if-contains_key.ensures)) (sym c.if-not-contains_key.ensures)
    pushed.2 (λ both. c.move_before.ensures.pairs (c.move_before.ensures.found ∙ both))
    c.remove.ensures.pairs c.remove.ensures.value (ap (set_value names removed to) c.unwrap_or-value.ensures)

pub returns-in-Some-clause-there : goal.returns-in-Some-clause-there
returns-in-Some-clause-there c = λ done.
    is_some-view c.args.members.now.pairs c.args.name.now ∙ sym c.if-not-contains_key.ensures

pub returns-in-Some-clause-free : goal.returns-in-Some-clause-free
returns-in-Some-clause-free c = λ done.
    let free = is_some-view c.args.members.now.pairs c.args.to.now ∙ sym c.if-contains_key.ensures in
    let apart = sym c.if-eq.ensures in
    rw (apart, free) refl

pub returns-in_default-get_mut-clause-tree : goal.returns-in_default-get_mut-clause-tree
returns-in_default-get_mut-clause-tree c =
    let pushed = c.in-Ok.ensures.pairs in let pairs = c.args.members.now.pairs in let name = c.args.name.now in let to = c.args.to.now in
    let removed = c.remove.new.self.pairs in
    renames pushed.0 Null name to pushed.1 (sym c.if-eq.ensures) pairs c.push.new.members.pairs c.move_before.new.self.pairs
    removed _ c.remove.result c.in-Ok.ensures.distinct
    (no_find (find names pairs to) (sym c.if-contains_key.ensures)) (sym c.if-not-contains_key.ensures)
    pushed.2 (λ both. c.move_before.ensures.pairs (c.move_before.ensures.found ∙ both))
    c.remove.ensures.pairs c.remove.ensures.value
    (sym (set_value-none names removed to _ (find-none names removed to (sym c.in_default-get_mut.ensures.value))))

pub returns-in_default-get_mut-clause-there : goal.returns-in_default-get_mut-clause-there
returns-in_default-get_mut-clause-there c = λ done.
    is_some-view c.args.members.now.pairs c.args.name.now ∙ sym c.if-not-contains_key.ensures

pub returns-in_default-get_mut-clause-free : goal.returns-in_default-get_mut-clause-free
returns-in_default-get_mut-clause-free c = λ done.
    let free = is_some-view c.args.members.now.pairs c.args.to.now ∙ sym c.if-contains_key.ensures in
    let apart = sym c.if-eq.ensures in
    rw (apart, free) refl
