use Rattle.std.proofs.Common.{Ok, option_map, refl, sym, ap, ◌∙◌}
use Rattle.json.specs.Json.{object}
use Rattle.linked_hash_map.specs.Pairs.{find}
use Rattle.linked_hash_map.proofs.Callers.Texts.{is_text}
use Rattle.ordered_json.specs.declared.value.Value.{Null}
use Rattle.ordered_json.proofs.Renames.{is_some-view, no_find, renames}
use Rattle.ordered_json.proofs.Views.{Entry}
use Rattle.ordered_json.proofs.edit_rename.rename_member.Goals as goal

pub returns-then-not-contains_key-clause-why : goal.returns-then-not-contains_key-clause-why
returns-then-not-contains_key-clause-why c = λ _.
    let there = is_some-view c.args.members.now.pairs c.args.name.now ∙ sym c.if-not-contains_key.ensures in
    rw there refl

pub returns-then-eq-clause-child : goal.returns-then-eq-clause-child
returns-then-eq-clause-child c =
    let there = is_some-view c.args.members.now.pairs c.args.name.now ∙ sym c.if-not-contains_key.ensures in
    let same = sym c.if-eq.ensures in
    rw (there, same) refl

pub returns-then-contains_key-clause-why : goal.returns-then-contains_key-clause-why
returns-then-contains_key-clause-why c = λ _.
    let pairs = c.args.members.now.pairs in
    let there = is_some-view pairs c.args.name.now ∙ sym c.if-not-contains_key.ensures in
    let taken = is_some-view pairs c.args.to.now ∙ sym c.if-contains_key.ensures in
    let apart = sym c.if-eq.ensures in
    rw (there, apart, taken) refl

pub push_name-requires : goal.push_name-requires
push_name-requires c =
    let pairs = c.args.members.now.pairs in
    ap (option_map (λ (p : Entry). p.1)) (no_find (find is_text pairs c.args.to.now) (sym c.if-contains_key.ensures))

pub returns-clause-child : goal.returns-clause-child
returns-clause-child c =
    let pushed = c.in-Ok.ensures.pairs in let pairs = c.args.members.now.pairs in let name = c.args.name.now in let to = c.args.to.now in
    let there = is_some-view pairs name ∙ sym c.if-not-contains_key.ensures in
    let free = is_some-view pairs to ∙ sym c.if-contains_key.ensures in
    let apart = sym c.if-eq.ensures in
    rw (there, apart, free) (ap (λ ms. Ok (object ms)) (sym (
    renames pushed.0 Null name to pushed.1 (sym c.if-eq.ensures) pairs c.push_name.new.members.pairs c.move_before.new.self.pairs
    c.remove-value.new.self.pairs c.give.new.members.pairs c.remove-value.result c.in-Ok.ensures.distinct
    (no_find (find is_text pairs to) (sym c.if-contains_key.ensures)) (sym c.if-not-contains_key.ensures)
    pushed.2 (λ both. c.move_before.ensures.pairs (c.move_before.ensures.found ∙ both))
    c.remove-value.ensures.pairs c.remove-value.ensures.value c.give.ensures)))
