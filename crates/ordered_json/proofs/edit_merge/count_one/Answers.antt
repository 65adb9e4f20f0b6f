use Rattle.std.proofs.Common.{refl, sym, ◌∙◌}
use Rattle.ordered_json.proofs.Renames.{is_some-view}
use Rattle.ordered_json.proofs.edit_merge.count_one.Goals as goal

pub returns-then-is_null : goal.returns-then-is_null
returns-then-is_null c = let null_is = sym c.if-is_null.ensures in rw null_is refl

pub returns-then-contains_key : goal.returns-then-contains_key
returns-then-contains_key c =
    let some = sym c.if-is_null.ensures in
    let there = is_some-view c.args.members.now.pairs c.args.name.now ∙ sym c.if-contains_key.ensures in
    rw (some, there) refl

pub returns : goal.returns
returns c =
    let some = sym c.if-is_null.ensures in
    let absent = is_some-view c.args.members.now.pairs c.args.name.now ∙ sym c.if-contains_key.ensures in
    rw (some, absent) refl
