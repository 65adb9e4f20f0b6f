use Rattle.std.proofs.Common.{is_some, refl, ap, ◌∙◌}
use Rattle.std.proofs.lemmas.Result.{on_ok_weaker, on_err_weaker}
use Rattle.uses.specs.Trees.{rename_member}
use Rattle.uses.proofs.TreeViews.{edit_at-there, is_free-found, member_at-found, more-names, path_split, taken_out, view-same}
use Rattle.uses.proofs.nested.Value.+rename.Goals as goal

pub returns-in_default-clause-why : goal.returns-in_default-clause-why
returns-in_default-clause-why t c =
    let split = path_split c.args.path.now c.split_first.result c.in_ok-name.ensures.ok_part c.split_first.ensures.cases in
    let held = taken_out c.take_object.result c.in_ok-members.ensures.ok_part c.take_object.ensures.taken in
    rw (member_at-found c.in_ok-members.members.pairs c.in_ok-name.name.now.now split held c.in_default.ensures.value
    (more-names c.in_ok-name.rest.now c.if-is_empty.ensures)) refl

pub returns-clause-tree : goal.returns-clause-tree
returns-clause-tree t c =
    let split = path_split c.args.path.now c.split_first.result c.in_ok-name.ensures.ok_part c.split_first.ensures.cases in
    let held = taken_out c.take_object.result c.in_ok-members.ensures.ok_part c.take_object.ensures.taken in
    on_ok_weaker c.rename-done.result
    (edit_at-there c.in_ok-members.members.pairs c.in_ok-name.name.now.now split held c.in-Some.ensures.value c.rename-done.new.self _
    c.get_mut.ensures.valid.distinct refl (more-names c.in_ok-name.rest.now c.if-is_empty.ensures) (rename_member c.args.to.now))
    c.rename-done.ensures.tree

pub returns-clause-there : goal.returns-clause-there
returns-clause-there t c = λ ok.
    let split = path_split c.args.path.now c.split_first.result c.in_ok-name.ensures.ok_part c.split_first.ensures.cases in
    let held = taken_out c.take_object.result c.in_ok-members.ensures.ok_part c.take_object.ensures.taken in
    ap is_some (member_at-found c.in_ok-members.members.pairs c.in_ok-name.name.now.now split held c.in-Some.ensures.value
    (more-names c.in_ok-name.rest.now c.if-is_empty.ensures)) ∙ c.rename-done.ensures.there ok

pub returns-clause-free : goal.returns-clause-free
returns-clause-free t c = λ ok.
    let split = path_split c.args.path.now c.split_first.result c.in_ok-name.ensures.ok_part c.split_first.ensures.cases in
    let held = taken_out c.take_object.result c.in_ok-members.ensures.ok_part c.take_object.ensures.taken in
    is_free-found c.in_ok-members.members.pairs c.in_ok-name.name.now.now split held c.in-Some.ensures.value
    (more-names c.in_ok-name.rest.now c.if-is_empty.ensures) c.args.to.now ∙ c.rename-done.ensures.free ok

pub returns-clause-why : goal.returns-clause-why
returns-clause-why t c =
    let split = path_split c.args.path.now c.split_first.result c.in_ok-name.ensures.ok_part c.split_first.ensures.cases in
    let held = taken_out c.take_object.result c.in_ok-members.ensures.ok_part c.take_object.ensures.taken in
    let pairs = c.in_ok-members.members.pairs in let name = c.in_ok-name.name.now.now in
    let more = more-names c.in_ok-name.rest.now c.if-is_empty.ensures in
    rw (
      member_at-found pairs name split held c.in-Some.ensures.value more,
      is_free-found pairs name split held c.in-Some.ensures.value more c.args.to.now,
    ) c.rename-done.ensures.why

pub returns-clause-unchanged : goal.returns-clause-unchanged
returns-clause-unchanged t c =
    let split = path_split c.args.path.now c.split_first.result c.in_ok-name.ensures.ok_part c.split_first.ensures.cases in
    let held = taken_out c.take_object.result c.in_ok-members.ensures.ok_part c.take_object.ensures.taken in
    on_err_weaker c.rename-done.result
    (view-same c.in_ok-members.members.pairs c.in_ok-name.name.now.now split held c.in-Some.ensures.value c.rename-done.new.self _
    c.get_mut.ensures.valid.distinct refl) c.rename-done.ensures.unchanged
