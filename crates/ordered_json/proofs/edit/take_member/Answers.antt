use Rattle.std.proofs.Common.{Some, option_map, ap, sym, ◌∙◌}
use Rattle.std.specs.Option.{ok_or}
use Rattle.json.specs.Json.{object}
use Rattle.ordered_json.specs.View.{members_view, view}
use Rattle.ordered_json.specs.declared.edit.EditError.TheVariants.{Absent}
use Rattle.ordered_json.proofs.Children.{find_member-view}
use Rattle.ordered_json.proofs.Puts.{without_member-absent, without_member-view}
use Rattle.ordered_json.proofs.edit.take_member.Goals as goal

pub returns-in-Some-clause-value : goal.returns-in-Some-clause-value
returns-in-Some-clause-value c =
    find_member-view c.args.members.now.pairs c.args.name.now ∙ ap (option_map view) (sym c.in-Some.ensures.value)

pub returns-in-Some-clause-rest : goal.returns-in-Some-clause-rest
returns-in-Some-clause-rest c =
    ap (λ o. ok_or (option_map object o) Absent)
    (without_member-view c.args.members.now.pairs c.args.name.now c.in-Some.value c.remove.ensures.valid.distinct
    (sym c.in-Some.ensures.value)
    ∙ ap (λ ps. Some (members_view ps)) (sym c.remove.ensures.pairs))

pub returns-in-None-clause-why : goal.returns-in-None-clause-why
returns-in-None-clause-why c =
    ap (λ o. ok_or (option_map object o) Absent)
    (without_member-absent c.args.members.now.pairs c.args.name.now (sym c.in-None.ensures.value))
