use Rattle.std.proofs.Common.{ap, ◌∙◌}
use Rattle.json.specs.Json.{object}
use Rattle.ordered_json.specs.View.{members_view}
use Rattle.ordered_json.proofs.Views.{view-Object}
use Rattle.ordered_json.proofs.value.Value.of_members.Goals as goal

pub returns : goal.returns
returns c = view-Object c.in_ok-new.field-0 ∙ ap (λ m. object (members_view m.pairs)) c.in_ok-new.ensures.ok
