use Rattle.std.proofs.Common.{Ok, ap, sym, ◌∙◌}
use Rattle.json.specs.Json.{object}
use Rattle.ordered_json.specs.View.{members_view}
use Rattle.ordered_json.proofs.Views.{members_view-put}
use Rattle.ordered_json.proofs.edit.put_member.Goals as goal

pub returns-in-Ok-clause-child : goal.returns-in-Ok-clause-child
returns-in-Ok-clause-child c =
    ap (λ ms. Ok (object ms)) (sym (ap members_view c.in-Ok.ensures.pairs
    ∙ members_view-put c.args.members.now.pairs c.args.name c.args.value c.replace.ensures.valid.distinct))
