use Rattle.std.proofs.Common.{map, string_bytes, ◌∙◌}
use Rattle.json.specs.Json.{null}
use Rattle.ordered_json.specs.View.{view}
use Rattle.ordered_json.proofs.Changes.{change_at-absent, not-taken}
use Rattle.ordered_json.proofs.edit_parent.take_parent.Goals as goal

pub returns-in-None-clause-unchanged : goal.returns-in-None-clause-unchanged
returns-in-None-clause-unchanged c =
    c.take_at.ensures.rest ∙ change_at-absent (λ _. null) (map string_bytes c.pop.new.self.items) (view c.args.document.now)
    (not-taken _ _ _ c.take_at.ensures.value c.in-None.is)
