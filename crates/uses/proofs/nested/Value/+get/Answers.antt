use Rattle.std.proofs.Common.{map, sym, ap, ◌∙◌}
use Rattle.std.specs.Map.Iter.{deref}
use Rattle.uses.specs.Documents.{view}
use Rattle.uses.proofs.TreeViews.{view-Object, get_at-found}
use Rattle.uses.proofs.nested.Value.+get.Goals as goal

pub returns-in_err-get : goal.returns-in_err-get
returns-in_err-get t c =
    let members = c.in-Object.members in
    let found = get_at-found members.pairs c.in-Some.name.now.now (ap (map deref) c.in-Some.ensures.cases.0)
    (sym (ap view c.in-Object.is ∙ view-Object members)) c.in_err-get.ensures in
    rw c.from_residual.ensures (sym found)

pub returns : goal.returns
returns t c =
    let members = c.in-Object.members in
    c.get-2.ensures
    ∙ sym (get_at-found members.pairs c.in-Some.name.now.now (ap (map deref) c.in-Some.ensures.cases.0)
    (sym (ap view c.in-Object.is ∙ view-Object members)) c.in_ok-get.ensures)
