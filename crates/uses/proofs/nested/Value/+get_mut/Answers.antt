use Rattle.std.proofs.Common.{◌≡◌, map, sym, ap, ◌∙◌}
use Rattle.std.specs.Map.Iter.{deref}
use Rattle.linked_hash_map.specs.Pairs.{value_at}
use Rattle.uses.specs.contracts.nested.Value.{enum}
use Rattle.uses.specs.declared.nested.Value.{Value, Object}
use Rattle.uses.specs.Documents.{view}
use Rattle.uses.specs.Texts.{names}
use Rattle.uses.proofs.TreeViews.{Map, view-Object, get_at-found}
use borrow.Enum.Arm.{read_off}
use borrow.Enum.Total.{values_d}
use Rattle.uses.proofs.nested.Value.+get_mut.Goals as goal

-- the map that a reference to an object lends
values_d-Object : (v : Value) (m : Map) → v ≡ Object m → (values_d enum 4 (m, tt) v).0 ≡ m
values_d-Object v m is = ap (λ w. w.0) (read_off enum 4 (m, tt) (m, tt) is)

pub returns-in_err-get_mut : goal.returns-in_err-get_mut
returns-in_err-get_mut t c =
    let members = c.in-Object.members in let name = c.in-Some.name.now.now in
    let lent = values_d-Object c.args.self.now members c.in-Object.is in
    let found = get_at-found members.pairs name (ap (map deref) c.in-Some.ensures.cases.0)
    (sym (ap view c.in-Object.is ∙ view-Object members))
    (c.in_err-get_mut.ensures.value ∙ ap (λ (m : Map). value_at names m.pairs name) lent) in
    rw c.from_residual.ensures (sym found)

pub returns : goal.returns
returns t c =
    let members = c.in-Object.members in let name = c.in-Some.name.now.now in
    let lent = values_d-Object c.args.self.now members c.in-Object.is in
    c.get_mut-2.ensures
    ∙ sym (get_at-found members.pairs name (ap (map deref) c.in-Some.ensures.cases.0)
    (sym (ap view c.in-Object.is ∙ view-Object members))
    (c.in_ok-get_mut.ensures.value ∙ ap (λ (m : Map). value_at names m.pairs name) lent))
