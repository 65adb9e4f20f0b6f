use Rattle.linked_hash_map.proofs.Names.{Some, cond, subst, sym, ◌+◌, IsAt-split, pointer_of, pointer_of_some, PlaceAt}
use Rattle.linked_hash_map.proofs.nodes.MovedBeside.{IsHeld-PlaceAt}
use Rattle.linked_hash_map.proofs.map.beside.place_beside.Goals as goal

pub returns-then-after-clause-place : goal.returns-then-after-clause-place
returns-then-after-clause-place g c i at =
    subst (λ b. PlaceAt c.args.table.now.held (pointer_of_some c.next.result) (cond b (i + 1) i)) (sym c.if-after.true)
    (c.next.ensures.next i at)

pub returns-then-after-clause-held : goal.returns-then-after-clause-held
returns-then-after-clause-held g c =
    let h = c.requires in
    IsHeld-PlaceAt c.args.table.now.held _ c.next.result
    (c.next.ensures.next _ (IsAt-split h.before h.node h.after h.is h.at_is))

pub returns-else-after-clause-place : goal.returns-else-after-clause-place
returns-else-after-clause-place g c i at =
    subst (λ b. PlaceAt c.args.table.now.held (Some (pointer_of c.args.other)) (cond b (i + 1) i)) (sym c.if-after.false) at
