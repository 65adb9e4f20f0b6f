use Rattle.lhm_ring.proofs.Names.{IsHeld, None, ap, entries, linked_to, refl, ◌∙◌}
use Rattle.lhm_ring.proofs.rings.Moves.{IfSome-pointer}
use Rattle.lhm_ring.proofs.tables.Positions.{MovedTo, PlaceAt-entries, map-to_before_at, moved_to, to_before_at-at}
use Rattle.lhm_ring.proofs.tables.Tables.{IfSome-table, IsHeld-table, IsTable-moved, KeepsCounts-moved}
use Rattle.lhm_ring.proofs.table.Table.move_before.Goals as goal

pub move_before-requires-clause-at : goal.move_before-requires-clause-at
move_before-requires-clause-at g c = IsHeld-table c.self.invariant c.self.view_is c.requires.at

pub move_before-requires-clause-before : goal.move_before-requires-clause-before
move_before-requires-clause-before g c = IfSome-table c.self.invariant c.self.view_is c.args.before c.requires.before

moved : (g : _) (c : goal.After-move_before g)
    → MovedTo (IsHeld-table c.self.invariant c.self.view_is c.requires.at) c.move_before.new.self.held
moved g c = moved_to (IsHeld-table c.self.invariant c.self.view_is c.requires.at) (IfSome-pointer (IsHeld c.self.inside.ring.held)
    c.args.before (IfSome-table c.self.invariant c.self.view_is c.args.before c.requires.before))
    c.move_before.ensures.moved c.move_before.ensures.stays

pub invariant_of-self : goal.invariant_of-self
invariant_of-self g c = IsTable-moved c.self.invariant (moved g c) c.move_before.ensures.spares c.move_before.ensures.nodes

pub returns-clause-held : goal.returns-clause-held
returns-clause-held g c =
    let hs = c.self.inside.ring.held in let done = c.move_before.ensures in
    rw (← c.self.view_is) (λ i j at place. ap entries (to_before_at-at hs i (PlaceAt-entries hs i refl at) j
    (PlaceAt-entries hs j refl place) done.moved done.stays) ∙ map-to_before_at (linked_to None) hs i j)

pub returns-clause-keeps : goal.returns-clause-keeps
returns-clause-keeps g c = let done = c.move_before.ensures in
    KeepsCounts-moved c.self.invariant c.self.view_is (moved g c) done.spares done.nodes
