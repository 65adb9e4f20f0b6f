use Rattle.lhm_ring.proofs.Names.{None, ap, arith, entries, linked_to, pointer_of, refl, ◌∙◌}
use Rattle.lhm_ring.proofs.tables.Positions.{MovedTo, MovedTo-back, PlaceAt-entries, index_of-entries, index_of-to_back, map-to_back_at}
use Rattle.lhm_ring.proofs.tables.Tables.{IsHeld-table, IsTable-moved, KeepsCounts-moved}
use Rattle.lhm_ring.proofs.{indexes.Entries.length-entries, tables.Positions.to_back_at-at}
use Rattle.lhm_ring.proofs.table.Table.move_to_back.Goals as goal

pub move_to_back-requires : goal.move_to_back-requires
move_to_back-requires g c = IsHeld-table c.self.invariant c.self.view_is c.requires

moved : (g : _) (c : goal.After-move_to_back g)
    → MovedTo (IsHeld-table c.self.invariant c.self.view_is c.requires) c.move_to_back.new.self.held
moved g c = MovedTo-back (IsHeld-table c.self.invariant c.self.view_is c.requires) c.move_to_back.ensures.last

pub invariant_of-self : goal.invariant_of-self
invariant_of-self g c = IsTable-moved c.self.invariant (moved g c) c.move_to_back.ensures.spares c.move_to_back.ensures.nodes

pub returns-clause-held : goal.returns-clause-held
returns-clause-held g c =
    let hs = c.self.inside.ring.held in
    rw (← c.self.view_is) (λ i at. ap entries (to_back_at-at hs i (PlaceAt-entries hs i refl at) c.move_to_back.ensures.last)
    ∙ map-to_back_at (linked_to None) hs i)

pub returns-clause-last : goal.returns-clause-last
returns-clause-last g c =
    let done = c.move_to_back.ensures in
    let index = index_of-to_back done.apart (IsHeld-table c.self.invariant c.self.view_is c.requires) done.last in
    rw (← c.self.view_is) (omega (
      arith,
      index,
      index_of-entries (pointer_of c.args.at) c.move_to_back.new.self.held,
      length-entries c.self.inside.ring.held,
    ))

pub returns-clause-keeps : goal.returns-clause-keeps
returns-clause-keeps g c = let done = c.move_to_back.ensures in
    KeepsCounts-moved c.self.invariant c.self.view_is (moved g c) done.spares done.nodes
