use Rattle.lhm_ring.proofs.tables.{Positions.PlaceAt-entries, Positions.PlaceAt-next, Tables.IsApart-table, Tables.IsHeld-table}
use Rattle.lhm_ring.proofs.{Names.ap, Names.refl, Names.slice_get, Names.◌+◌, Names.◌∙◌, indexes.Entries.pointers-entries}
use Rattle.lhm_ring.proofs.table.Table.next.Goals as goal

pub next-requires : goal.next-requires
next-requires g c = IsHeld-table c.self.invariant c.self.view_is c.requires

pub returns-clause-next : goal.returns-clause-next
returns-clause-next g c =
    let hs = c.self.inside.ring.held in
    rw (← c.self.view_is) (λ i at. ap (λ ps. slice_get ps (i + 1)) (pointers-entries hs)
    ∙ PlaceAt-next hs i (PlaceAt-entries hs i refl at) c.next.ensures.next)

pub returns-clause-apart : goal.returns-clause-apart
returns-clause-apart g c = IsApart-table c.self.invariant c.self.view_is c.next.ensures.apart
