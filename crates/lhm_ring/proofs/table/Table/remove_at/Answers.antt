use Rattle.lhm_ring.proofs.Names.{None, ap, entries, linked_to, map, remove, slice_get, sym, ◌∙◌}
use Rattle.lhm_ring.proofs.tables.Positions.{PlaceAt-entries, map-remove, remove-at, slice_get-pair}
use Rattle.lhm_ring.proofs.tables.{TableValues.pairs-entries, Tables.IsHeld-table, Tables.IsTable-removed}
use Rattle.lhm_ring.proofs.table.Table.remove_at.Goals as goal

pub take_out_at-requires-clause-held : goal.take_out_at-requires-clause-held
take_out_at-requires-clause-held g c = IsHeld-table c.self.invariant c.self.view_is c.requires

pub invariant_of-self : goal.invariant_of-self
invariant_of-self g c =
    let taken = c.take_out_at.ensures in
    let unlinked = c.unlink-key.ensures in
    IsTable-removed c.self.invariant taken.links taken.lacks unlinked.others unlinked.spares unlinked.nodes taken.buckets

pub returns-clause-others : goal.returns-clause-others
returns-clause-others g c =
    let ks = c.take_out_at.new.ring.held in let taken = c.take_out_at.ensures in
    rw (← c.self.view_is) (λ i at. ap entries (remove-at ks i (PlaceAt-entries ks i taken.links.held at) c.unlink-key.ensures.others)
    ∙ map-remove (linked_to None) ks i ∙ ap (λ hs. remove hs i) taken.links.held)

pub returns-clause-pair : goal.returns-clause-pair
returns-clause-pair g c =
    let ks = c.take_out_at.new.ring.held in let taken = c.take_out_at.ensures in
    rw (← c.self.view_is) (λ i at. ap (λ hs. slice_get (map (λ t. t.pair) hs) i) (sym taken.links.held)
    ∙ ap (λ ps. slice_get ps i) (pairs-entries ks)
    ∙ slice_get-pair ks i (PlaceAt-entries ks i taken.links.held at)
    (λ xs t ys e q. ap (λ z. (z.1, z.2)) (c.unlink-key.ensures.triple xs t ys e q)))
