use Rattle.lhm_ring.proofs.indexes.Entries.{CountsAll-entries, CountsSome-entries, HasKey-entries, LacksKey-entries}
use Rattle.lhm_ring.proofs.{Names.IfSome_then, Names.pointer_of, lists.Options.IfNone-then, lists.Options.OnSome-then}
use Rattle.lhm_ring.proofs.table.Table.find.Goals as goal

pub returns-clause-found : goal.returns-clause-found
returns-clause-found g c = rw (← c.self.view_is) (IfSome_then c.find.result.0 c.find.ensures.found
    (λ p h. HasKey-entries (g.K.PartialEq.eq c.args.key.now) c.args.hash c.self.inside.ring.held
    (pointer_of p) h))

pub returns-clause-absent : goal.returns-clause-absent
returns-clause-absent g c = rw (← c.self.view_is) (IfNone-then c.find.result.0 c.find.ensures.absent
    (λ h. LacksKey-entries (g.K.PartialEq.eq c.args.key.now) c.args.hash c.self.inside.ring.held h))

pub returns-clause-counts_found : goal.returns-clause-counts_found
returns-clause-counts_found g c = rw (← c.self.view_is)
    (OnSome-then c.find.result.0 c.find.ensures.counts_found
    (λ h. CountsSome-entries c.self.inside.ring.held _ _ c.args.hash c.find.result.1.visited
    c.find.result.1.compared c.self.invariant.indexed.count h))

pub returns-clause-counts_absent : goal.returns-clause-counts_absent
returns-clause-counts_absent g c = rw (← c.self.view_is)
    (IfNone-then c.find.result.0 c.find.ensures.counts_absent
    (λ h. CountsAll-entries c.self.inside.ring.held _ _ c.args.hash c.find.result.1.visited
    c.find.result.1.compared c.self.invariant.indexed.count h))
