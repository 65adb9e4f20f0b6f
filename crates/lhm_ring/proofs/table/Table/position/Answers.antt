use Rattle.lhm_ring.proofs.indexes.Entries.{HasKey-entries, LacksKey-entries}
use Rattle.lhm_ring.proofs.{Names.IfSome_then, Names.pointer_of, lists.Options.IfNone-then}
use Rattle.lhm_ring.proofs.table.Table.position.Goals as goal

pub returns-clause-found : goal.returns-clause-found
returns-clause-found g c =
    rw (← c.self.view_is) (IfSome_then c.position.result c.position.ensures.found
    (λ p h. HasKey-entries (g.Q.Equivalent.equivalent c.args.key) c.args.hash c.self.inside.ring.held (pointer_of p) h))

pub returns-clause-absent : goal.returns-clause-absent
returns-clause-absent g c =
    rw (← c.self.view_is) (IfNone-then c.position.result c.position.ensures.absent
    (λ h. LacksKey-entries (g.Q.Equivalent.equivalent c.args.key) c.args.hash c.self.inside.ring.held h))
