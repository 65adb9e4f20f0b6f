use Rattle.lhm_ring.proofs.{Names.sym, Names.◌∙◌, indexes.Filters.LacksKey-uncovered}
use Rattle.lhm_ring.proofs.index.Index.position.Goals as goal

pub returns-then-not-may_contain-clause-absent : goal.returns-then-not-may_contain-clause-absent
returns-then-not-may_contain-clause-absent g c =
    LacksKey-uncovered c.args.self.now.words (g.Q.Equivalent.equivalent c.args.key) c.args.hash
    c.args.ring.now.held c.requires.indexed.covers (sym c.may_contain.ensures.bit ∙ c.if-not-may_contain.true)
