use Rattle.lhm_ring.proofs.{Names.pointer_of, Names.sym, Names.◌∙◌, indexes.Entries.HasKey-kept, indexes.Filters.LacksKey-uncovered}
use Rattle.lhm_ring.proofs.index.Index.take_out.Goals as goal

pub returns-then-not-may_contain-clause-absent : goal.returns-then-not-may_contain-clause-absent
returns-then-not-may_contain-clause-absent g c =
    LacksKey-uncovered c.args.self.now.words (g.Q.Equivalent.equivalent c.args.key) c.args.hash
    c.args.ring.now.held c.requires.indexed.covers (sym c.may_contain.ensures.bit ∙ c.if-not-may_contain.true)

pub returns-clause-found : goal.returns-clause-found
returns-clause-found g c =
    let h = rw c.in_ok-found.was at c.search-found.ensures.found in
    HasKey-kept c.args.ring.now.held c.unchain.new.ring.held (pointer_of c.in_ok-found.found.at)
    c.unchain.ensures.links.held (g.Q.Equivalent.equivalent c.args.key) c.args.hash h.has
