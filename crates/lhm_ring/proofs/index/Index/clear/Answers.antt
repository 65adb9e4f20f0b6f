use Rattle.lhm_ring.proofs.Names.{Indexes, nil_from_length, spots, subst, sym, ◌∙◌}
use Rattle.lhm_ring.proofs.indexes.WholeBuckets.{HasNoChain-indexed}
use Rattle.lhm_ring.proofs.index.Index.clear.Goals as goal

pub returns-then-len-eq0-clause-empty : goal.returns-then-len-eq0-clause-empty
returns-then-len-eq0-clause-empty g c =
    let none = nil_from_length c.args.ring.now.held (sym c.len.ensures.value ∙ c.if-len-eq0.true) in
    HasNoChain-indexed c.args.self.now (subst (λ hs. Indexes c.args.self.now (spots hs)) none c.requires)
