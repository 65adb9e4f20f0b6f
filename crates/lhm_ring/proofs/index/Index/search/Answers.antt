use Rattle.lhm_ring.proofs.Names.{None, ap, get_or, length, subst, ◌<◌, ◌∙◌}
use Rattle.lhm_ring.proofs.indexes.Searches.{IsPart-first}
use Rattle.lhm_ring.proofs.index.Index.search.Goals as goal

pub search_on-requires-clause-part : goal.search_on-requires-clause-part
search_on-requires-clause-part g c =
    let heads = c.args.self.now.heads in
    let new = c.new.ensures in
    IsPart-first new.before (new.next ∙ c.get-head.ensures ∙ c.head.ensures ∙ ap (λ b. get_or heads b None) c.requires.of_hash)
    new.visited new.compared (subst (λ b. b < length heads) c.requires.of_hash c.requires.within) c.requires.indexed.chains
