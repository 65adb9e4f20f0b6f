use Rattle.linked_hash_map.proofs.{Names.ap, Names.sym, Names.◌∙◌, Names.pairs_of, nodes.HeldPairs.pairs_of-of-entries}
use Rattle.linked_hash_map.proofs.iter.Iter.new.Goals as goal

pub returns : goal.returns
returns g c = sym (pairs_of-of-entries c.iter.result) ∙ ap pairs_of c.iter.ensures
