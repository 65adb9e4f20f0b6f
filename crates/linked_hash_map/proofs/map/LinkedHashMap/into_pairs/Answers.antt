use Rattle.linked_hash_map.proofs.{Names.ap, Names.map, Names.◌∙◌, Names.LinkedMap, nodes.HeldPairs.pairs-triples}
use Rattle.linked_hash_map.proofs.map.LinkedHashMap.into_pairs.Goals as goal

pub returns-clause-pairs : goal.returns-clause-pairs
returns-clause-pairs g c =
    c.new.ensures ∙ ap (map (λ t. t.1)) c.into_iter.ensures ∙ pairs-triples c.self.inside.table.held
    ∙ ap (λ (m : LinkedMap g.row.K.Denot g.row.V.Denot g.row.S.Denot). m.pairs) c.self.view_is
