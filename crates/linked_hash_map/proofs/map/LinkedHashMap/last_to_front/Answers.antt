use Rattle.linked_hash_map.proofs.Names.{ap, drop, take, ◌++◌, ◌-◌, ◌∙◌}
use Rattle.linked_hash_map.proofs.map.LinkedHashMap.last_to_front.Goals as goal

pub returns-clause-pairs : goal.returns-clause-pairs
returns-clause-pairs g c = c.rotate_left.ensures.pairs
    ∙ ap (λ n. drop (n - 1) c.args.self.now.pairs ++ take (n - 1) c.args.self.now.pairs) c.len-last.ensures.len
