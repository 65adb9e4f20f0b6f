use Rattle.linked_hash_map.proofs.Names.{ap, ◌∙◌, occupied_pair, value_at}
use Rattle.linked_hash_map.proofs.{Callers.ReplacedKeys.value_at-set_key, pairs.OccupiedEntries.slice_get-occupied}
use Rattle.linked_hash_map.proofs.entry.OccupiedEntry.replace_key.Goals as goal

pub replace_current_key-requires-clause-same : goal.replace_current_key-requires-clause-same
replace_current_key-requires-clause-same g c =
    let o = c.args.self.now in
    record {
      pair = occupied_pair o;
      there = slice_get-occupied o;
      same = (let same = c.has_key.ensures.same in let is = c.if-has_key.ensures in cc);
    }

pub returns-then-has_key-clause-values : goal.returns-then-has_key-clause-values
returns-then-has_key-clause-values g c = λ q.
    ap (λ pairs. value_at g.K.PartialEq.eq pairs q) c.replace_current_key.ensures.pairs
    ∙ value_at-set_key g.met.K.Eq.laws c.args.self.now.map.now.pairs c.args.key q
