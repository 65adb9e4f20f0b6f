use Rattle.linked_hash_map.proofs.Names.{length, vec_capacity, ◌++◌, ◌≡◌, ◌≤◌, drain_rest}
use Rattle.linked_hash_map.proofs.replay.drain.Given as goal

-- the pairs so far and those to come are the map's
abbrev pub invariant-loop-pair : goal.invariant-loop-pair
invariant-loop-pair g l = record {
  pairs : l.pairs.items ++ drain_rest l.pair-iterator ≡ l.fn.map.pairs;
  room : length l.fn.map.pairs ≤ vec_capacity l.pairs;
}
