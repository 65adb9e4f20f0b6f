use Rattle.linked_hash_map.proofs.Names.{fold, ◌≡◌, pair_writes, flat_map}
use Rattle.linked_hash_map.proofs.compare.LinkedHashMapHash.hash.Given as goal

-- what is left goes on to the state that all pairs lead to
abbrev pub invariant-loop-key : goal.invariant-loop-key
invariant-loop-key g l =
    let writes = flat_map (pair_writes g.K.Hash.hash_input g.V.Hash.hash_input) in
    fold g.H.Hasher.write l.state (writes l.key-iterator) ≡ fold g.H.Hasher.write l.initial.state (writes l.self.pairs)
