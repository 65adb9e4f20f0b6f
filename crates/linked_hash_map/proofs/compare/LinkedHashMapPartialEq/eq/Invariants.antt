use Rattle.linked_hash_map.proofs.Names.{length, ◌≡◌, same_pair, pointwise}
use Rattle.linked_hash_map.proofs.compare.LinkedHashMapPartialEq.eq.Given as goal

-- the maps are equal if what is left of them is
abbrev pub invariant-loop-pair : goal.invariant-loop-pair
invariant-loop-pair g l =
    let same = same_pair g.K.PartialEq.eq g.V.PartialEq.eq in
    (pointwise same l.pair-iterator l.others ≡ pointwise same l.self.pairs l.other.pairs) × (length l.others ≡ length l.pair-iterator)
