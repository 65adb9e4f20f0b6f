use Rattle.linked_hash_map.proofs.Names.{◌≡◌, partial_pair_order, slice_partial_cmp}
use Rattle.linked_hash_map.proofs.compare.LinkedHashMapPartialOrd.partial_cmp.Given as goal

-- the order of the maps is that of what is left of them
abbrev pub invariant-loop-pair : goal.invariant-loop-pair
invariant-loop-pair g l =
    let order = slice_partial_cmp (partial_pair_order g.K.PartialOrd.partial_cmp g.V.PartialOrd.partial_cmp) in
    order l.pair-iterator l.others ≡ order l.self.pairs l.other.pairs
