use Rattle.linked_hash_map.proofs.Names.{◌≡◌, pair_order, slice_cmp}
use Rattle.linked_hash_map.proofs.compare.LinkedHashMapOrd.cmp.Given as goal

-- the order of the maps is that of what is left of them
abbrev pub invariant-loop-pair : goal.invariant-loop-pair
invariant-loop-pair g l =
    let order = slice_cmp (pair_order g.K.Ord.cmp g.V.Ord.cmp) in
    order l.pair-iterator l.others ≡ order l.self.pairs l.other.pairs
