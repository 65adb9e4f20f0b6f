-- A ring with its index, after the ring's own calls.
use Rattle.lhm_ring.proofs.Names.{BucketState, HasNoChain, Held, Indexes, IsHeld, IsIndexed, List, Ptr, PutsIn, State, [], ap, arith}
use Rattle.lhm_ring.proofs.Names.{buckets, length, length-map, refl, spot, spots, subst, sym, with_value, ◌++◌, ◌+◌, ◌<◌, ◌∙◌, ◌≡◌}
use Rattle.lhm_ring.proofs.indexes.WholeBuckets.{Indexes-moved, Indexes-none}
use Rattle.lhm_ring.proofs.indexes.{BucketCounts.buckets-at_least, BucketCounts.buckets-zero, IndexMoves.spots-value}

-- nothing is held
module _ {K V : Type 0} (i : BucketState) (s : State (K × V)) where
  pub IsIndexed-none : HasNoChain i → length i.words ≡ length i.heads → s.held ≡ [] → length i.heads ≡ buckets s.spares → IsIndexed i s
  IsIndexed-none h count e n = record {
    indexes = subst (λ hs. Indexes i (spots hs)) (sym e) (Indexes-none i h count);
    count = let z : length s.held ≡ 0 = ap length e in n ∙ ap buckets (omega arith);
  }

  pub IsIndexed-new : i.heads ≡ [] → i.words ≡ [] → s.held ≡ [] → s.spares ≡ 0 → IsIndexed i s
  IsIndexed-new h w e z = grind (arith, IsIndexed-none, buckets-zero)

module _ {K V : Type 0} (i : BucketState) (s t : State (K × V)) (h : IsIndexed i s) (spares : t.spares ≡ s.spares) where
  -- what the index reads is as before
  pub IsIndexed-same_spots : spots t.held ≡ spots s.held → IsIndexed i t
  IsIndexed-same_spots e = grind (arith, length-map)

  -- a triple was moved
  pub IsIndexed-moved : {p : Ptr} (k : IsHeld s.held p) → PutsIn (spot k.node) (spots (k.before ++ k.after)) (spots t.held)
      → length t.held ≡ length s.held → IsIndexed i t
  IsIndexed-moved k puts long =
      let c = subst (λ (v : List (Held (K × V))). Indexes i (spots v)) k.is h.indexes in
      let all : length s.held + s.spares ≡ length t.held + t.spares = omega (arith, long, spares) in
      record {
        indexes = Indexes-moved i k.before k.node k.after puts c;
        count = h.count ∙ ap buckets all;
      }

-- a value was written
pub IsIndexed-value : {K V : Type 0} (i : BucketState) (s : State (K × V)) (p : Ptr) (w : V)
    → IsIndexed i s → IsIndexed i (with_value s p w)
IsIndexed-value i s p w h = IsIndexed-same_spots i s (with_value s p w) h refl (spots-value p w s.held)

-- if a node is held, there is a bucket
pub length-indexed : {K V : Type 0} (i : BucketState) (s : State (K × V)) → IsIndexed i s → 0 < s.spares → 0 < length i.heads
length-indexed i s h l = omega (arith, buckets-at_least (length s.held + s.spares), h.count, l)
