-- A node is put into its chain, and all nodes are, one after another.
use Rattle.lhm_ring.proofs.Names.{AtHeld, BucketState, Held, HoldsOthers, Indexes, IsHeld, IsPutFirst, List, None, Option, Ptr, PutsFirst}
use Rattle.lhm_ring.proofs.Names.{Some, [], ap, append-nil, append_assoc, arith, entries, first_at, get_or, length, length-append}
use Rattle.lhm_ring.proofs.Names.{length-set, linked_to, refl, spot, spots, sym, ℕ, ◌%◌, ◌++◌, ◌+◌, ◌<◌, ◌∙◌, ◌∷◌, ◌≡◌, ◌≤◌}
use Rattle.lhm_ring.proofs.indexes.{IndexMoves.PutsIn-last, Spots.PutsIn-spots, WholeBuckets.Indexes-put}
use Rattle.lhm_ring.proofs.{indexes.Entries.entries-link, indexes.Entries.length-same_entries, rings.Ends.First, rings.Ends.First-first_at}

module _ {K V : Type 0} where
  -- the node that comes last is the one that the buckets lack
  pub HoldsOthers-last : {i : BucketState} {nodes : List (Held (K × V))} (old : List (Held (K × V))) (t : Held (K × V))
      → nodes ≡ old ++ t ∷ [] → Indexes i (spots old) → HoldsOthers i nodes t.at
  HoldsOthers-last {i} old t last indexed = record {
    held = record { before = old; node = t; after = []; is = last; at_is = refl };
    others = rw (append-nil old) indexed;
  }

  -- the node at p is put first in its chain
  pub Indexes-put_first : (p : Ptr) (old new : BucketState) (nodes nodes' : List (Held (K × V))) → PutsFirst p old new nodes nodes'
      → HoldsOthers old nodes p → 0 < length old.heads → Indexes new (spots nodes')
  Indexes-put_first p old new nodes nodes' put lacks some =
      let h = lacks.held in
      let k = put h.before h.node h.after h.is h.at_is in
      let x = linked_to (get_or old.heads (h.node.hash % length old.heads) None) h.node in
      rw k.nodes_is (Indexes-put new (spot x) (spots (h.before ++ x ∷ h.after)) lacks.others some refl
      (PutsIn-spots h.before x h.after) k.heads_is k.words_is)

-- the first nodes are rehashed, and the rest begins at pointer
pub record IsRehashing {K V : Type 0} (i : BucketState) (old nodes : List (Held (K × V)))
    (pointer : Option Ptr) (count buckets : ℕ) : Type 0 where
  pub done : List (Held (K × V))
  pub rest : List (Held (K × V))
  pub is : nodes ≡ done ++ rest
  pub indexed : Indexes i (spots done)
  pub pointer_is : pointer ≡ first_at rest
  pub count_is : count ≡ length done
  pub kept : entries nodes ≡ entries old
  pub buckets_is : length i.heads ≡ buckets

module _ {K V : Type 0} {i : BucketState} {old nodes : List (Held (K × V))} {pointer : Option Ptr} {count buckets : ℕ}
    (w : IsRehashing i old nodes pointer count buckets) where
  -- at a node
  module _ {p : Ptr} (e : pointer ≡ Some p) where
    abbrev pub IsHeld-rehashing : IsHeld nodes p
    IsHeld-rehashing =
        let g : First w.rest p = First-first_at w.rest w.pointer_is e in
        record {
          before = w.done;
          node = g.node;
          after = g.after;
          is = w.is ∙ ap (λ v. w.done ++ v) g.is;
          at_is = g.at_is;
        }

    pub count-rehashing : count + 1 ≤ length old
    count-rehashing =
        let g = IsHeld-rehashing in
        let a : length nodes ≡ length old = length-same_entries nodes old w.kept in
        grind (arith, length-append)

    pub length-rehashing : (buckets ≡ 0 → old ≡ []) → 0 < length i.heads
    length-rehashing none = grind (arith, count-rehashing)

    pub IsRehashing-step : (i' : BucketState) (nodes' : List (Held (K × V))) (next : Option Ptr) → 0 < length i.heads
        → PutsFirst p i i' nodes nodes' → AtHeld nodes p (λ before x after. next ≡ first_at after)
        → IsRehashing i' old nodes' next (count + 1) buckets
    IsRehashing-step i' nodes' next some put nx =
        let g = IsHeld-rehashing in
        let x : Held (K × V) = g.node in
        let k : IsPutFirst i i' nodes' w.done x g.after = put w.done x g.after g.is g.at_is in
        let x' : Held (K × V) = linked_to (get_or i.heads (x.hash % length i.heads) None) x in
        let long = length-append w.done (x' ∷ []) in
        let d : count ≡ length w.done = w.count_is in
        record {
          done = w.done ++ x' ∷ [];
          rest = g.after;
          is = k.nodes_is ∙ sym (append_assoc w.done (x' ∷ []) g.after);
          indexed = Indexes-put i' (spot x') (spots (w.done ++ x' ∷ [])) w.indexed
              some refl (PutsIn-last w.done x') k.heads_is k.words_is;
          pointer_is = nx w.done x g.after g.is g.at_is;
          count_is = (omega (arith, long, d));
          kept = ap entries k.nodes_is ∙ entries-link w.done x g.after _ ∙ sym (ap entries g.is) ∙ w.kept;
          buckets_is = ap length k.heads_is ∙ length-set i.heads _ _ ∙ w.buckets_is;
        }
