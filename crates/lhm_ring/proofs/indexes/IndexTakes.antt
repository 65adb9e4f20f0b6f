-- A node is removed from its chain.
use Rattle.lhm_ring.proofs.Names.{AtHeld, HasChains, Held, IsHeld, IsOnChain, IsRearranged, List, None, OfNodeAt, Option, Ptr, PutsIn}
use Rattle.lhm_ring.proofs.Names.{Some, SplitLast, Spot, [], ap, append_assoc, arith, filter, is_in, length, linked_to, mod-lt, refl, set}
use Rattle.lhm_ring.proofs.Names.{spot, spots, subst, sym, true, ℕ, ◌%◌, ◌++◌, ◌<◌, ◌∙◌, ◌∷◌, ◌≡◌}
use Rattle.lhm_ring.proofs.indexes.Chains.{IsChain-changed, IsChain-tail}
use Rattle.lhm_ring.proofs.indexes.Spots.{IsHeld-spot, OfNodeAt-spot, OnNode, OnNode-rearranged, PutsIn-spots_of}
use Rattle.lhm_ring.proofs.indexes.WholeIndex.{HasChains-own, HasChains-set, SameOthers, SameOthers-PutsIn}
use Rattle.lhm_ring.proofs.lists.Rearranged.{IsRearranged-less_middle, IsRearranged-more_middle, filter-PutsIn, length-IsRearranged}

-- the heads have every node except the one at p
pub record HasOtherChains {K V : Type 0} (heads : List (Option Ptr)) (nodes : List (Held (K × V))) (p : Ptr) : Type 0 where
  pub held : IsHeld nodes p
  pub others : HasChains heads (spots (held.before ++ held.after))

-- with a spot there is a bucket
pub length-HasChains : {heads : List (Option Ptr)} {xs : List Spot} (s : Spot) (ws : List Spot)
    → HasChains heads xs → PutsIn s ws xs → 0 < length heads
length-HasChains {xs = xs} s ws h p = let n = h.none in let e = length-IsRearranged (s ∷ ws) xs p in grind arith

-- a spot of a bucket is taken out
module _ {K V : Type 0} {n b : ℕ} {s : Spot} {nodes : List (Held (K × V))} (k : OnNode n b s nodes) where
  abbrev others : List Spot
  others = spots (k.of.before ++ k.of.after)

  PutsIn-others : PutsIn s others (spots nodes)
  PutsIn-others = subst (λ v. PutsIn v others (spots nodes)) k.of.at_is (PutsIn-spots_of k.of.before k.of.node k.of.after k.of.is)

  IsRearranged-others : (us vs : List Spot) → IsRearranged (us ++ s ∷ vs) (filter (is_in n b) (spots nodes))
      → IsRearranged (us ++ vs) (filter (is_in n b) others)
  IsRearranged-others us vs = IsRearranged-less_middle us s vs (filter (is_in n b) others) (filter (is_in n b) (spots nodes))
      (filter-PutsIn (is_in n b) s others (spots nodes) PutsIn-others k.passes)

  SameOthers-others : SameOthers n b (spots nodes) others
  SameOthers-others c ne p = sym (SameOthers-PutsIn n b s others (spots nodes) k.passes PutsIn-others c ne p)

-- the chain is split at the one before
module _ {heads : List (Option Ptr)} {hash : ℕ} {xs : List Spot} {before : Option Ptr} {p q : Ptr}
    (w : IsOnChain heads hash xs before p) (e : before ≡ Some q) where
  HasBefore-on_chain : SplitLast (λ s. s.at) w.done q
  HasBefore-on_chain = let b = w.behind in grind arith

  append-before : w.done ++ w.here ∷ w.rest ≡ HasBefore-on_chain.before ++ HasBefore-on_chain.node ∷ w.here ∷ w.rest
  append-before = let i = HasBefore-on_chain.is in grind (arith, append_assoc)

module _ {K V : Type 0} {heads : List (Option Ptr)} {hash : ℕ} {nodes : List (Held (K × V))} {before : Option Ptr} {p : Ptr}
    (w : IsOnChain heads hash (spots nodes) before p) where
  pub OnNode-on_chain : OnNode (length heads) (hash % length heads) w.here nodes
  OnNode-on_chain = OnNode-rearranged _ (hash % length heads) w.done w.here w.rest nodes w.holds refl

  pub IsHeld-on_chain : IsHeld nodes p
  IsHeld-on_chain = IsHeld-spot OnNode-on_chain.of w.at_is

  pub HasOtherChains-take_first : {link : Option Ptr} → before ≡ None → HasChains heads (spots nodes)
      → OfNodeAt nodes p (λ x. link ≡ x.link) → HasOtherChains (set heads (hash % length heads) link) nodes p
  HasOtherChains-take_first {link} e h l =
      let o = OnNode-on_chain in
      let none : w.done ≡ [] = (let b = w.behind in grind arith) in
      record {
        held = IsHeld-spot o.of w.at_is;
        others = HasChains-set (hash % length heads) (others o) h (mod-lt hash (length-HasChains w.here (others o) h (PutsIn-others o)))
            (SameOthers-others o) link (record {
              chain = w.rest;
              linked = rw (OfNodeAt-spot (λ s. link ≡ s.link) o.of w.at_is l) (IsChain-tail _ w.done w.here w.rest w.linked);
              holds = subst (λ v. IsRearranged (v ++ w.rest) (filter (is_in _ (hash % length heads)) (others o))) none
                  (IsRearranged-others o w.done w.rest w.holds);
            });
      }

  module _ {q : Ptr} (e : before ≡ Some q) where
    OnNode-before : OnNode (length heads) (hash % length heads) (HasBefore-on_chain w e).node nodes
    OnNode-before =
        let b = HasBefore-on_chain w e in
        OnNode-rearranged _ (hash % length heads) b.before b.node (w.here ∷ w.rest) nodes w.holds (append-before w e)

    pub IsHeld-before : IsHeld nodes q
    IsHeld-before = IsHeld-spot OnNode-before.of (HasBefore-on_chain w e).at_is

    pub HasOtherChains-take_next : {nodes' : List (Held (K × V))} {link : Option Ptr} → HasChains heads (spots nodes)
        → OfNodeAt nodes p (λ x. link ≡ x.link) → AtHeld nodes q (λ before x after. nodes' ≡ before ++ linked_to link x ∷ after)
        → HasOtherChains heads nodes' p
    HasOtherChains-take_next {nodes'} {link} h l sets =
        let n = length heads in
        let bucket = hash % n in
        let f = is_in n bucket in
        let b = HasBefore-on_chain w e in
        let y = OnNode-before in
        let k = y.of in
        let zs = others y in
        let y' = spot (linked_to link k.node) in
        let put' : PutsIn y' zs (spots nodes') = PutsIn-spots_of k.before (linked_to link k.node) k.after
        (sets k.before k.node k.after k.is (ap (λ v. v.at) k.at_is ∙ b.at_is)) in
        let same : f y' ≡ true = ap f k.at_is ∙ y.passes in
        let changed = IsRearranged-more_middle b.before y' (w.here ∷ w.rest) (filter f zs) (filter f (spots nodes'))
        (filter-PutsIn f y' zs (spots nodes') put' same)
        (IsRearranged-others y b.before (w.here ∷ w.rest) (rw (← append-before w e) w.holds)) in
        let assoc = sym (append_assoc b.before (y' ∷ []) (w.here ∷ w.rest)) in
        let s = OnNode-rearranged n bucket (b.before ++ y' ∷ []) w.here w.rest nodes' changed assoc in
        record {
          held = IsHeld-spot s.of w.at_is;
          others = HasChains-own bucket (others s) h (mod-lt hash (length-HasChains b.node zs h (PutsIn-others y)))
              (λ c ne r. SameOthers-others y c ne r ∙ SameOthers-PutsIn n bucket y' zs (spots nodes') same put' c ne r
              ∙ SameOthers-others s c ne r)
              (record {
                chain = (b.before ++ y' ∷ []) ++ w.rest;
                linked = rw (append_assoc b.before (y' ∷ []) w.rest)
                    (IsChain-changed _ b.before b.node y' (w.here ∷ w.rest) w.rest (ap (λ v. v.at) k.at_is)
                    (rw (OfNodeAt-spot (λ s. link ≡ s.link) OnNode-on_chain.of w.at_is l) (IsChain-tail _ w.done w.here w.rest w.linked))
                    (rw (← append-before w e) w.linked));
                holds = IsRearranged-others s (b.before ++ y' ∷ []) w.rest (rw (← assoc) changed);
              });
        }
