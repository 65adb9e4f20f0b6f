-- A chain that is cut behind one of its nodes, so that the node is its last.
use Rattle.lhm_ring.proofs.Names.{AtHeld, HasChains, Held, IsChain, IsHeld, IsLast, IsOnChain, IsRearranged, List, None, OfNodeAt, Option}
use Rattle.lhm_ring.proofs.Names.{Ptr, Some, SplitAt, Spot, [], ap, append_assoc, arith, count_by-le-length, filter, get_or, inl, inr}
use Rattle.lhm_ring.proofs.Names.{is_in, length, length-append, length-filter, length-map, linked_to, mod-lt, refl, reverse, spot, spots}
use Rattle.lhm_ring.proofs.Names.{sym, ℕ, ◌%◌, ◌++◌, ◌+◌, ◌<◌, ◌∙◌, ◌∷◌, ◌≡◌, ◌≤◌}
use Rattle.lhm_ring.proofs.indexes.Chains.{ChainFirst-some, IsChain-changed, IsChain-tail, none-IsChain}
use Rattle.lhm_ring.proofs.indexes.Spots.{IsHeld-spot, OfNodeAt-spot, OnNode, OnNode-rearranged, PutsIn-bucket, PutsIn-spots_of}
use Rattle.lhm_ring.proofs.indexes.{IndexTakes.length-HasChains, Spots.SplitAround-rearranged}
use Rattle.lhm_ring.proofs.lists.Rearranged.{IsRearranged-less_middle, IsRearranged-more_middle, length-IsRearranged}
use Rattle.std.proofs.lemmas.List.{append_cancel_right, reverse-append}

-- the chain of the held node x: us come before it there, and vs after it
pub record OnItsChain {K V : Type 0} (heads : List (Option Ptr)) (hash : ℕ) (nodes : List (Held (K × V))) (x : Held (K × V)) : Type 0 where
  pub us : List Spot
  pub vs : List Spot
  pub linked : IsChain (get_or heads (hash % length heads) None) (us ++ spot x ∷ vs)
  pub holds : IsRearranged (us ++ spot x ∷ vs) (filter (is_in (length heads) (hash % length heads)) (spots nodes))

-- on the way to the node at p, along its chain, which is cut behind it: here comes after before
pub record IsTowards {K V : Type 0} (heads : List (Option Ptr)) (hash : ℕ)
    (nodes cut : List (Held (K × V))) (p : Ptr) (link before : Option Ptr) (here : Ptr)
    (passed : ℕ) : Type 0 where
  pub held : IsHeld nodes p
  pub hash_is : hash ≡ held.node.hash
  pub link_is : link ≡ held.node.link
  pub cut_is : cut ≡ held.before ++ linked_to None held.node ∷ held.after
  pub chain : OnItsChain heads hash nodes held.node
  pub on : SplitAt (λ s. s.at) (chain.us ++ spot (linked_to None held.node) ∷ []) here
  pub behind : IsLast before on.before
  pub passed_is : passed ≡ length on.before

-- ---- lists

-- the same except for the last
push-injective : {X : Type 0} (us : List X) (u : X) (vs : List X) (v : X) → us ++ u ∷ [] ≡ vs ++ v ∷ [] → us ≡ vs
push-injective us u vs v e =
    let turned : u ∷ reverse us ≡ v ∷ reverse vs = sym (reverse-append us (u ∷ [])) ∙ ap reverse e ∙ reverse-append vs (v ∷ []) in
    let same : v ≡ u = cc in
    append_cancel_right us vs (u ∷ []) (e ∙ ap (λ x. vs ++ x ∷ []) same)

-- ---- chains

-- the chain has a head
has_head : (h : Option Ptr) (us : List Spot) (s : Spot) (vs : List Spot) → IsChain h (us ++ s ∷ vs) → (q : Ptr) × (h ≡ Some q)
has_head h [] s vs c = (s.at, c.0)
has_head h (u ∷ us) s vs c = (u.at, c.0)

-- ---- the chain of a held node

module _ {K V : Type 0} {heads : List (Option Ptr)} {hash : ℕ} {nodes : List (Held (K × V))} {p : Ptr} (h : HasChains heads (spots nodes))
    (w : IsHeld nodes p) (e : OfNodeAt nodes p (λ x. hash ≡ x.hash)) where
  OnItsChain-held : OnItsChain heads hash nodes w.node
  OnItsChain-held =
      let n = length heads in
      let f = is_in n (hash % n) in
      let others = spots (w.before ++ w.after) in
      let some : 0 < n = length-HasChains (spot w.node) others h (PutsIn-spots_of w.before w.node w.after w.is) in
      let c = h.chains (hash % n) (mod-lt hash some) in
      let m = SplitAround-rearranged c.chain (spot w.node) (filter f others) (filter f (spots nodes)) c.holds
      (PutsIn-bucket w.before w.node w.after w.is n (e w.before w.node w.after w.is w.at_is)) in
      record {
        us = m.before;
        vs = m.after;
        linked = rw (← m.is) c.linked;
        holds = rw (← m.is) c.holds;
      }

  pub get_or-head : (q : Ptr) × (get_or heads (hash % length heads) None ≡ Some q)
  get_or-head = let c = OnItsChain-held in has_head (get_or heads (hash % length heads) None) c.us (spot w.node) c.vs c.linked

  pub IsTowards-start : (cut : List (Held (K × V))) (link : Option Ptr) (here : Ptr) → OfNodeAt nodes p (λ x. link ≡ x.link)
      → AtHeld nodes p (λ before x after. cut ≡ before ++ linked_to None x ∷ after)
      → Some here ≡ get_or heads (hash % length heads) None → IsTowards heads hash nodes cut p link None here 0
  IsTowards-start cut link here l d a =
      let c = OnItsChain-held in
      let t = spot (linked_to None w.node) in
      let f = ChainFirst-some here (c.us ++ t ∷ []) (sym a) (IsChain-changed _ c.us (spot w.node) t c.vs [] refl refl c.linked) in
      record {
        held = w;
        hash_is = e w.before w.node w.after w.is w.at_is;
        link_is = l w.before w.node w.after w.is w.at_is;
        cut_is = d w.before w.node w.after w.is w.at_is;
        chain = c;
        on = record { before = []; node = f.node; after = f.after; is = f.is; at_is = f.at_is };
        behind = inl (refl, refl);
        passed_is = refl;
      }

-- ---- the way

module _ {K V : Type 0} {heads : List (Option Ptr)} {hash : ℕ} {nodes cut : List (Held (K × V))} {p : Ptr} {link before : Option Ptr}
    {here : Ptr} {passed : ℕ} (w : IsTowards heads hash nodes cut p link before here passed) where
  -- the node on the way is one of the ring that is cut
  OnNode-here : OnNode (length heads) (hash % length heads) w.on.node cut
  OnNode-here =
      let n = length heads in
      let us = w.chain.us in
      let vs = w.chain.vs in
      let t = spot (linked_to None w.held.node) in
      let f = filter (is_in n (hash % n)) in
      let others = f (spots (w.held.before ++ w.held.after)) in
      let less = IsRearranged-less_middle us (spot w.held.node) vs others (f (spots nodes))
      (PutsIn-bucket w.held.before w.held.node w.held.after w.held.is n w.hash_is) w.chain.holds in
      let more = IsRearranged-more_middle us t vs others (f (spots cut))
      (PutsIn-bucket w.held.before (linked_to None w.held.node) w.held.after w.cut_is n w.hash_is) less in
      let all = sym (append_assoc us (t ∷ []) vs) ∙ ap (λ v. v ++ vs) w.on.is ∙ append_assoc w.on.before (w.on.node ∷ w.on.after) vs in
      OnNode-rearranged n (hash % n) w.on.before w.on.node (w.on.after ++ vs) cut more all

  pub IsHeld-towards : IsHeld cut here
  IsHeld-towards = IsHeld-spot OnNode-here.of w.on.at_is

  pub passed-below : passed + 1 ≤ length nodes
  passed-below =
      let us = w.chain.us in
      let q = is_in (length heads) (hash % length heads) in
      let a = length-IsRearranged (us ++ spot w.held.node ∷ w.chain.vs) (filter q (spots nodes)) w.chain.holds in
      let b = length-append us (spot w.held.node ∷ w.chain.vs) in
      let c = length-append us (spot (linked_to None w.held.node) ∷ []) in
      grind (arith, length-append, length-filter, count_by-le-length, length-map)

  -- the rest of the chain, by the link that is read
  IsChain-todo : (read : Option Ptr) → OfNodeAt cut here (λ x. read ≡ x.link) → IsChain read w.on.after
  IsChain-todo read r =
      let head = get_or heads (hash % length heads) None in
      let t = spot (linked_to None w.held.node) in
      rw (OfNodeAt-spot (λ s. read ≡ s.link) OnNode-here.of w.on.at_is r)
      (IsChain-tail head w.on.before w.on.node w.on.after
      (rw (← w.on.is) (IsChain-changed head w.chain.us (spot w.held.node) t w.chain.vs [] refl refl w.chain.linked)))

  pub IsTowards-next : (read : Option Ptr) (next : Ptr) → OfNodeAt cut here (λ x. read ≡ x.link) → read ≡ Some next
      → IsTowards heads hash nodes cut p link (Some here) next (passed + 1)
  IsTowards-next read next r e =
      let b = ChainFirst-some next w.on.after e (IsChain-todo read r) in
      let k = length-append w.on.before (w.on.node ∷ []) in
      let m = w.passed_is in
      record {
        held = w.held;
        hash_is = w.hash_is;
        link_is = w.link_is;
        cut_is = w.cut_is;
        chain = w.chain;
        on = record {
          before = w.on.before ++ w.on.node ∷ [];
          node = b.node;
          after = b.after;
          is = w.on.is ∙ ap (λ v. w.on.before ++ w.on.node ∷ v) b.is
              ∙ sym (append_assoc w.on.before (w.on.node ∷ []) (b.node ∷ b.after));
          at_is = b.at_is;
        };
        behind = inr (record { before = w.on.before; node = w.on.node; is = refl; at_is = ap Some w.on.at_is });
        passed_is = (omega (arith, k, m));
      }

  pub IsOnChain-towards : (read : Option Ptr) → OfNodeAt cut here (λ x. read ≡ x.link) → read ≡ None
      → IsOnChain heads hash (spots nodes) before p
  IsOnChain-towards read r e =
      let z : w.on.after ≡ [] = none-IsChain w.on.after e (IsChain-todo read r) in
      let same = push-injective w.chain.us (spot (linked_to None w.held.node)) w.on.before w.on.node
      (w.on.is ∙ ap (λ v. w.on.before ++ w.on.node ∷ v) z) in
      record {
        done = w.chain.us;
        here = spot w.held.node;
        rest = w.chain.vs;
        linked = w.chain.linked;
        holds = w.chain.holds;
        behind = rw same w.behind;
        at_is = w.held.at_is;
      }

  -- the link is put back
  pub nodes-mended : (new : List (Held (K × V))) → AtHeld cut p (λ before' x after. new ≡ before' ++ linked_to link x ∷ after) → new ≡ nodes
  nodes-mended new s = grind arith

  pub IsHeld-towards_cut : IsHeld cut p
  IsHeld-towards_cut = record {
    before = w.held.before;
    node = linked_to None w.held.node;
    after = w.held.after;
    is = w.cut_is;
    at_is = w.held.at_is;
  }
