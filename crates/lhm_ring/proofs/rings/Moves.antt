-- A node of a ring moves: before another one, or to the back.
use Rattle.lhm_ring.proofs.Names.{AllByRecursion, AreNeighbours, AtCell, BeforeCell, Cell, Ends, Held, IfSome, IsAt, IsHeld, IsJoined}
use Rattle.lhm_ring.proofs.Names.{IsOwned, IsPlaceFor, IsRing, IsThere, Links, List, Nodes, None, Option, Position, Ptr, Some, State, []}
use Rattle.lhm_ring.proofs.Names.{ap, append-nil, arith, contents, false, first_at, holders, inl, inr, is_block, led_to, links_at, next_at}
use Rattle.lhm_ring.proofs.Names.{next_of, null_ptr, pointer_of, pointer_of_some, prev_at, prev_of, refl, ring_cells, same_ptr, subst, sym}
use Rattle.lhm_ring.proofs.Names.{target, true, true≢false, ◌++◌, ◌∙◌, ◌∷◌, ◌≡◌}
use Rattle.lhm_ring.proofs.lists.Apart.{IsApart-tail, IsFresh, IsFresh-head, same_ptr-equal, same_ptr-reflexive}
use Rattle.lhm_ring.proofs.lists.ForAll.{AllByRecursion-left, AllByRecursion-right}
use Rattle.lhm_ring.proofs.lists.Last.{AllByRecursion-first, AllByRecursion-last, first_from, last_from}
use Rattle.lhm_ring.proofs.rings.Contents.{HeldCut-contents, contents-relisted, pointers_of, pointers_of-append}
use Rattle.lhm_ring.proofs.rings.FirstAndLast.{next_at-node, prev_at-node}
use Rattle.lhm_ring.proofs.rings.Insides.{IsWhole, NodeAt-held, seen_of}
use Rattle.lhm_ring.proofs.rings.NodeOut.{AreNeighbours-out, IsFresh-row, IsOut, IsOut-joined, IsRing-joined, is_there-first}
use Rattle.lhm_ring.proofs.rings.RingCells.{IsAt-in_nodes, IsJoined-same, is_block-there, led_to-none, led_to-some, links_at-ring_cells}
use Rattle.lhm_ring.proofs.rings.{NodeOut.is_there-last, Order.IsOwned-moved, Writes.IsAt-there, Writes.cond-same}
use Rattle.lhm_ring.specs.declared.ring.Ring.TheInside.{Inside}

module _ {B : Type 0} where
  -- a link that leads to the first of hs, or nowhere if there is none
  pub first_from-led_to : (hs : List (Held B)) (q : Ptr) → led_to q ≡ first_at hs → q ≡ first_from null_ptr (pointers_of hs)
  first_from-led_to [] q e = led_to-none q e
  first_from-led_to (t ∷ hs) q e = led_to-some q t.at e

  -- what is held at q, among the others than t
  IsHeld-others : (xs : List (Held B)) (t : Held B) (ys us : List (Held B)) (u : Held B) (vs : List (Held B)) {q : Ptr} → u.at ≡ q
      → xs ++ t ∷ ys ≡ us ++ u ∷ vs → same_ptr t.at q ≡ false → IsHeld (xs ++ ys) q
  IsHeld-others [] t ys [] u vs at e n =
      let same : t ≡ u = cc in absurd (true≢false (sym (same_ptr-reflexive t.at) ∙ ap (same_ptr t.at) (ap (λ z. z.at) same ∙ at) ∙ n))
  IsHeld-others [] t ys (w ∷ us) u vs at e n = record { before = us; node = u; after = vs; is = cc; at_is = at }
  IsHeld-others (x ∷ xs) t ys [] u vs at e n =
      let same : x ≡ u = cc in record { before = []; node = x; after = xs ++ ys; is = refl; at_is = ap (λ z. z.at) same ∙ at }
  IsHeld-others (x ∷ xs) t ys (w ∷ us) u vs at e n =
      let rest : xs ++ t ∷ ys ≡ us ++ u ∷ vs = cc in let on = IsHeld-others xs t ys us u vs at rest n in
      record { before = x ∷ on.before; node = on.node; after = on.after; is = ap (λ zs. x ∷ zs) on.is; at_is = on.at_is }

module _ {K V : Type 0} (i : Inside K V) (whole : IsWhole i) {v : State (K × V)} (seen_as : seen_of i ≡ v) {p : Ptr}
    (block : is_block p ≡ true) (h : IsHeld v.held p) {l : Links} (read : links_at i.nodes.cells p ≡ Some l) where
  abbrev cs : List (Cell Links (K × V))
  cs = ring_cells i.ends i.nodes.cells

  abbrev ok : IsOwned cs (holders i.nodes.cells) i.spare i.len i.spares
  ok = whole.ring

  pub el : links_at cs p ≡ Some l
  el = links_at-ring_cells i.ends i.nodes.cells p block ∙ read

  abbrev others : List (Held (K × V))
  others = h.before ++ h.after

  is_there-held : {q : Ptr} → IsHeld v.held q → IsThere cs q
  is_there-held g =
      let s = NodeAt-held i whole seen_as g in let T : Ptr → Type 0 = λ q. IsThere cs q in
      (AllByRecursion-right T s.before (_ ∷ s.after) (subst (AllByRecursion T) s.is
      (AllByRecursion-left T (holders i.nodes.cells) ok.spare_pointers ok.ring.there.1))).0

  -- the nodes beside it are there
  pub is_there-neighbours : IsThere cs l.prev.ptr × IsThere cs l.next.ptr
  is_there-neighbours =
      let s = NodeAt-held i whole seen_as h in let T : Ptr → Type 0 = λ q. IsThere cs q in
      let all = subst (AllByRecursion T) s.is (AllByRecursion-left T (holders i.nodes.cells) ok.spare_pointers ok.ring.there.1) in (
        subst T (sym (prev_at-node ok.ring s) ∙ ap prev_of el)
            (AllByRecursion-last T null_ptr s.before ok.ring.there.0 (AllByRecursion-left T s.before (p ∷ s.after) all)),
        subst T (sym (next_at-node ok.ring s) ∙ ap next_of el)
            (AllByRecursion-first T null_ptr s.after ok.ring.there.0 (AllByRecursion-right T s.before (p ∷ s.after) all).1),
      )

  -- they are joined
  module _ {ds : List (Cell Links (K × V))} (j : IsJoined cs ds l.prev.ptr l.next.ptr) where
    pub IsOut-held : IsOut ds p (pointers_of others) (target i.spare) ok.spare_pointers
    IsOut-held = subst (λ qs. IsOut ds p qs (target i.spare) ok.spare_pointers) (sym (pointers_of-append h.before h.after))
        (IsOut-joined ok.ring (NodeAt-held i whole seen_as h) (IsJoined-same (sym (ap prev_of el)) (sym (ap next_of el)) j))

    pub is_there-moved : (x : Ptr) → led_to x ≡ Some p → IsThere ds x
    is_there-moved x is = subst (λ q. IsThere ds q) (sym (led_to-some x p is)) IsOut-held.there.0

    pub is_there-before : (b : Ptr) (o : Option (Position K V)) → led_to b ≡ pointer_of_some o
        → IfSome o (λ at. IsHeld v.held (pointer_of at)) → IsThere ds b
    is_there-before b None is g = subst (λ q. IsThere ds q) (sym (led_to-none b is)) IsOut-held.there.1.0
    is_there-before b (Some at) is g = j.there b ∙ subst (λ q. IsThere cs q) (sym (led_to-some b (pointer_of at) is)) (is_there-held g)

    -- the others, cut in two
    module _ (xs ys : List (Held (K × V))) (is : others ≡ xs ++ ys) where
      cut : pointers_of others ≡ pointers_of xs ++ pointers_of ys
      cut = ap pointers_of is ∙ pointers_of-append xs ys

      pub edge : AreNeighbours ds (last_from null_ptr (pointers_of xs)) (first_from null_ptr (pointers_of ys))
      edge = AreNeighbours-out IsOut-held (pointers_of xs) (pointers_of ys) cut

    -- where they are cut if the node comes right before b, or for null at the back
    pub record PlaceIn (b : Ptr) : Type 0 where
      pub before : List (Held (K × V))
      pub after : List (Held (K × V))
      pub is : others ≡ before ++ after
      pub prev_is : prev_at ds b ≡ last_from null_ptr (pointers_of before)

    abbrev pub PlaceIn-first : (xs ys : List (Held (K × V))) → others ≡ xs ++ ys → {b : Ptr} → led_to b ≡ first_at ys → PlaceIn b
    PlaceIn-first xs ys is {b} to =
        record { before = xs; after = ys; is = is; prev_is = ap (prev_at ds) (first_from-led_to ys b to) ∙ (edge xs ys is).1 }

    -- its own links still say where it was
    abbrev pub PlaceIn-own : {b : Ptr} → led_to b ≡ Some p → PlaceIn b
    PlaceIn-own {b} to = record {
      before = h.before;
      after = h.after;
      is = refl;
      prev_is = ap (prev_at ds) (led_to-some b p to) ∙ j.prev p ∙ cond-same (same_ptr l.next.ptr p) l.prev.ptr (prev_at cs p)
          (λ _. sym (ap prev_of el)) ∙ prev_at-node ok.ring (NodeAt-held i whole seen_as h);
    }

    pub PlaceIn-before : {b : Ptr} (o : Option (Position K V)) → led_to b ≡ pointer_of_some o
        → IfSome o (λ at. IsHeld v.held (pointer_of at)) → PlaceIn b
    PlaceIn-before None to g = PlaceIn-first others [] (sym (append-nil others)) to
    PlaceIn-before {b} (Some at) to g =
        let q = pointer_of at in
        (elim (same_ptr p q) as (λ y. same_ptr p q ≡ y → PlaceIn b) [
          | true ↦ λ t. PlaceIn-own (to ∙ ap (λ z. Some z) (sym (same_ptr-equal p q t)))
          | false ↦ λ t.
              let away = ap (λ z. same_ptr z q) h.at_is ∙ t in
              let s = IsHeld-others h.before h.node h.after g.before g.node g.after g.at_is (sym h.is ∙ g.is) away in
              PlaceIn-first s.before (s.node ∷ s.after) s.is (to ∙ ap (λ z. Some z) (sym s.at_is))
        ]) refl

    -- between the one before b and the one behind that
    module _ {b : Ptr} (at : PlaceIn b) where
      abbrev xs : List (Held (K × V))
      xs = at.before

      abbrev ys : List (Held (K × V))
      ys = at.after

      pub is_there-previous : {q : Ptr} → q ≡ prev_at ds b → IsThere ds q
      is_there-previous is = subst (λ x. IsThere ds x) (sym (is ∙ at.prev_is))
          (is_there-last IsOut-held (pointers_of xs) (pointers_of ys) (cut xs ys at.is))

      pub first_from-place : {q : Ptr} → q ≡ prev_at ds b → {z : Ptr} → z ≡ next_at ds q → z ≡ first_from null_ptr (pointers_of ys)
      first_from-place is to = to ∙ ap (next_at ds) (is ∙ at.prev_is) ∙ (edge xs ys at.is).0

      module _ {z : Ptr} (first : z ≡ first_from null_ptr (pointers_of ys)) where
        pub is_there-next : IsThere ds z
        is_there-next = subst (λ x. IsThere ds x) (sym first)
            (is_there-first IsOut-held (pointers_of xs) (pointers_of ys) (cut xs ys at.is))

        -- by two more joins
        module _ {x : Ptr} (to : led_to x ≡ Some p) {q : Ptr} (is : q ≡ prev_at ds b) {es : List (Cell Links (K × V))} {f : Ends}
            (fs : Nodes Links K V) (j₂ : IsJoined ds es q x) (j₃ : IsJoined es (ring_cells f fs.cells) x z) where
          IsRing-placed : IsRing (ring_cells f fs.cells) (pointers_of xs ++ p ∷ pointers_of ys) (target i.spare) ok.spare_pointers
          IsRing-placed = IsRing-joined IsOut-held (pointers_of xs) (pointers_of ys) (cut xs ys at.is)
              (IsJoined-same (is ∙ at.prev_is) (led_to-some x p to) j₂) (IsJoined-same (led_to-some x p to) first j₃)

          pub IsAt-placed : IsAt fs.cells p
          IsAt-placed = IsAt-in_nodes f fs.cells p block
              (IsAt-there (ring_cells f fs.cells) p (j₃.there p ∙ j₂.there p ∙ IsOut-held.there.0))

          -- z is a place for it
          place_for : (zs : List (Held (K × V))) → z ≡ first_from null_ptr (pointers_of zs) → IsFresh p (pointers_of zs)
              → IsFresh null_ptr (pointers_of zs) → IsPlaceFor fs.cells p z
          place_for [] first a b = inl first
          place_for (u ∷ us) first a b =
              let there = j₃.there z ∙ j₂.there z ∙ is_there-next in let apart = ap (same_ptr null_ptr) first ∙ b.0 in
              inr (
                IsAt-in_nodes f fs.cells z (is_block-there f fs.cells fs.blocks z apart there) (IsAt-there (ring_cells f fs.cells) z there),
                ap (same_ptr p) first ∙ a.0,
              )

          pub IsPlaceFor-placed : IsPlaceFor fs.cells p z
          IsPlaceFor-placed =
              let ss = ok.spare_pointers in let F : Ptr → Ptr → Type 0 = λ p q. same_ptr p q ≡ false in
              let own = AllByRecursion-right (F p) (pointers_of xs) (pointers_of ys)
              (subst (IsFresh p) (cut xs ys at.is) (IsFresh-row IsOut-held)) in
              let null = AllByRecursion-left (F null_ptr) (pointers_of others) ss (IsFresh-head null_ptr (pointers_of others ++ ss)
              (IsApart-tail p (null_ptr ∷ (pointers_of others ++ ss)) IsOut-held.apart)) in
              place_for ys first own (AllByRecursion-right (F null_ptr) (pointers_of xs) (pointers_of ys)
              (subst (IsFresh null_ptr) (cut xs ys at.is) null))

          -- it is listed there
          module _ (gs : Nodes Links K V) {y : Ptr} (same : y ≡ z)
              (listed : AtCell fs.cells p (λ us c vs. BeforeCell (us ++ vs) y (λ ds es. gs.cells ≡ ds ++ c ∷ es))) where
            pub contents-placed : contents gs.cells ≡ xs ++ h.node ∷ ys
            unfolding contents
            contents-placed = contents-relisted (HeldCut-contents fs.cells h.before h.node h.after
                (j₃.held ∙ j₂.held ∙ j.held ∙ ap (λ z. z.held) seen_as ∙ h.is)) h.at_is listed xs ys at.is (same ∙ first)

            order : holders gs.cells ≡ pointers_of xs ++ p ∷ pointers_of ys
            order = ap pointers_of contents-placed ∙ pointers_of-append xs (h.node ∷ ys)
                ∙ ap (λ q. pointers_of xs ++ q ∷ pointers_of ys) h.at_is

            pub IsOwned-placed : IsOwned (ring_cells f gs.cells) (holders gs.cells) i.spare i.len i.spares
            IsOwned-placed = let free = subst (IsPlaceFor fs.cells p) (sym same) IsPlaceFor-placed in
                IsOwned-moved fs gs IsAt-placed free listed f order (record {
                  spare_pointers = ok.spare_pointers;
                  ring = IsRing-placed;
                  held_count = let a = IsRing-placed.count in let b = j₃.count ∙ j₂.count ∙ j.count ∙ ok.ring.count in
                      let c = ok.held_count in
                      omega arith;
                  enough_spares = ok.enough_spares;
                  bounded = ok.bounded;
                })

-- what is asked of a place that may be none
pub IfSome-pointer : {K V : Type 0} (P : Ptr → Type 0) (o : Option (Position K V)) → IfSome o (λ at. P (pointer_of at))
    → IfSome (pointer_of_some o) P
IfSome-pointer P o h = grind arith
