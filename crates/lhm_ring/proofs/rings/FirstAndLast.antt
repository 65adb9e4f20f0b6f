-- The first and the last of a ring, and what comes right behind a held node, and right before it.
use Rattle.lhm_ring.proofs.Names.{AllByRecursion, AreLinked, AtHeld, Cell, Held, IsRing, Links, List, Option, Ptr, Some, State, [], ap}
use Rattle.lhm_ring.proofs.Names.{append_assoc, contents, false, first_at, holders, is_block, last_at, last_of, led_to, links_at, next_at}
use Rattle.lhm_ring.proofs.Names.{next_of, null_ptr, prev_at, prev_of, refl, ring_cells, same_ptr, subst, sym, true, ◌++◌, ◌∙◌, ◌∷◌, ◌≡◌}
use Rattle.lhm_ring.proofs.lists.ForAll.{AllByRecursion-left, AllByRecursion-right}
use Rattle.lhm_ring.proofs.lists.Last.{AllByRecursion-last, first_from, last_from}
use Rattle.lhm_ring.proofs.lists.LinkRows.{AreLinked-cut, AreNeighbours-cut}
use Rattle.lhm_ring.proofs.lists.{Apart.IsFresh, Apart.IsFresh-null, Splits.SplitAround}
use Rattle.lhm_ring.proofs.rings.Contents.{pointers_of, pointers_of-append}
use Rattle.lhm_ring.proofs.rings.Insides.{AreBlocks-held, IsWhole, NodeAt-held, seen_of}
use Rattle.lhm_ring.proofs.rings.RingCells.{led_to-apart, links_at-ring_cells, next_at-null, prev_at-null}
use Rattle.lhm_ring.specs.declared.ring.Ring.TheInside.{Inside}

module _ {B : Type 0} where
  pub last_from-last_of : (t : Held B) (hs : List (Held B)) → last_from t.at (pointers_of hs) ≡ last_of t hs
  last_from-last_of t [] = refl
  last_from-last_of t (u ∷ hs) = last_from-last_of u hs

  pub led_to-first_from : (hs : List (Held B)) → IsFresh null_ptr (pointers_of hs)
      → led_to (first_from null_ptr (pointers_of hs)) ≡ first_at hs
  led_to-first_from [] f = refl
  led_to-first_from (t ∷ hs) f = led_to-apart t.at f.0

  led_to-last_from : (hs : List (Held B)) → IsFresh null_ptr (pointers_of hs) → led_to (last_from null_ptr (pointers_of hs)) ≡ last_at hs
  led_to-last_from [] f = refl
  led_to-last_from (t ∷ hs) f =
      led_to-apart (last_from t.at (pointers_of hs)) (AllByRecursion-last (λ q. same_ptr null_ptr q ≡ false) t.at (pointers_of hs) f.0 f.1)
      ∙ ap (λ q. Some q) (last_from-last_of t hs)

-- a node in the middle of a ring, and those beside it
module _ {B : Type 0} {cs : List (Cell Links B)} {ps : List Ptr} {spare : Option Ptr} {ss : List Ptr} {p : Ptr}
    (ring : IsRing cs ps spare ss) (s : SplitAround ps p) where
  row : AreLinked cs (null_ptr ∷ (s.before ++ p ∷ (s.after ++ null_ptr ∷ [])))
  row = subst (λ qs. AreLinked cs (null_ptr ∷ qs))
      (ap (λ qs. qs ++ null_ptr ∷ []) s.is ∙ append_assoc s.before (p ∷ s.after) (null_ptr ∷ [])) ring.linked

  pub prev_at-node : prev_at cs p ≡ last_from null_ptr s.before
  prev_at-node = (AreNeighbours-cut cs null_ptr s.before null_ptr (p ∷ s.after) row).1

  pub next_at-node : next_at cs p ≡ first_from null_ptr s.after
  next_at-node = (AreNeighbours-cut cs p [] null_ptr s.after
      (AreLinked-cut cs null_ptr s.before (p ∷ (s.after ++ null_ptr ∷ [])) row).1).0

module _ {K V : Type 0} (i : Inside K V) (ok : IsWhole i) {v : State (K × V)} (w : seen_of i ≡ v) where
  abbrev ps : List Ptr
  ps = holders i.nodes.cells

  abbrev held_is : contents i.nodes.cells ≡ v.held
  held_is = ap (λ z. z.held) w

  IsFresh-held : IsFresh null_ptr (pointers_of v.held)
  IsFresh-held = IsFresh-null (pointers_of v.held) (AreBlocks-held i ok w)

  pub led_to-first : led_to i.ends.first.ptr ≡ first_at v.held
  led_to-first = ap led_to (sym (next_at-null i.ends i.nodes.cells)
      ∙ (AreNeighbours-cut (ring_cells i.ends i.nodes.cells) null_ptr [] null_ptr ps ok.ring.ring.linked).0)
      ∙ ap (λ hs. led_to (first_from null_ptr (pointers_of hs))) held_is ∙ led_to-first_from v.held IsFresh-held

  pub led_to-last : led_to i.ends.last.ptr ≡ last_at v.held
  led_to-last = ap led_to (sym (prev_at-null i.ends i.nodes.cells)
      ∙ (AreNeighbours-cut (ring_cells i.ends i.nodes.cells) null_ptr ps null_ptr [] ok.ring.ring.linked).1)
      ∙ ap (λ hs. led_to (last_from null_ptr (pointers_of hs))) held_is ∙ led_to-last_from v.held IsFresh-held

  abbrev Free : Ptr → Type 0
  Free q = same_ptr null_ptr q ≡ false

  free : (xs : List (Held (K × V))) (t : Held (K × V)) (ys : List (Held (K × V))) → v.held ≡ xs ++ t ∷ ys
      → AllByRecursion Free (pointers_of xs ++ t.at ∷ pointers_of ys)
  free xs t ys is = subst (AllByRecursion Free) (ap pointers_of is ∙ pointers_of-append xs (t ∷ ys)) IsFresh-held

  module _ {p : Ptr} (block : is_block p ≡ true) {l : Links} (e : links_at i.nodes.cells p ≡ Some l) where
    pub AtHeld-next : AtHeld v.held p (λ xs t ys. led_to l.next.ptr ≡ first_at ys)
    AtHeld-next xs t ys is at =
        let read = links_at-ring_cells i.ends i.nodes.cells p block ∙ e in
        let s = NodeAt-held i ok w (record { before = xs; node = t; after = ys; is = is; at_is = at }) in
        ap led_to (sym (ap next_of read) ∙ next_at-node ok.ring.ring s) ∙ led_to-first_from ys
        (AllByRecursion-right Free (pointers_of xs) (t.at ∷ pointers_of ys) (free xs t ys is)).1

    pub AtHeld-previous : AtHeld v.held p (λ xs t ys. led_to l.prev.ptr ≡ last_at xs)
    AtHeld-previous xs t ys is at =
        let read = links_at-ring_cells i.ends i.nodes.cells p block ∙ e in
        let s = NodeAt-held i ok w (record { before = xs; node = t; after = ys; is = is; at_is = at }) in
        ap led_to (sym (ap prev_of read) ∙ prev_at-node ok.ring.ring s) ∙ led_to-last_from xs
        (AllByRecursion-left Free (pointers_of xs) (t.at ∷ pointers_of ys) (free xs t ys is))
