-- A part of what nodes hold, each right after the one before: its first and its last, and what is left without them.
use Rattle.lhm_ring.proofs.Names.{AreLinked, Cell, HasEnds, HasSpan, Held, Holds, IsApart, IsAt, IsHeld, IsSpan, Links, List, None, Ptr}
use Rattle.lhm_ring.proofs.Names.{Some, [], ap, append-nil, append_assoc, arith, body_at, cond, contents, from_at, held, last_of, left}
use Rattle.lhm_ring.proofs.Names.{length, length-append, link_of, links_at, map-append, next_at, next_of, pointers, prev_at, prev_of, refl}
use Rattle.lhm_ring.proofs.Names.{span, subst, sym, take, take-length, triples, with_body, ℕ, ◌++◌, ◌-◌, ◌∙◌, ◌∷◌, ◌≡◌}
use Rattle.lhm_ring.proofs.lists.{Apart.IsApart-tail, Apart.IsFresh-head, Apart.same_ptr-reflexive, Cuts.same_ptr-fresh, Last.last_from}
use Rattle.lhm_ring.proofs.rings.Contents.{HeldCut-contents, Holds-content, IsAt-content, content_at, content_at-held, contents-emptied}
use Rattle.lhm_ring.proofs.rings.Ends.{First, Last, Last-last_at, first_held, last_held}
use Rattle.lhm_ring.proofs.rings.{FirstAndLast.last_from-last_of, Holders.IsApart-holders, Rebodied.links_at-with_body}
use Rattle.lhm_ring.{proofs.rings.Contents.held-content, proofs.rings.Contents.pointers_of, specs.SameNodes.AreLinked-same}
use Rattle.std.proofs.lemmas.List.{take-append-le}

module _ {B : Type 0} (cs : List (Cell Links B)) where
  pub AreLinked-tail : (x : Ptr) (xs : List Ptr) → AreLinked cs (x ∷ xs) → AreLinked cs xs
  AreLinked-tail x xs k = grind arith

  -- what is in a row behind p
  pub HasEnds-behind : (p : Ptr) (hs : List (Held B)) {b : Ptr} → AreLinked cs (p ∷ pointers_of hs)
      → last_from p (pointers_of hs) ≡ b → HasEnds hs (next_at cs p) b
  HasEnds-behind p [] k e = tt
  HasEnds-behind p (t ∷ ts) k e = (sym k.0.0, sym (last_from-last_of t ts) ∙ e)

  -- the first of a span, and the rest of it
  pub first : (hs : List (Held B)) {f b : Ptr} {n : ℕ} → IsSpan cs hs f b n → (n ≡ 0 → ⊥)
      → (t : First hs f) × IsSpan cs t.after (next_at cs f) b (n - 1)
  first [] s some = absurd (some (sym s.count))
  first (t ∷ ts) {f} {b} s some = (
    record { node = t; after = ts; is = refl; at_is = s.ends.0 },
    record {
      count = let e = s.count in omega arith;
      linked = AreLinked-tail t.at (pointers_of ts) s.linked;
      ends = subst (λ p. HasEnds ts (next_at cs p) b) s.ends.0 (HasEnds-behind t.at ts s.linked (last_from-last_of t ts ∙ s.ends.1));
    },
  )

  ahead : (x : Held B) (xs : List (Held B)) (t : Held B) → AreLinked cs (pointers_of (x ∷ xs ++ t ∷ []))
      → AreLinked cs (pointers_of (x ∷ xs)) × (last_of x xs ≡ prev_at cs t.at)
  ahead x [] t k = (tt, sym k.0.1)
  ahead x (y ∷ ys) t k = let r = ahead y ys t k.1 in ((k.0, r.0), r.1)

  but_last : (hs : List (Held B)) (t : Held B) (f b : Ptr) → AreLinked cs (pointers_of (hs ++ t ∷ [])) → HasEnds (hs ++ t ∷ []) f b
      → AreLinked cs (pointers_of hs) × HasEnds hs f (prev_at cs t.at)
  but_last [] t f b k h = (tt, tt)
  but_last (x ∷ xs) t f b k h = let r = ahead x xs t k in (r.0, (h.0, r.1))

  -- the last of it, and the rest
  pub last : (hs : List (Held B)) {f b : Ptr} {n : ℕ} → IsSpan cs hs f b n → (n ≡ 0 → ⊥)
      → (t : Last hs b) × IsSpan cs t.before f (prev_at cs b) (n - 1)
  last [] s some = absurd (some (sym s.count))
  last (t ∷ ts) {f} {b} {n} s some =
      let l = Last-last_at (t ∷ ts) {o = Some (last_of t ts)} refl (ap (λ p. Some p) s.ends.1) in
      let r = but_last l.before l.node f b (subst (λ hs. AreLinked cs (pointers_of hs)) l.is s.linked)
      (subst (λ hs. HasEnds hs f b) l.is s.ends) in let e = ap length (sym l.is) ∙ s.count in (
        l,
        record {
          count = omega (arith, length-append l.before (l.node ∷ []));
          linked = r.0;
          ends = subst (λ p. HasEnds l.before f (prev_at cs p)) l.at_is r.1;
        },
      )

module _ {B : Type 0} where
  from_at-past : (us : List (Held B)) (t : Held B) (vs : List (Held B)) → IsApart (pointers_of (us ++ t ∷ vs))
      → from_at t.at (us ++ t ∷ vs) ≡ t ∷ vs
  unfolding from_at
  from_at-past [] t vs d = ap (λ y. cond y (t ∷ vs) (from_at t.at vs)) (same_ptr-reflexive t.at)
  from_at-past (u ∷ us) t vs d = let hs = us ++ t ∷ vs in
      ap (λ y. cond y (u ∷ hs) (from_at t.at hs)) (same_ptr-fresh (λ t. t.at) u.at us t vs (IsFresh-head u.at (pointers_of hs) d))
      ∙ from_at-past us t vs (IsApart-tail u.at (pointers_of hs) d)

-- a part of what nodes hold
module _ {B : Type 0} {cs : List (Cell Links B)} (d : IsApart (pointers cs)) where
  take-span : (us hs vs : List (Held B)) → contents cs ≡ us ++ (hs ++ vs) → {f b : Ptr} {n : ℕ} → IsSpan cs hs f b n → span cs n f ≡ hs
  take-span us [] vs is {f} s = ap (λ k. span cs k f) (sym s.count)
  take-span us (t ∷ ts) vs is s =
      (λ i. take (sym s.count i) (from_at (sym s.ends.0 i) (is i)))
      ∙ ap (take (length (t ∷ ts))) (from_at-past us t (ts ++ vs) (subst (λ hs. IsApart (pointers_of hs)) is (IsApart-holders cs d)))
      ∙ take-append-le (length (t ∷ ts)) (t ∷ ts) vs (omega arith) ∙ take-length (t ∷ ts)

  module _ {f b : Ptr} {n : ℕ} (s : HasSpan cs f b n) where
    pub span-part : span cs n f ≡ s.part
    span-part = take-span s.before s.part s.after s.is s.span

    pub length-span : n ≡ length (span cs n f)
    length-span = sym s.span.count ∙ ap length (sym span-part)

    -- what is read where a triple of it lies
    content_at-part : {p : Ptr} (h : IsHeld s.part p) → content_at cs p ≡ Some h.node
    content_at-part h = content_at-held (HeldCut-contents cs (s.before ++ h.before) h.node (h.after ++ s.after)
        (s.is ∙ ap (λ hs. s.before ++ (hs ++ s.after)) h.is ∙ ap (λ hs. s.before ++ hs) (append_assoc h.before (h.node ∷ h.after) s.after)
        ∙ sym (append_assoc s.before h.before (h.node ∷ (h.after ++ s.after))))) h.at_is d

    module _ (some : n ≡ 0 → ⊥) where
      content-first : content_at cs f ≡ Some (first cs s.part s.span some).0.node
      content-first = content_at-part (first_held (first cs s.part s.span some).0)

      content-last : content_at cs b ≡ Some (last cs s.part s.span some).0.node
      content-last = content_at-part (last_held (last cs s.part s.span some).0)

      pub IsAt-first : IsAt cs f
      IsAt-first = IsAt-content cs f content-first

      pub Holds-first : Holds cs f
      Holds-first = Holds-content cs f content-first

      pub IsAt-last : IsAt cs b
      IsAt-last = IsAt-content cs b content-last

      pub Holds-last : Holds cs b
      Holds-last = Holds-content cs b content-last

      abbrev pub HasSpan-behind_first : {l : Links} → links_at cs f ≡ Some l → {q : Ptr} → q ≡ l.next.ptr → HasSpan cs q b (n - 1)
      HasSpan-behind_first e is = let r = first cs s.part s.span some in let t = r.0 in record {
        before = s.before ++ t.node ∷ [];
        part = t.after;
        after = s.after;
        is = s.is ∙ ap (λ hs. s.before ++ (hs ++ s.after)) t.is ∙ sym (append_assoc s.before (t.node ∷ []) (t.after ++ s.after));
        span = subst (λ p. IsSpan cs t.after p b (n - 1)) (ap next_of e ∙ sym is) r.1;
      }

      abbrev pub HasSpan-ahead_of_last : {l : Links} → links_at cs b ≡ Some l → {q : Ptr} → q ≡ l.prev.ptr → HasSpan cs f q (n - 1)
      HasSpan-ahead_of_last e is = let r = last cs s.part s.span some in let t = r.0 in record {
        before = s.before;
        part = t.before;
        after = t.node ∷ s.after;
        is = s.is ∙ ap (λ hs. s.before ++ (hs ++ s.after)) t.is ∙ ap (λ hs. s.before ++ hs) (append_assoc t.before (t.node ∷ []) s.after);
        span = subst (λ p. IsSpan cs t.before f p (n - 1)) (ap prev_of e ∙ sym is) r.1;
      }

  module _ {f b : Ptr} {n : ℕ} (s : HasSpan cs f b n) (some : n ≡ 0 → ⊥) {l : Links} {q : Ptr} {x : B} where
    pub span-first : links_at cs f ≡ Some l → q ≡ l.next.ptr → body_at cs f ≡ Some x
        → span cs n f ≡ held f l.hash (link_of (Some l)) x ∷ span cs (n - 1) q
    span-first e is h = span-part s ∙ (first cs s.part s.span some).0.is
        ∙ (λ i. held-content cs f (content-first s some) e h i ∷ sym (span-part (HasSpan-behind_first s some e is)) i)

    pub span-last : links_at cs b ≡ Some l → q ≡ l.prev.ptr → body_at cs b ≡ Some x
        → span cs n f ≡ span cs (n - 1) f ++ held b l.hash (link_of (Some l)) x ∷ []
    span-last e is h = span-part s ∙ (last cs s.part s.span some).0.is
        ∙ (λ i. sym (span-part (HasSpan-ahead_of_last s some e is)) i ++ held-content cs b (content-last s some) e h i ∷ [])

-- all that nodes hold is such a part
abbrev pub HasSpan-whole : {B : Type 0} {cs : List (Cell Links B)} {f b : Ptr} {n : ℕ} → IsSpan cs (contents cs) f b n → HasSpan cs f b n
HasSpan-whole {cs = cs} s = record { before = []; part = contents cs; after = []; is = sym (append-nil (contents cs)); span = s }

-- one end of it is moved out
module _ {B : Type 0} {cs ds : List (Cell Links B)} (d : IsApart (pointers cs)) {f b : Ptr} {n : ℕ} (s : IsSpan cs (contents cs) f b n)
    (some : n ≡ 0 → ⊥) where
  stays : (p : Ptr) {l : Links} → links_at cs p ≡ Some l → ds ≡ with_body p None cs → {hs : List (Held B)} → contents ds ≡ hs → {g c : Ptr}
      → IsSpan cs hs g c (n - 1) → IsSpan ds (contents ds) g c (n - 1)
  stays p e is left {g} {c} r =
      let same : (q : Ptr) → links_at ds q ≡ links_at cs q = λ q. ap (λ zs. links_at zs q) is ∙ links_at-with_body p None cs q in
      subst (λ hs. IsSpan ds hs g c (n - 1)) (sym left) (record {
        count = r.count;
        linked = AreLinked-same cs ds (λ q. ap next_of (same q)) (λ q. ap prev_of (same q)) _ r.linked;
        ends = r.ends;
      })

  rest_of_first : ds ≡ with_body f None cs → contents ds ≡ (first cs (contents cs) s some).0.after
  rest_of_first = let t = (first cs (contents cs) s some).0 in
      contents-emptied (HeldCut-contents cs [] t.node t.after t.is) t.at_is d

  pub IsSpan-rest_of_first : {l : Links} → links_at cs f ≡ Some l → {q : Ptr} → q ≡ l.next.ptr → ds ≡ with_body f None cs
      → IsSpan ds (contents ds) q b (n - 1)
  IsSpan-rest_of_first e to is = stays f e is (rest_of_first is) (HasSpan-behind_first d (HasSpan-whole s) some e to).span

  pub triples-first_taken : {l : Links} → links_at cs f ≡ Some l → {x : B} → body_at cs f ≡ Some x → ds ≡ with_body f None cs
      → triples (contents cs) ≡ (l.hash, x) ∷ triples (contents ds)
  triples-first_taken e h is = ap triples ((first cs (contents cs) s some).0.is
      ∙ (λ i. held-content cs f (content-first d (HasSpan-whole s) some) e h i ∷ sym (rest_of_first is) i))

  rest_of_last : ds ≡ with_body b None cs → contents ds ≡ (last cs (contents cs) s some).0.before
  rest_of_last is = let t = (last cs (contents cs) s some).0 in
      contents-emptied (HeldCut-contents cs t.before t.node [] t.is) t.at_is d is ∙ append-nil t.before

  pub IsSpan-rest_of_last : {l : Links} → links_at cs b ≡ Some l → {q : Ptr} → q ≡ l.prev.ptr → ds ≡ with_body b None cs
      → IsSpan ds (contents ds) f q (n - 1)
  IsSpan-rest_of_last e to is = stays b e is (rest_of_last is) (HasSpan-ahead_of_last d (HasSpan-whole s) some e to).span

  pub triples-last_taken : {l : Links} → links_at cs b ≡ Some l → {x : B} → body_at cs b ≡ Some x → ds ≡ with_body b None cs
      → triples (contents cs) ≡ triples (contents ds) ++ (l.hash, x) ∷ []
  triples-last_taken e h is = ap triples ((last cs (contents cs) s some).0.is
      ∙ (λ i. sym (rest_of_last is) i ++ held-content cs b (content-last d (HasSpan-whole s) some) e h i ∷ []))
      ∙ map-append (λ (t : Held B). (t.hash, t.pair)) (contents ds) (held b _ _ _ ∷ [])
