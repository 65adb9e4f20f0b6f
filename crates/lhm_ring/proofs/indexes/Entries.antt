-- Nodes with no chain link: what a change of chain links alone leaves.
use Rattle.lhm_ring.proofs.lists.RearrangedCounts.{count_by-map}
use Rattle.lhm_ring.specs.Index.{OfNodeAt, count_in_bucket, count_with_hash, entries, spot, spots}
use Rattle.lhm_ring.specs.Ring.{AtHeld, Held, IsHeld, SplitAt, change_at, last_at, last_of, linked_to, revalued, triples}
use Rattle.lhm_ring.specs.Search.{Compares, CountsAll, CountsSome, HasKey, LacksKey}
use Rattle.std.proofs.Common.{Bool, List, None, Option, [], ap, arith, eqb, false, length, map, refl, subst, sym, true, ℕ, ◌%◌, ◌++◌, ◌∙◌}
use Rattle.std.proofs.{Common.◌∷◌, Common.◌≡◌, lemmas.List.length-map, lemmas.List.map-append, lemmas.Simd.map-map}
use Rattle.std.specs.Prelude.{count_by}
use denote.RawPtr.{Ptr}

pub entries-link : {K V : Type 0} (before : List (Held (K × V))) (x : Held (K × V)) (after : List (Held (K × V))) (l : Option Ptr)
    → entries (before ++ linked_to l x ∷ after) ≡ entries (before ++ x ∷ after)
entries-link before x after l =
    map-append (linked_to None) before (linked_to l x ∷ after) ∙ sym (map-append (linked_to None) before (x ∷ after))

pub entries-linked_to : {K V : Type 0} (old new : List (Held (K × V))) (p : Ptr) (l : Option Ptr) → IsHeld old p
    → AtHeld old p (λ before x after. new ≡ before ++ linked_to l x ∷ after) → entries new ≡ entries old
entries-linked_to old new p l h s = grind (arith, entries-link)

module _ {K V : Type 0} where
  pub entries-append : (xs ys : List (Held (K × V))) → entries (xs ++ ys) ≡ entries xs ++ entries ys
  entries-append xs ys = map-append (linked_to {B = K × V} None) xs ys

  -- nodes whose entries are cut at one of them are cut there too
  pub record EntriesCut (hs xs : List (Held (K × V))) (t : Held (K × V)) (ys : List (Held (K × V))) : Type 0 where
    pub split : SplitAt (linked_to None) hs t
    pub before_is : entries split.before ≡ xs
    pub after_is : entries split.after ≡ ys

  pub EntriesCut-split : (hs xs : List (Held (K × V))) (t : Held (K × V)) (ys : List (Held (K × V)))
      → entries hs ≡ xs ++ t ∷ ys → EntriesCut hs xs t ys
  EntriesCut-split [] [] t ys e = absurd cc
  EntriesCut-split [] (x ∷ xs) t ys e = absurd cc
  EntriesCut-split (h ∷ hs) [] t ys e =
      record { split = record { before = []; node = h; after = hs; is = refl; at_is = cc }; before_is = refl; after_is = cc }
  EntriesCut-split (h ∷ hs) (x ∷ xs) t ys e =
      let i = EntriesCut-split hs xs t ys cc in
      let k = i.split in
      record {
        split = record { before = h ∷ k.before; node = k.node; after = k.after; is = cc; at_is = k.at_is };
        before_is = cc;
        after_is = i.after_is;
      }

  -- nodes of the same entries
  module _ (old new : List (Held (K × V))) (p : Ptr) (same : entries new ≡ entries old) where
    pub IsHeld-kept : IsHeld old p → IsHeld new p
    IsHeld-kept h =
        let i = EntriesCut-split new (entries h.before) (linked_to None h.node) (entries h.after)
        (same ∙ ap entries h.is ∙ entries-append h.before (h.node ∷ h.after)) in
        let k = i.split in
        record { before = k.before; node = k.node; after = k.after; is = k.is; at_is = ap (λ v. v.at) k.at_is ∙ h.at_is }

    OfNodeAt-kept : (Q : Held (K × V) → Type 0) → OfNodeAt old p (λ x. Q (linked_to None x)) → OfNodeAt new p (λ x. Q (linked_to None x))
    OfNodeAt-kept Q f xs x ys is at =
        let i = EntriesCut-split old (entries xs) (linked_to None x) (entries ys) (sym same ∙ ap entries is ∙ entries-append xs (x ∷ ys)) in
        let k = i.split in
        subst Q k.at_is (f k.before k.node k.after k.is (ap (λ v. v.at) k.at_is ∙ at))

    pub HasKey-kept : (is_key : K → Bool) (hash : ℕ) → HasKey is_key hash old p → HasKey is_key hash new p
    HasKey-kept is_key hash h = record {
      held = IsHeld-kept h.held;
      hash_is = OfNodeAt-kept (λ x. x.hash ≡ hash) h.hash_is;
      key_is = OfNodeAt-kept (λ x. is_key x.pair.0 ≡ true) h.key_is;
    }

  pub length-entries : (hs : List (Held (K × V))) → length (entries hs) ≡ length hs
  length-entries hs = length-map hs (linked_to {B = K × V} None)

  entries-entries : (hs : List (Held (K × V))) → entries (entries hs) ≡ entries hs
  entries-entries = map-map (linked_to None) (linked_to {B = K × V} None)

  pub pointers-entries : (hs : List (Held (K × V))) → map (λ t. t.at) (entries hs) ≡ map (λ t. t.at) hs
  pointers-entries = map-map (λ t. t.at) (linked_to {B = K × V} None)

  pub triples-entries : (hs : List (Held (K × V))) → triples (entries hs) ≡ triples hs
  triples-entries = map-map (λ t. (t.hash, t.pair)) (linked_to {B = K × V} None)

  last_of-entries : (t : Held (K × V)) (hs : List (Held (K × V))) → last_of (linked_to None t) (entries hs) ≡ last_of t hs
  last_of-entries t [] = refl
  last_of-entries t (u ∷ hs) = last_of-entries u hs

  pub last_at-entries : (hs : List (Held (K × V))) → last_at (entries hs) ≡ last_at hs
  last_at-entries hs = grind (arith, last_of-entries)

  pub entries-change_at : (p : Ptr) (w : V) (hs : List (Held (K × V)))
      → entries (change_at p (revalued w) hs) ≡ change_at p (revalued w) (entries hs)
  entries-change_at p w [] = refl
  entries-change_at p w (t ∷ hs) = grind (arith, entries-change_at p w hs)

  -- what lies at a position of the entries
  pub IsHeld-entries : (hs : List (Held (K × V))) (p : Ptr) → IsHeld (entries hs) p → IsHeld hs p
  IsHeld-entries hs p h = IsHeld-kept (entries hs) hs p (sym (entries-entries hs)) h

  pub AtHeld-entries : (hs : List (Held (K × V))) (p : Ptr) (P : List (Held (K × V)) → Held (K × V) → List (Held (K × V)) → Type 0)
      → AtHeld hs p (λ xs t ys. P (entries xs) (linked_to None t) (entries ys)) → AtHeld (entries hs) p P
  AtHeld-entries hs p P h xs t ys e at =
      let i = EntriesCut-split hs xs t ys e in
      let k = i.split in
      let seen = h k.before k.node k.after k.is (ap (λ u. u.at) k.at_is ∙ at) in
      subst (λ (z : List (Held (K × V)) × (Held (K × V) × List (Held (K × V)))). P z.0 z.1.0 z.1.1)
      (λ j. (i.before_is j, (k.at_is j, i.after_is j))) seen

  -- searches
  pub HasKey-entries : (is_key : K → Bool) (hash : ℕ) (hs : List (Held (K × V))) (p : Ptr)
      → HasKey is_key hash hs p → HasKey is_key hash (entries hs) p
  HasKey-entries is_key hash hs p h = HasKey-kept hs (entries hs) p (entries-entries hs) is_key hash h

  pub LacksKey-entries : (is_key : K → Bool) (hash : ℕ) (hs : List (Held (K × V)))
      → LacksKey is_key hash hs → LacksKey is_key hash (entries hs)
  LacksKey-entries is_key hash hs none xs t ys e =
      let k = (EntriesCut-split hs xs t ys e).split in
      subst (λ u. Compares is_key hash u false) k.at_is (none k.before k.node k.after k.is)

  pub count_by-entries : (test : ℕ → Bool) (hs : List (Held (K × V)))
      → count_by (λ s. test s.hash) (spots (entries hs)) ≡ count_by (λ s. test s.hash) (spots hs)
  count_by-entries test hs =
      count_by-map (λ s. test s.hash) spot (entries hs) ∙ count_by-map (λ t. test t.hash) (linked_to {B = K × V} None) hs
      ∙ sym (count_by-map (λ s. test s.hash) spot hs)

  module _ (hs : List (Held (K × V))) (m n hash visited compared : ℕ) (wide : m ≡ n) where
    count_with_hash-entries : count_with_hash (spots (entries hs)) hash ≡ count_with_hash (spots hs) hash
    count_with_hash-entries = count_by-entries (λ k. eqb k hash) hs

    count_in_bucket-entries : count_in_bucket (spots (entries hs)) n hash ≡ count_in_bucket (spots hs) m hash
    count_in_bucket-entries = count_by-entries (λ k. eqb (k % n) (hash % n)) hs ∙ ap (λ k. count_in_bucket (spots hs) k hash) (sym wide)

    pub CountsSome-entries : CountsSome (spots hs) m hash visited compared → CountsSome (spots (entries hs)) n hash visited compared
    CountsSome-entries c = grind (arith, count_with_hash-entries, count_in_bucket-entries)

    pub CountsAll-entries : CountsAll (spots hs) m hash visited compared → CountsAll (spots (entries hs)) n hash visited compared
    CountsAll-entries c = grind (arith, count_with_hash-entries, count_in_bucket-entries)

-- nodes with the same entries are as many
pub length-same_entries : {K V : Type 0} (hs ks : List (Held (K × V))) → entries hs ≡ entries ks → length hs ≡ length ks
length-same_entries hs ks e = sym (length-entries hs) ∙ ap length e ∙ length-entries ks

-- those with the same triples too
pub length-same_triples : {B : Type 0} (hs ks : List (Held B)) → triples hs ≡ triples ks → length hs ≡ length ks
length-same_triples hs ks e = sym (length-map hs (λ t. (t.hash, t.pair))) ∙ ap length e ∙ length-map ks (λ t. (t.hash, t.pair))
