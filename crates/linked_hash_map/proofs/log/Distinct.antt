-- The keys of a log's pairs differ, whatever the log.
use Rattle.std.proofs.Common.{◌≡◌, Bool, true, false, cond, ◌&&◌, List, [], ◌∷◌, ◌++◌, Option, arith, Some, None, filter, filter_map, refl}
use Rattle.std.proofs.Common.{sym, ap, ◌∙◌, subst, append-nil}
use Rattle.std.proofs.lemmas.Map.Keys.{IsDistinct-push, IsDistinct-head, IsDistinct-tail, IsDistinct-cons}
use Rattle.std.specs.{List.list_any, List.IsDistinct, List.AllByRecursion, List.cons_option, Map.keys_of, Cmp.IsEquivalence}
use Rattle.linked_hash_map.specs.declared.map.Mode.{Mode}
use Rattle.linked_hash_map.specs.Log.{Log, Event, moves, touched, live, pair_of, pairs, stands, standing, standing_in}
use Rattle.linked_hash_map.proofs.log.LiveKeys.{pair_of-same, keeps_same, any-filter}
use Rattle.linked_hash_map.proofs.{lists.Elements.by_last, log.Standing.standing-snoc, log.Standing.keeps}

all_filter : {K : Type 0} (P : K → Type 0) (p : K → Bool) (ks : List K) → AllByRecursion P ks → AllByRecursion P (filter p ks)
all_filter P p [] h = tt
all_filter P p (k ∷ ks) h = at (p k) (all_filter P p ks h.1)
  where
    at : (b : Bool) → AllByRecursion P (filter p ks) → AllByRecursion P (cond b (k ∷ filter p ks) (filter p ks))
    at true r = (h.0, r)
    at false r = r

distinct_filter : {K : Type 0} (eq : K → K → Bool) (p : K → Bool) (ks : List K) → IsDistinct eq ks → IsDistinct eq (filter p ks)
distinct_filter eq p [] h = h
distinct_filter eq p (k ∷ ks) h = at (p k) (distinct_filter eq p ks (IsDistinct-tail eq k ks h))
    (all_filter (λ y. eq k y ≡ false) p ks (IsDistinct-head eq k ks h))
  where
    at : (b : Bool) → IsDistinct eq (filter p ks)
        → AllByRecursion (λ y. eq k y ≡ false) (filter p ks)
        → IsDistinct eq (cond b (k ∷ filter p ks) (filter p ks))
    at true r a = IsDistinct-cons eq k (filter p ks) a r
    at false r a = r

distinct_nil : {K : Type 0} (V : Type 0) (eq : K → K → Bool) → IsDistinct eq (standing {V = V} eq [])
unfolding IsDistinct standing standing_in
distinct_nil V eq = tt

moved_key : {K : Type 0} (m : Mode) (l : Bool) (j k : K) → cond (moves m l) (Some j) None ≡ Some k → (j ≡ k) × (moves m l ≡ true)
moved_key m l j k h = grind arith

module _ {K V : Type 0} {eq : K → K → Bool} (laws : IsEquivalence eq) where
  -- one more key at the end, which the filter keeps out
  stands_distinct : (log : Log K V) (e : Event K V) (alive : K → Bool) (t : Option K) → ((k : K) → t ≡ Some k → keeps eq log e k ≡ false)
      → IsDistinct eq (standing eq log) → IsDistinct eq (filter (keeps eq log e) (standing eq log) ++ stands {V = V} eq alive [] t)
  stands_distinct log e alive None f d = rw append-nil (distinct_filter eq (keeps eq log e) (standing eq log) d)
  stands_distinct log e alive (Some k) f d = at (alive k)
    where
      apart : list_any (eq k) (filter (keeps eq log e) (standing eq log)) ≡ false
      apart = any-filter (eq k) (keeps eq log e) (keeps eq log e k) (keeps_same laws log e k)
          (standing eq log) ∙ ap (λ b. list_any (eq k) (standing eq log) && b) (f k refl)
          ∙ elim (list_any (eq k) (standing eq log)) as (λ b. (b && false) ≡ false)
          [ true ↦ refl | false ↦ refl ]

      at : (b : Bool) → IsDistinct eq (filter (keeps eq log e) (standing eq log) ++ cond (b && true) (k ∷ []) [])
      at true = IsDistinct-push laws (filter (keeps eq log e) (standing eq log)) k
          (distinct_filter eq (keeps eq log e) (standing eq log) d) apart
      at false = rw append-nil (distinct_filter eq (keeps eq log e) (standing eq log) d)

  drops_touched : (log : Log K V) (e : Event K V) (k : K) → touched eq (log, e) ≡ Some k → keeps eq log e k ≡ false
  drops_touched log e k h = grind (arith, moved_key)

  -- the keys that stand differ
  pub distinct-standing : (log : Log K V) → IsDistinct eq (standing eq log)
  distinct-standing = by_last (λ log. IsDistinct eq (standing eq log))
      (λ log e d. rw standing-snoc (stands_distinct log e (λ k. live (eq k) (log ++ e ∷ [])) (touched eq (log, e)) (drops_touched log e) d))
      (distinct_nil V eq)

  pairs_differ : (g : K → Option (K × V)) → ((q : K) (y : K × V) → g q ≡ Some y → eq q y.0 ≡ true) → (k : K) (ks : List K)
      → AllByRecursion (λ q. eq k q ≡ false) ks → AllByRecursion (λ q. eq k q ≡ false) (keys_of (filter_map g ks))
  pairs_differ g f k [] h = tt
  pairs_differ g f k (q ∷ ks) h = at (g q) refl (pairs_differ g f k ks h.1)
    where
      at : (o : Option (K × V)) → g q ≡ o
          → AllByRecursion (λ q. eq k q ≡ false) (keys_of (filter_map g ks))
          → AllByRecursion (λ q. eq k q ≡ false) (keys_of (cons_option o (filter_map g ks)))
      at None e r = r
      at (Some y) e r = (laws.symm k y.0 ∙ sym (laws.congr q y.0 k (f q y e)) ∙ laws.symm q k ∙ h.0, r)

  distinct_pairs : (g : K → Option (K × V)) → ((q : K) (y : K × V) → g q ≡ Some y → eq q y.0 ≡ true)
      → (ks : List K) → IsDistinct eq ks → IsDistinct eq (keys_of (filter_map g ks))
  distinct_pairs g f [] d = d
  distinct_pairs g f (q ∷ ks) d = at (g q) refl (distinct_pairs g f ks (IsDistinct-tail eq q ks d))
    where
      at : (o : Option (K × V)) → g q ≡ o → IsDistinct eq (keys_of (filter_map g ks))
          → IsDistinct eq (keys_of (cons_option o (filter_map g ks)))
      at None e r = r
      at (Some y) e r = IsDistinct-cons eq y.0 (keys_of (filter_map g ks))
          (subst (λ (t : K → Bool). AllByRecursion (λ z. t z ≡ false) (keys_of (filter_map g ks)))
          (λ i z. laws.congr q y.0 z (f q y e) i)
          (pairs_differ g f q ks (IsDistinct-head eq q ks d))) r

  -- the keys of a log's pairs differ
  pub distinct-pairs : (log : Log K V) → IsDistinct eq (keys_of (pairs eq log))
  unfolding pairs
  distinct-pairs log = distinct_pairs (λ k. pair_of (eq k) log)
      (λ q y h. pair_of-same (eq q) log y h) (standing eq log) (distinct-standing log)
