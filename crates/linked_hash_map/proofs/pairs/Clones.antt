-- Clones of pairs, inserted one after another.
use Rattle.linked_hash_map.proofs.Names.{Bool, IfNone, IsTrue, List, None, OnSome, Option, Some, [], ap, append-nil, append_assoc, arith}
use Rattle.linked_hash_map.proofs.Names.{false, length, length-append, map, max, refl, subst, sym, true, ℕ, ◌++◌, ◌+◌, ◌∙◌, ◌∷◌, ◌≡◌, ◌≤◌}
use Rattle.linked_hash_map.proofs.Names.{AllZip-last, IsTripleClone, KeepsSettings, AreClones, IsClone, rechained_raised, to_visit}
use Rattle.linked_hash_map.proofs.Names.{insert_each, LinkedMap, put, to_back, IsValid, Touch, IsEquivalence, AllByRecursion, AllZip}
use Rattle.linked_hash_map.proofs.Names.{IsDistinct, keys_of}
use Rattle.linked_hash_map.proofs.pairs.{ExtendSteps.to_visit-none, RehashCounts.rechained_raised-same}
use Rattle.linked_hash_map.proofs.pairs.Inserts.{insert_each-distinct, insert_each-last, length-put_most}
use Rattle.std.proofs.lemmas.Map.Entries.{entries_from_clone}

-- triples of a hash and a pair, and clones of them: their pairs
module _ {K V : Type 0} (IsKeyClone : K → K → Type 0) (IsValueClone : V → V → Type 0) where
  pub AreClones-of : (ts us : List (ℕ × (K × V))) → AllZip (IsTripleClone IsKeyClone IsValueClone) ts us
      → AreClones IsKeyClone IsValueClone (map (λ t. t.1) ts) (map (λ u. u.1) us)
  AreClones-of [] [] all = tt
  AreClones-of [] (u ∷ us) all = absurd all
  AreClones-of (t ∷ ts) [] all = absurd all
  AreClones-of (t ∷ ts) (u ∷ us) all = ((all.0.key, all.0.value), AreClones-of ts us all.1)

pub none-of : {K V : Type 0} (ts : List (ℕ × (K × V))) → map (λ t. t.1) ts ≡ [] → ts ≡ []
none-of [] e = refl
none-of (t ∷ ts) e = absurd (cc)

length-AllZip : {A B : Type 0} (R : A → B → Type 0) (xs : List A) (ys : List B) → AllZip R xs ys → length ys ≡ length xs
length-AllZip R [] [] all = refl
length-AllZip R [] (y ∷ ys) all = absurd all
length-AllZip R (x ∷ xs) [] all = absurd all
length-AllZip R (x ∷ xs) (y ∷ ys) all = let rest = length-AllZip R xs ys all.1 in omega arith

length-insert_each : {K V : Type 0} (eq : K → K → Bool) (pairs items : List (K × V))
    → length (insert_each eq Touch pairs items) ≤ length pairs + length items
length-insert_each eq pairs [] = omega arith
length-insert_each eq pairs (item ∷ items) =
    let one = length-put_most eq Touch pairs item.0 item.1 in
    grind (arith, length-insert_each eq (to_back eq pairs item.0 item.1) items)

-- clones of the first pairs of a map m are inserted into a map n with room for all, and the others
-- are to come
pub record HasCloned {K V S : Type 0} (eq : K → K → Bool) (IsKeyClone : K → K → Type 0)
    (IsValueClone : V → V → Type 0) (IsHasherClone : S → S → Type 0) (m : LinkedMap K V S)
    (others : List (K × V)) (n : LinkedMap K V S) : Type 0 where
  pub first : List (K × V)
  pub clones : List (K × V)
  pub split : first ++ others ≡ m.pairs
  pub each : AreClones IsKeyClone IsValueClone first clones
  pub inserted : n.pairs ≡ insert_each eq Touch [] clones
  pub capacity : n.capacity ≡ length m.pairs
  pub rechained : n.rechained ≡ 0
  pub hasher : IsHasherClone m.hasher n.hasher
  pub mode : n.mode ≡ Touch
  pub visit : to_visit n ≡ []

module _ {K V S : Type 0} {eq : K → K → Bool} {IsKeyClone : K → K → Type 0}
    {IsValueClone : V → V → Type 0} {IsHasherClone : S → S → Type 0} where
  -- at first all pairs are to come
  pub HasCloned-none : {m n : LinkedMap K V S} {others : List (K × V)} → others ≡ m.pairs → n.pairs ≡ [] → n.capacity ≡ length m.pairs
      → n.rechained ≡ 0 → IsHasherClone m.hasher n.hasher → n.mode ≡ Touch → HasCloned eq IsKeyClone IsValueClone IsHasherClone m others n
  HasCloned-none {n = n} all empty room uncounted of_hasher touch =
      record {
        first = [];
        clones = [];
        split = all;
        each = tt;
        inserted = empty;
        capacity = room;
        rechained = uncounted;
        hasher = of_hasher;
        mode = touch;
        visit = to_visit-none n empty;
      }

  -- one more clone is inserted; there are then no more pairs than are cloned
  pub HasCloned-put : {m before after : LinkedMap K V S} {these others : List (K × V)}
      → HasCloned eq IsKeyClone IsValueClone IsHasherClone m these before → {pair : K × V} → these ≡ pair ∷ others → {k : K} {v : V}
      → IsKeyClone pair.0 k → IsValueClone pair.1 v → after.pairs ≡ put eq before.mode before.pairs k v
      → after.capacity ≡ max before.capacity (length after.pairs)
      → after.rechained ≡ rechained_raised before.rechained (length before.pairs) before.capacity after.capacity
      → KeepsSettings before after → (old : Option V) → OnSome old (to_visit after ≡ []) → IfNone old (to_visit after ≡ to_visit before)
      → HasCloned eq IsKeyClone IsValueClone IsHasherClone m others after
  HasCloned-put {m} {before} {after} {these} {others} so_far {pair} next {k} {v} of_key of_value
      went_in raised counted same old ends stands =
      let put = went_in ∙ ap (λ mode. put eq mode before.pairs k v) so_far.mode in
      let inserted_is = ap length so_far.inserted in
      let bound = length-insert_each eq [] so_far.clones in
      let as_many = length-AllZip (λ p q. IsKeyClone p.0 q.0 × IsValueClone p.1 q.1) so_far.first so_far.clones so_far.each in
      let one = length-put_most eq Touch before.pairs k v in let after_is = ap length put in
      let whole = ap length so_far.split in let parts = length-append so_far.first these in
      let tail = ap length next in let as_before = so_far.capacity in
      let room : after.capacity ≡ before.capacity = omega arith in
      record {
        first = so_far.first ++ pair ∷ [];
        clones = so_far.clones ++ (k, v) ∷ [];
        split = append_assoc so_far.first (pair ∷ []) others ∙ ap (λ es. so_far.first ++ es) (sym next) ∙ so_far.split;
        each = AllZip-last (λ p q. IsKeyClone p.0 q.0 × IsValueClone p.1 q.1) so_far.first
            so_far.clones pair (k, v) so_far.each (of_key, of_value);
        inserted = put ∙ ap (λ es. to_back eq es k v) so_far.inserted ∙ sym (insert_each-last eq Touch [] so_far.clones (k, v));
        capacity = room ∙ so_far.capacity;
        rechained = counted
            ∙ ap (rechained_raised before.rechained (length before.pairs) before.capacity) room
            ∙ rechained_raised-same before.rechained (length before.pairs) before.capacity
            ∙ so_far.rechained;
        hasher = subst (IsHasherClone m.hasher) (sym same.hasher) so_far.hasher;
        mode = same.mode ∙ so_far.mode;
        visit = by_old old ends stands;
      }
    where
      by_old : (old : Option V) → OnSome old (to_visit after ≡ []) → IfNone old (to_visit after ≡ to_visit before) → to_visit after ≡ []
      by_old None ends stands = stands ∙ so_far.visit
      by_old (Some v) ends stands = ends

module _ {K V : Type 0} {eq : K → K → Bool} (laws : IsEquivalence eq) {IsKeyClone : K → K → Type 0}
    (IsValueClone : V → V → Type 0)
    (same : (k clone : K) → IsKeyClone k clone → IsTrue (eq k clone)) where
  -- a clone of a key differs from the clones of those that differ from the key
  apart : (k key : K) → eq k key ≡ true → (pairs clones : List (K × V)) → AreClones IsKeyClone IsValueClone pairs clones
      → AllByRecursion (λ y. eq k y ≡ false) (keys_of pairs) → AllByRecursion (λ y. eq key y ≡ false) (keys_of clones)
  apart k key is [] [] each differ = tt
  apart k key is [] (clone ∷ clones) each differ = absurd each
  apart k key is (pair ∷ pairs) [] each differ = absurd each
  apart k key is (pair ∷ pairs) (clone ∷ clones) each differ = grind (arith, apart k key is pairs clones each.1 differ.1)

  clones_differ : (pairs clones : List (K × V)) → AreClones IsKeyClone IsValueClone pairs clones
      → IsDistinct eq (keys_of pairs) → IsDistinct eq (keys_of clones)
  unfolding IsDistinct
  clones_differ [] [] each distinct = tt
  clones_differ [] (clone ∷ clones) each distinct = absurd each
  clones_differ (pair ∷ pairs) [] each distinct = absurd each
  clones_differ (pair ∷ pairs) (clone ∷ clones) each distinct = grind (arith, apart, clones_differ pairs clones each.1 distinct.1)

module _ {K V S : Type 0} {eq : K → K → Bool} (laws : IsEquivalence eq)
    {IsKeyClone : K → K → Type 0} {IsValueClone : V → V → Type 0}
    {IsHasherClone : S → S → Type 0} where
  -- with clones of all pairs inserted, it is a clone
  pub IsClone-all : {m n : LinkedMap K V S} {others : List (K × V)} → IsDistinct eq (keys_of m.pairs) → {left : LinkedMap K V S}
      → IsValid eq left → HasCloned eq IsKeyClone IsValueClone IsHasherClone m others n → others ≡ [] → left ≡ record n { mode = m.mode }
      → IsClone eq IsKeyClone IsValueClone IsHasherClone m left
  IsClone-all {m} {n} distinct {left} valid all none set =
      let whole : all.first ≡ m.pairs = sym (append-nil all.first) ∙ ap (λ es. all.first ++ es) (sym none) ∙ all.split in
      let each = subst (λ es. AreClones IsKeyClone IsValueClone es all.clones) whole all.each in
      let in_order = λ (same : (k clone : K) → IsKeyClone k clone → IsTrue (eq k clone)).
      subst (AreClones IsKeyClone IsValueClone m.pairs)
      (sym (ap (λ l. l.pairs) set ∙ all.inserted ∙ insert_each-distinct laws Touch all.clones
      (clones_differ laws IsValueClone same m.pairs all.clones each distinct))) each in
      record {
        pairs = (all.clones, each, ap (λ l. l.pairs) set ∙ all.inserted);
        capacity = ap (λ l. l.capacity) set ∙ all.capacity;
        rechained = ap (λ l. l.rechained) set ∙ all.rechained;
        hasher = subst (IsHasherClone m.hasher) (sym (ap (λ l. l.hasher) set)) all.hasher;
        mode = ap (λ l. l.mode) set;
        visit = ap to_visit set ∙ all.visit;
        valid = valid;
        in_order = in_order;
        same_pairs = λ keys values. entries_from_clone IsKeyClone IsValueClone keys values m.pairs left.pairs
            (in_order (λ k clone is. subst (λ j. eq k j ≡ true) (sym (keys k clone is)) (laws.refl k)));
      }
