-- For callers: keys and pairs at numbers. A lemma is stated at their equality, so that `grind` has
-- none to find; the first part of a conclusion shows it the call to match.
use Rattle.std.proofs.Common.{◌≡◌, ℕ, ◌+◌, ◌<◌, ◌≤◌, List, [], ◌∷◌, ◌++◌, length, take, filter, not, Option, Some, None, is_some, true}
use Rattle.std.proofs.Common.{option_to_list, refl, sym, ap, ap₂, ◌∙◌, true≢false, nat_eq, arith}
use Rattle.std.{proofs.lemmas.Bool.eqb-true, specs.Cmp.nat_eq_equiv, specs.Map.keys_of}
use Rattle.linked_hash_map.specs.Pairs.{key_or, find, value_at, without, to_front, put, put_front}
use Rattle.linked_hash_map.specs.declared.map.{Mode.Mode, Mode.TheVariants.Touch}
use Rattle.linked_hash_map.proofs.Callers.Ends.{keys_of-take, take-keys_of, to_front-put, value_at-take}
use Rattle.linked_hash_map.proofs.Callers.Keys.{length-put_most, keys_of-to_back_own, keys_of-without}
use Rattle.linked_hash_map.proofs.Callers.{Lookups.eq-find, Lookups.eq-stored, Turns.cons-keys_of_first}

module _ {V : Type 0} (mode : Mode) (pairs : List (ℕ × V)) (k : ℕ) (v : V) where
  stored : key_or k (find nat_eq pairs k) ≡ k
  stored = sym (eqb-true k (key_or k (find nat_eq pairs k)) (eq-stored nat_eq_equiv pairs k))

  pub keys_of-put_number : mode ≡ Touch
      → (put nat_eq mode pairs k v ≡ put nat_eq mode pairs k v)
      × (keys_of (put nat_eq mode pairs k v)
      ≡ filter (λ j. not (nat_eq k j)) (keys_of pairs) ++ k ∷ [])
  keys_of-put_number touch = (refl, ap (λ m. keys_of (put nat_eq m pairs k v)) touch ∙ keys_of-to_back_own nat_eq_equiv pairs k v eqb-true)

  pub length-put_number : (put nat_eq mode pairs k v ≡ put nat_eq mode pairs k v) × (length (put nat_eq mode pairs k v) ≤ length pairs + 1)
  length-put_number = (refl, length-put_most nat_eq mode pairs k v)

  -- the pairs, if the key goes to the back
  pub put_number : mode ≡ Touch → (put nat_eq mode pairs k v ≡ put nat_eq mode pairs k v)
      × (put nat_eq mode pairs k v ≡ without nat_eq pairs k ++ (k, v) ∷ [])
  put_number touch = (refl, ap (λ m. put nat_eq m pairs k v) touch ∙ ap (λ j. without nat_eq pairs k ++ (j, v) ∷ []) stored)

  -- a pair that is put in at the front
  pub put_front_number : mode ≡ Touch → (put_front nat_eq mode pairs k v ≡ put_front nat_eq mode pairs k v)
      × (put_front nat_eq mode pairs k v ≡ (k, v) ∷ without nat_eq pairs k)
  put_front_number touch = (refl, ap (λ m. put_front nat_eq m pairs k v) touch ∙ ap (λ j. (j, v) ∷ without nat_eq pairs k) stored)

  -- the pair that was put in, moved to the front
  pub to_front-put_number : (put nat_eq mode pairs k v ≡ put nat_eq mode pairs k v)
      × (to_front nat_eq (put nat_eq mode pairs k v) k ≡ (k, v) ∷ without nat_eq pairs k)
  to_front-put_number = (refl, to_front-put nat_eq_equiv mode pairs k v ∙ ap (λ j. (j, v) ∷ without nat_eq pairs k) stored)

  pub keys_of-put_to_front : {inserted moved : List (ℕ × V)}
      → inserted ≡ put nat_eq mode pairs k v → moved ≡ to_front nat_eq inserted k
      → keys_of moved ≡ k ∷ filter (λ j. not (nat_eq k j)) (keys_of pairs)
  keys_of-put_to_front put_is moved_is = grind (arith, to_front-put_number, keys_of-without)

pub keys_of-without_number : {V : Type 0} (pairs : List (ℕ × V)) (k : ℕ)
    → (without nat_eq pairs k ≡ without nat_eq pairs k)
    × (keys_of (without nat_eq pairs k) ≡ filter (λ j. not (nat_eq k j)) (keys_of pairs))
keys_of-without_number pairs k = (refl, keys_of-without nat_eq pairs k)

-- the keys, if one that is present goes to the front
pub keys_of-to_front_number : {V : Type 0} (pairs : List (ℕ × V)) (k : ℕ) → is_some (find nat_eq pairs k) ≡ true
    → (to_front nat_eq pairs k ≡ to_front nat_eq pairs k)
    × (keys_of (to_front nat_eq pairs k) ≡ k ∷ filter (λ j. not (nat_eq k j)) (keys_of pairs))
keys_of-to_front_number {V} pairs k there = (refl, by_pair (find nat_eq pairs k) refl there)
  where
    by_pair : (o : Option (ℕ × V)) → find nat_eq pairs k ≡ o → is_some o ≡ true
        → keys_of (option_to_list o ++ without nat_eq pairs k) ≡ k ∷ filter (λ j. not (nat_eq k j)) (keys_of pairs)
    by_pair None is there = absurd (true≢false (sym there))
    by_pair (Some p) is there =
        ap₂ (λ j ks. j ∷ ks) (sym (eqb-true k p.0 (eq-find nat_eq_equiv pairs k p is))) (keys_of-without nat_eq pairs k)

-- the first of pairs, if some are kept
pub value_at-take_number : {V : Type 0} (n : ℕ) (pairs : List (ℕ × V)) (k : ℕ) (v : V) → 0 < n
    → (take n ((k, v) ∷ pairs) ≡ take n ((k, v) ∷ pairs)) × (value_at nat_eq (take n ((k, v) ∷ pairs)) k ≡ Some v)
value_at-take_number n pairs k v some = (refl, value_at-take nat_eq_equiv n pairs k v some)

-- which keys there are, and how many, at numbers
pub ruleset number_keys = (keys_of-put_number, length-put_number, cons-keys_of_first)

-- the pairs after an insertion in Touch, at numbers
pub ruleset number_pairs = (put_number, length-put_number)

-- the pair at the front, and the keys behind it, at numbers
pub ruleset front_keys =
    (to_front-put_number, put_front_number, length-put_number, keys_of-without_number, keys_of-take, take-keys_of, value_at-take_number)

-- the same, and the keys after a move of one that is present
pub ruleset moved_to_front = (front_keys, keys_of-to_front_number)
