-- For callers: insertions at the front.
use Rattle.std.proofs.Common.{◌≡◌, ◌-◌, Bool, true, false, cond, List, [], ◌∷◌, ◌++◌, length, length-append, take, drop, Option, Some, None}
use Rattle.std.proofs.Common.{IsSome, is_some, filter, not, refl, sym, ap, ◌∙◌, arith}
use Rattle.std.specs.{Cmp.IsEquivalence, Map.keys_of}
use Rattle.linked_hash_map.specs.Pairs.{first, key_or, find, without, set_value, put, put_front}
use Rattle.linked_hash_map.proofs.Callers.Lookups.{eq-stored, find-put, find-without}
use Rattle.linked_hash_map.{specs.declared.map.Mode.Mode, specs.declared.map.Mode.TheVariants.Touch}
use Rattle.linked_hash_map.{specs.declared.map.Mode.TheVariants.Keep, specs.Updates.Updates, proofs.Callers.Keys.keys_of-set_value}
use Rattle.linked_hash_map.{proofs.Callers.Keys.keys_of-without, proofs.lists.Stretches.take-none, proofs.pairs.Calls.without-absent}

module _ {X : Type 0} where
  drop-length : (xs ys : List X) → drop (length xs) (xs ++ ys) ≡ ys
  drop-length [] ys = refl
  drop-length (x ∷ xs) ys = drop-length xs ys

  take-length : (xs ys : List X) → take (length xs) (xs ++ ys) ≡ xs
  take-length [] ys = take-none ys
  take-length (x ∷ xs) ys = ap (λ zs. x ∷ zs) (take-length xs ys)

  -- the last, moved before the others
  abbrev pub last_to_front : List X → List X
  last_to_front xs = drop (length xs - 1) xs ++ take (length xs - 1) xs

  pub last_to_front-append : (xs : List X) (x : X) → last_to_front (xs ++ x ∷ []) ≡ x ∷ xs
  last_to_front-append xs x =
      let index : length (xs ++ x ∷ []) - 1 ≡ length xs = omega (arith, length-append xs (x ∷ [])) in
      grind (arith, drop-length, take-length)

module _ {K V : Type 0} (eq : K → K → Bool) (mode : Mode) (pairs : List (K × V)) (k : K) (v : V) where
  pub put_front-absent : find eq pairs k ≡ None → put_front eq mode pairs k v ≡ (k, v) ∷ pairs
  put_front-absent none = grind (arith, without-absent)

  -- an insertion as usual, and then the last moved to the front in Touch
  pub put_front-put : IsSome (find eq pairs k) → (inserted after : List (K × V)) → inserted ≡ put eq mode pairs k v
      → (mode ≡ Touch → after ≡ last_to_front inserted) → (mode ≡ Keep → after ≡ inserted) → after ≡ put_front eq mode pairs k v
  put_front-put there inserted after = grind (arith, last_to_front-append)

  pub first-put_front : (after : List (K × V)) → after ≡ put_front eq mode pairs k v → mode ≡ Touch
      → first after ≡ Some (key_or k (find eq pairs k), v)
  first-put_front after is touch = ap first (is ∙ ap (λ m. put_front eq m pairs k v) touch)

-- the keys, in each mode
module _ {K V : Type 0} (eq : K → K → Bool) (pairs : List (K × V)) (k : K) (v : V) where
  pub keys_of-put_front_touch : keys_of (put_front eq Touch pairs k v)
      ≡ key_or k (find eq pairs k) ∷ filter (λ j. not (eq k j)) (keys_of pairs)
  keys_of-put_front_touch = ap (λ ks. key_or k (find eq pairs k) ∷ ks) (keys_of-without eq pairs k)

  pub keys_of-put_front_keep : keys_of (put_front eq Keep pairs k v) ≡ cond (is_some (find eq pairs k)) (keys_of pairs) (k ∷ keys_of pairs)
  keys_of-put_front_keep = grind (arith, keys_of-set_value)

-- what each key finds, in either mode
module _ {K V : Type 0} {eq : K → K → Bool} (laws : IsEquivalence eq) where
  pub find-put_front : (mode : Mode) (pairs : List (K × V)) (k q : K) (v : V)
      → find eq (put_front eq mode pairs k v) q ≡ cond (eq k q) (Some (key_or k (find eq pairs k), v)) (find eq pairs q)
  find-put_front Touch pairs k q v =
      let key = key_or k (find eq pairs k) in
      ap (λ b. cond b (Some (key, v)) (find eq (without eq pairs k) q))
      (laws.symm q key ∙ sym (laws.congr k key q (eq-stored laws pairs k)))
      ∙ ap (cond (eq k q) (Some (key, v))) (find-without laws pairs k q) ∙ twice (eq k q) key
    where
      twice : (b : Bool) (key : K) → cond b (Some (key, v)) (cond b None (find eq pairs q)) ≡ cond b (Some (key, v)) (find eq pairs q)
      twice true key = refl
      twice false key = refl
  find-put_front Keep pairs k q v = by_pair (find eq pairs k) refl
    where
      by_pair : (o : Option (K × V)) → find eq pairs k ≡ o
          → find eq (cond (is_some o) (set_value eq pairs k v) ((k, v) ∷ pairs)) q ≡ cond (eq k q) (Some (key_or k o, v)) (find eq pairs q)
      by_pair None none = ap (λ b. cond b (Some (k, v)) (find eq pairs q)) (laws.symm q k)
      by_pair (Some pair) found =
          sym (ap (λ o. find eq (cond (is_some o) (set_value eq pairs k v) (pairs ++ (k, v) ∷ [])) q) found)
          ∙ find-put laws Keep pairs k q v ∙ ap (λ o. cond (eq k q) (Some (key_or k o, v)) (find eq pairs q)) found

-- the same pairs in another order
pub Updates-reordered : {K V : Type 0} {eq : K → K → Bool} {before after ordered : List (K × V)} {k : K} {o : Option V}
    → ((q : K) → find eq ordered q ≡ find eq after q) → Updates eq before after k o → Updates eq before ordered k o
Updates-reordered finds updates = grind arith
