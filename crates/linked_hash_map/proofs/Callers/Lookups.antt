-- For callers: what a map has at a key after each call.
use Rattle.std.proofs.Common.{◌≡◌, ℕ, ◌-◌, Bool, true, false, cond, not, List, [], ◌∷◌, ◌++◌, length, length-append}
use Rattle.std.proofs.Common.{drop, remove, slice_get, nat_eq, filter, Option, Some, None, is_some, option_map, refl, sym, ap}
use Rattle.std.proofs.Common.{◌∙◌, true≢false, arith}
use Rattle.std.specs.{List.IsDistinct, Option.option_or, Map.lookup_entry, Map.keys_of, Cmp.IsEquivalence}
use Rattle.linked_hash_map.specs.declared.map.{Mode.Mode, Mode.TheVariants.Touch}
use Rattle.linked_hash_map.specs.Pairs.{last, key_or, find, value_at, without, to_back, set_value, set_or_push, put}
use Rattle.linked_hash_map.proofs.{log.LiveKeys.same_test, pairs.Indexes.without-own, pairs.Indexes.slice_get-last}

-- what stands behind the others is the last
pub last-append : {X : Type 0} (xs : List X) (x : X) → last (xs ++ x ∷ []) ≡ Some x
last-append xs x =
    let longer = length-append xs (x ∷ []) in
    let index : length (xs ++ x ∷ []) - 1 ≡ length xs = omega arith in
    ap (slice_get (xs ++ x ∷ [])) index ∙ slice_get-last xs x

-- as the pair of an insertion in Touch does
pub last-put : {K V : Type 0} (eq : K → K → Bool) (mode : Mode) (before after : List (K × V)) (k : K)
    (v : V) → after ≡ put eq mode before k v → mode ≡ Touch → last after ≡ Some (key_or k (find eq before k), v)
last-put eq mode before after k v changed touch = grind (arith, last-append)

cond-none : {X : Type 0} (b : Bool) (x : Option X) → cond (not b) x None ≡ cond b None x
cond-none b x = grind arith

option_map-cond : {X Y : Type 0} (f : X → Y) (b : Bool) (x y : Option X)
    → option_map f (cond b x y) ≡ cond b (option_map f x) (option_map f y)
option_map-cond f b x y = grind arith

-- a lookup in two lists, one after the other
pub lookup_entry-append : {K V : Type 0} (test : K → Bool) (pairs others : List (K × V))
    → lookup_entry test (pairs ++ others) ≡ option_or (lookup_entry test pairs) (lookup_entry test others)
lookup_entry-append test [] others = refl
lookup_entry-append test (pair ∷ pairs) others = by_test (test pair.0) (lookup_entry-append test pairs others)
  where
    by_test : (b : Bool)
        → lookup_entry test (pairs ++ others)
        ≡ option_or (lookup_entry test pairs) (lookup_entry test others)
        → cond b (Some pair) (lookup_entry test (pairs ++ others))
        ≡ option_or (cond b (Some pair) (lookup_entry test pairs)) (lookup_entry test others)
    by_test true rest = refl
    by_test false rest = rest

option_map-option_or : {X Y : Type 0} (f : X → Y) (x y : Option X)
    → option_map f (option_or x y) ≡ option_or (option_map f x) (option_map f y)
option_map-option_or f x y = grind arith

-- the value of a key in a list with one pair more at its end: what it has among the others, and
-- else that of the last pair
pub value_at-append : {K V : Type 0} (eq : K → K → Bool) (pairs : List (K × V)) (k q : K) (v : V)
    → value_at eq (pairs ++ (k, v) ∷ []) q ≡ option_or (value_at eq pairs q) (cond (eq q k) (Some v) None)
value_at-append eq pairs k q v = grind (arith, lookup_entry-append, option_map-option_or, option_map-cond)

-- a lookup among the pairs of which a test holds that returns b at each key that the lookup may
-- find
lookup_entry-filter : {K V : Type 0} (test kept : K → Bool) (b : Bool) → ((k : K) → test k ≡ true → kept k ≡ b) → (pairs : List (K × V))
    → lookup_entry test (filter (λ pair. kept pair.0) pairs) ≡ cond b (lookup_entry test pairs) None
lookup_entry-filter test kept true alike [] = refl
lookup_entry-filter test kept false alike [] = refl
lookup_entry-filter test kept b alike (pair ∷ pairs) =
    by_test (kept pair.0) (test pair.0) refl refl (lookup_entry-filter test kept b alike pairs)
  where
    some_kept : (c : Bool) → c ≡ b
        → lookup_entry test (filter (λ p. kept p.0) pairs) ≡ cond b (lookup_entry test pairs) None
        → test pair.0 ≡ true
        → lookup_entry test
        (cond c (pair ∷ filter (λ p. kept p.0) pairs) (filter (λ p. kept p.0) pairs))
        ≡ cond b (Some pair) None
    some_kept true same rest passes =
        ap (λ t. cond t (Some pair) (lookup_entry test (filter (λ p. kept p.0) pairs))) passes
        ∙ ap (λ c. cond c (Some pair) None) same
    some_kept false same rest passes =
        rest ∙ ap (λ c. cond c (lookup_entry test pairs) None) (sym same)
        ∙ ap (λ c. cond c (Some pair) None) same

    by_test : (c t : Bool) → kept pair.0 ≡ c → test pair.0 ≡ t
        → lookup_entry test (filter (λ p. kept p.0) pairs) ≡ cond b (lookup_entry test pairs) None
        → lookup_entry test
        (cond c (pair ∷ filter (λ p. kept p.0) pairs) (filter (λ p. kept p.0) pairs))
        ≡ cond b (cond t (Some pair) (lookup_entry test pairs)) None
    by_test c true is passes rest = some_kept c (sym is ∙ alike pair.0 passes) rest passes
    by_test true false is passes rest = ap (λ t. cond t (Some pair) (lookup_entry test (filter (λ p. kept p.0) pairs))) passes ∙ rest
    by_test false false is passes rest = rest

remove-first : {X : Type 0} (xs : List X) → drop 1 xs ≡ remove xs 0
remove-first xs = grind arith

-- what is the same as a key tells it from another as that key does
alike : {K : Type 0} {eq : K → K → Bool} → IsEquivalence eq → (k q j : K) → eq q j ≡ true → eq k j ≡ eq k q
alike laws k q j same = laws.symm k j ∙ sym (laws.congr q j k same) ∙ laws.symm q k

module _ {K V : Type 0} {eq : K → K → Bool} (laws : IsEquivalence eq) where
  -- two names of one key find one pair, and one value
  pub find-same : (pairs : List (K × V)) (j k : K) → eq j k ≡ true → find eq pairs j ≡ find eq pairs k
  find-same pairs j k same = ap (λ test. lookup_entry test pairs) (same_test laws j k same)

  pub value_at-same : (pairs : List (K × V)) (j k : K) → eq j k ≡ true → value_at eq pairs j ≡ value_at eq pairs k
  value_at-same pairs j k same = ap (option_map (λ pair. pair.1)) (find-same pairs j k same)

  -- the key of the pair that is found is the key asked for
  pub eq-find : (pairs : List (K × V)) (k : K) (pair : K × V) → find eq pairs k ≡ Some pair → eq k pair.0 ≡ true
  eq-find [] k pair found = absurd (true≢false (sym (ap is_some found)))
  eq-find (first ∷ pairs) k pair found = by_test (eq k first.0) refl found (eq-find pairs k pair)
    where
      by_test : (b : Bool) → eq k first.0 ≡ b → cond b (Some first) (find eq pairs k) ≡ Some pair
          → (find eq pairs k ≡ Some pair → eq k pair.0 ≡ true) → eq k pair.0 ≡ true
      by_test true same found rest = let first_is : first ≡ pair = cc in ap (λ (p : K × V). eq k p.0) (sym first_is) ∙ same
      by_test false same found rest = rest found

  eq-key_or : (k : K) (o : Option (K × V)) → ((pair : K × V) → o ≡ Some pair → eq k pair.0 ≡ true) → eq k (key_or k o) ≡ true
  eq-key_or k o found = grind arith

  -- the stored key that a key has, or gets, is the same key
  pub eq-stored : (pairs : List (K × V)) (k : K) → eq k (key_or k (find eq pairs k)) ≡ true
  eq-stored pairs k = eq-key_or k (find eq pairs k) (eq-find pairs k)

  -- after `remove`
  pub find-without : (pairs : List (K × V)) (k q : K) → find eq (without eq pairs k) q ≡ cond (eq k q) None (find eq pairs q)
  find-without pairs k q =
      lookup_entry-filter (eq q) (λ j. not (eq k j)) (not (eq k q)) (λ j same. ap not (alike laws k q j same)) pairs
      ∙ cond-none (eq k q) (find eq pairs q)

  pushed : (q key : K) (v : V) (b : Bool) (o : Option (K × V)) → eq q key ≡ b
      → option_or (cond b None o) (lookup_entry (eq q) ((key, v) ∷ [])) ≡ cond b (Some (key, v)) o
  pushed q key v b o same = grind arith

  -- after `insert`
  pub find-to_back : (pairs : List (K × V)) (k q : K) (v : V)
      → find eq (to_back eq pairs k v) q ≡ cond (eq k q) (Some (key_or k (find eq pairs k), v)) (find eq pairs q)
  find-to_back pairs k q v = grind (arith, lookup_entry-append, find-without, pushed, eq-stored)

  -- after a value is written, as through `get_mut`
  find-set_value : (pairs : List (K × V)) (k q : K) (v : V)
      → find eq (set_value eq pairs k v) q ≡ cond (eq k q) (option_map (λ pair. (pair.0, v)) (find eq pairs q)) (find eq pairs q)
  find-set_value [] k q v = elim (eq k q) as (λ b. None ≡ cond {A = Option (K × V)} b None None) [ true ↦ refl | false ↦ refl ]
  find-set_value (pair ∷ pairs) k q v = by_test (eq k pair.0) (eq q pair.0) refl refl (find-set_value pairs k q v)
    where
      by_test : (b c : Bool) → eq k pair.0 ≡ b → eq q pair.0 ≡ c
          → find eq (set_value eq pairs k v) q
          ≡ cond (eq k q) (option_map (λ p. (p.0, v)) (find eq pairs q)) (find eq pairs q)
          → lookup_entry (eq q) (cond b (pair.0, v) pair ∷ set_value eq pairs k v)
          ≡ cond (eq k q) (option_map (λ p. (p.0, v)) (cond c (Some pair) (find eq pairs q)))
          (cond c (Some pair) (find eq pairs q))
      by_test true true is passes rest =
          ap (λ c. cond c (Some (pair.0, v)) (find eq (set_value eq pairs k v) q)) passes
          ∙ sym (ap (λ b. cond b (Some (pair.0, v)) (Some pair)) (sym (alike laws k q pair.0 passes) ∙ is))
      by_test true false is passes rest = ap (λ c. cond c (Some (pair.0, v)) (find eq (set_value eq pairs k v) q)) passes ∙ rest
      by_test false true is passes rest =
          ap (λ c. cond c (Some pair) (find eq (set_value eq pairs k v) q)) passes
          ∙ sym (ap (λ b. cond b (Some (pair.0, v)) (Some pair)) (sym (alike laws k q pair.0 passes) ∙ is))
      by_test false false is passes rest = ap (λ c. cond c (Some pair) (find eq (set_value eq pairs k v) q)) passes ∙ rest

  -- after a value is written through what `or_insert` lends
  find-set_or_push : (pairs : List (K × V)) (k q : K) (v : V)
      → find eq (set_or_push eq pairs k v) q ≡ cond (eq k q) (Some (key_or k (find eq pairs k), v)) (find eq pairs q)
  find-set_or_push pairs k q v = grind (arith, find-same, lookup_entry-append, pushed, find-set_value)

  -- after `insert` in either mode
  pub find-put : (mode : Mode) (pairs : List (K × V)) (k q : K) (v : V)
      → find eq (put eq mode pairs k v) q ≡ cond (eq k q) (Some (key_or k (find eq pairs k), v)) (find eq pairs q)
  find-put mode = grind (arith, find-to_back, find-set_or_push)

  -- the value that a key has after each of these
  pub value_at-without : (pairs : List (K × V)) (k q : K) → value_at eq (without eq pairs k) q ≡ cond (eq k q) None (value_at eq pairs q)
  value_at-without pairs k q = grind (arith, find-without, option_map-cond)

  value_at-to_back : (pairs : List (K × V)) (k q : K) (v : V)
      → value_at eq (to_back eq pairs k v) q ≡ cond (eq k q) (Some v) (value_at eq pairs q)
  value_at-to_back pairs k q v = grind (arith, find-to_back, option_map-cond)

  pub value_at-set_or_push : (pairs : List (K × V)) (k q : K) (v : V)
      → value_at eq (set_or_push eq pairs k v) q ≡ cond (eq k q) (Some v) (value_at eq pairs q)
  value_at-set_or_push pairs k q v = grind (arith, find-set_or_push, option_map-cond)

  pub value_at-put : (mode : Mode) (pairs : List (K × V)) (k q : K) (v : V)
      → value_at eq (put eq mode pairs k v) q ≡ cond (eq k q) (Some v) (value_at eq pairs q)
  value_at-put mode = grind (arith, value_at-to_back, value_at-set_or_push)

  -- after a removal and an insertion, or an insertion in Touch by the stored key
  pub value_at-without_append : (pairs : List (K × V)) (k q : K) (v : V)
      → value_at eq (without eq pairs k ++ (k, v) ∷ []) q ≡ cond (eq k q) (Some v) (value_at eq pairs q)
  value_at-without_append pairs k q v = grind (arith, value_at-append, value_at-without)

  -- at the key of the call
  module _ (pairs : List (K × V)) (k : K) where
    pub value_at-without_here : value_at eq (without eq pairs k) k ≡ None
    value_at-without_here = value_at-without pairs k k ∙ ap (λ b. cond b None (value_at eq pairs k)) (laws.refl k)

    pub find-without_here : find eq (without eq pairs k) k ≡ None
    find-without_here = find-without pairs k k ∙ ap (λ b. cond b None (find eq pairs k)) (laws.refl k)

    pub value_at-to_back_here : (v : V) → value_at eq (to_back eq pairs k v) k ≡ Some v
    value_at-to_back_here v = value_at-to_back pairs k k v ∙ ap (λ b. cond b (Some v) (value_at eq pairs k)) (laws.refl k)

    pub value_at-set_or_push_here : (v : V) → value_at eq (set_or_push eq pairs k v) k ≡ Some v
    value_at-set_or_push_here v = value_at-set_or_push pairs k k v ∙ ap (λ b. cond b (Some v) (value_at eq pairs k)) (laws.refl k)

  pub value_at-put_here : (mode : Mode) (pairs : List (K × V)) (k : K) (v : V) → value_at eq (put eq mode pairs k v) k ≡ Some v
  value_at-put_here mode = grind (arith, value_at-to_back_here, value_at-set_or_push_here)

  -- at another key
  pub value_at-without_apart : (pairs : List (K × V)) (k q : K) → eq k q ≡ false → value_at eq (without eq pairs k) q ≡ value_at eq pairs q
  value_at-without_apart pairs k q apart = value_at-without pairs k q ∙ ap (λ b. cond b None (value_at eq pairs q)) apart

  module _ (pairs : List (K × V)) (k q : K) (v : V) (apart : eq k q ≡ false) where
    pub value_at-to_back_apart : value_at eq (to_back eq pairs k v) q ≡ value_at eq pairs q
    value_at-to_back_apart = value_at-to_back pairs k q v ∙ ap (λ b. cond b (Some v) (value_at eq pairs q)) apart

    pub value_at-set_or_push_apart : value_at eq (set_or_push eq pairs k v) q ≡ value_at eq pairs q
    value_at-set_or_push_apart = value_at-set_or_push pairs k q v ∙ ap (λ b. cond b (Some v) (value_at eq pairs q)) apart

    pub find-set_or_push_apart : find eq (set_or_push eq pairs k v) q ≡ find eq pairs q
    find-set_or_push_apart = find-set_or_push pairs k q v ∙ ap (λ b. cond b (Some (key_or k (find eq pairs k), v)) (find eq pairs q)) apart

  pub value_at-put_apart : (mode : Mode) (pairs : List (K × V)) (k q : K) (v : V) → eq k q ≡ false
      → value_at eq (put eq mode pairs k v) q ≡ value_at eq pairs q
  value_at-put_apart mode = grind (arith, value_at-to_back_apart, value_at-set_or_push_apart)

  -- if the keys differ, a pop removes what the first key has, as `remove` of that key does
  pub drop-first : (pairs : List (K × V)) (pair : K × V) → IsDistinct eq (keys_of pairs)
      → slice_get pairs 0 ≡ Some pair → drop 1 pairs ≡ without eq pairs pair.0
  drop-first pairs pair distinct there = remove-first pairs ∙ sym (without-own laws pairs distinct 0 pair there)

-- a new number at the back, for each number that is looked up
pub value_at-append_number : {V : Type 0} (pairs : List (ℕ × V)) (k : ℕ) (v : V)
    → (pairs ++ (k, v) ∷ [] ≡ pairs ++ (k, v) ∷ [])
    × ((q : ℕ) → value_at nat_eq (pairs ++ (k, v) ∷ []) q
    ≡ option_or (value_at nat_eq pairs q) (cond (nat_eq q k) (Some v) None))
value_at-append_number pairs k v = (refl, λ q. value_at-append nat_eq pairs k q v)

-- what a number has after one that is new went to the back
pub ruleset new_numbers = (value_at-append_number)
