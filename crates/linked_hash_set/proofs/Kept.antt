-- The items of a set are the keys of its map.
use Rattle.std.proofs.Common.{◌≡◌, ℕ, ◌+◌, Bool, true, cond, not, ◌||◌, List, [], ◌∷◌, ◌++◌, length, take, drop, reverse, flat_map, is_some}
use Rattle.std.proofs.Common.{option_map, option_to_list, append-nil, refl, sym, ap, ap₂, ◌∙◌, arith}
use Rattle.std.proofs.lemmas.List.{length-map, map-append, take-map, drop-map}
use Rattle.std.specs.{Cmp.IsEquivalence, Cmp.Lexicographic.pointwise, List.list_any, Map.keys_of, Map.lookup_entry}
use Rattle.linked_hash_map.specs.Comparison.{same_pair, pair_writes}
use Rattle.linked_hash_map.specs.Inserts as inserts
use Rattle.linked_hash_map.specs.Pairs as pairs
use Rattle.linked_hash_map.specs.declared.map.{Mode.Mode, Mode.TheVariants.Touch}
use Rattle.linked_hash_map.proofs.Callers.Keys.{keys_of-set_or_push, keys_of-without_last, keys_of-to_back, key_or-find, is_some-find}
use Rattle.linked_hash_map.proofs.Callers.{Collected.is_some-insert_each, Lookups.last-append, Permuted.keys_of-reverse}
use Rattle.linked_hash_set.specs.Inserts.{insert_each}
use Rattle.linked_hash_set.specs.Items.{contains, find, without, from, count_before, to_behind, to_before, to_after}

module _ {A T : Type 0} (eq : A → T → Bool) where
  pub contains-find : (items : List T) (x : A) → contains eq items x ≡ is_some (find eq items x)
  contains-find [] x = refl
  contains-find (y ∷ ys) x = grind (arith, contains-find ys x)

  module _ {V : Type 0} where
    pub find-keys_of : (ps : List (T × V)) (x : A)
        → find eq (keys_of ps) x ≡ option_map (λ p. p.0) (pairs.find eq ps x)
    find-keys_of [] x = refl
    find-keys_of (p ∷ ps) x = grind (arith, find-keys_of ps x)

    -- by what the map has at a key, as its clauses say what a call changes there
    pub list_any-keys_of : (test : T → Bool) (ps : List (T × V))
        → list_any test (keys_of ps) ≡ is_some (option_map (λ p. p.1) (lookup_entry test ps))
    list_any-keys_of test [] = refl
    list_any-keys_of test (p ∷ ps) = grind (arith, list_any-keys_of test ps)

    pub keys_of-without : (ps : List (T × V)) (x : A)
        → keys_of (pairs.without eq ps x) ≡ without eq (keys_of ps) x
    keys_of-without [] x = refl
    keys_of-without (p ∷ ps) x = grind (arith, keys_of-without ps x)

    keys_of-found : (ps : List (T × V)) (x : A)
        → keys_of (option_to_list (pairs.find eq ps x)) ≡ option_to_list (find eq (keys_of ps) x)
    keys_of-found [] x = refl
    keys_of-found (p ∷ ps) x = grind (arith, keys_of-found ps x)

    pub keys_of-from : (ps : List (T × V)) (x : A) → keys_of (pairs.from eq ps x) ≡ from eq (keys_of ps) x
    keys_of-from [] x = refl
    keys_of-from (p ∷ ps) x = grind (arith, keys_of-from ps x)

    pub keys_of-from_reverse : (ps : List (T × V)) (x : A)
        → keys_of (pairs.from eq (reverse ps) x) ≡ from eq (reverse (keys_of ps)) x
    keys_of-from_reverse ps x =
        keys_of-from (reverse ps) x ∙ ap (λ items. from eq items x) (keys_of-reverse ps)

    pub count_before-keys_of : (ps : List (T × V)) (x : A)
        → count_before eq (keys_of ps) x ≡ pairs.count_before eq ps x
    count_before-keys_of [] x = refl
    count_before-keys_of (p ∷ ps) x = ap (λ n. cond (not (eq x p.0)) (1 + n) 0) (count_before-keys_of ps x)

    pub keys_of-to_behind : (ps : List (T × V)) (x : A) (n : ℕ)
        → keys_of (pairs.to_behind eq ps x n) ≡ to_behind eq (keys_of ps) x n
    keys_of-to_behind ps x n =
        let key : T × V → T = λ p. p.0 in
        let back = pairs.without eq (drop n ps) x in
        map-append key (pairs.without eq (take n ps) x) (option_to_list (pairs.find eq ps x) ++ back)
        ∙ ap₂ (λ xs ys. xs ++ ys)
        (keys_of-without (take n ps) x ∙ ap (λ items. without eq items x) (sym (take-map key n ps)))
        (map-append key (option_to_list (pairs.find eq ps x)) back
        ∙ ap₂ (λ xs ys. xs ++ ys) (keys_of-found ps x)
        (keys_of-without (drop n ps) x ∙ ap (λ items. without eq items x) (sym (drop-map key n ps))))

module _ {A B T V : Type 0} (eq : A → T → Bool) (eq_other : B → T → Bool) where
  pub keys_of-to_before : (ps : List (T × V)) (x : A) (other : B)
      → keys_of (pairs.to_before eq eq_other ps x other) ≡ to_before eq eq_other (keys_of ps) x other
  keys_of-to_before ps x other =
      keys_of-to_behind eq ps x (pairs.count_before eq_other ps other)
      ∙ ap (to_behind eq (keys_of ps) x) (sym (count_before-keys_of eq_other ps other))

  pub keys_of-to_after : (ps : List (T × V)) (x : A) (other : B)
      → keys_of (pairs.to_after eq eq_other ps x other) ≡ to_after eq eq_other (keys_of ps) x other
  keys_of-to_after ps x other =
      keys_of-to_behind eq ps x (pairs.count_before eq_other ps other + 1)
      ∙ ap (λ n. to_behind eq (keys_of ps) x (n + 1)) (sym (count_before-keys_of eq_other ps other))

module _ {T V : Type 0} where
  pub keys_of-insert_each : (eq : T → T → Bool) {mode : Mode} → mode ≡ Touch → (ps qs : List (T × V))
      → keys_of (inserts.insert_each eq mode ps qs) ≡ insert_each eq (keys_of ps) (keys_of qs)
  keys_of-insert_each eq {mode} touch ps [] = refl
  keys_of-insert_each eq {mode} touch ps (q ∷ qs) =
      keys_of-insert_each eq touch (pairs.put eq mode ps q.0 q.1) qs
      ∙ ap (λ items. insert_each eq items (keys_of qs))
      (ap (λ m. keys_of (pairs.put eq m ps q.0 q.1)) touch ∙ keys_of-to_back eq ps q.0 q.1
      ∙ ap (λ item. without eq (keys_of ps) q.0 ++ item ∷ []) (key_or-find eq ps q.0))

  pub contains-insert_each : {eq : T → T → Bool} → IsEquivalence eq → (mode : Mode) (ps qs : List (T × V)) (x : T)
      → contains eq (keys_of (inserts.insert_each eq mode ps qs)) x
      ≡ (contains eq (keys_of ps) x || contains eq (keys_of qs) x)
  contains-insert_each {eq} laws mode ps qs x =
      sym (is_some-find eq (inserts.insert_each eq mode ps qs) x) ∙ is_some-insert_each laws mode ps qs x
      ∙ ap₂ (λ a b. a || b) (is_some-find eq ps x) (is_some-find eq qs x)

  pub length-insert_each : (eq : T → T → Bool) {mode : Mode} → mode ≡ Touch → (ps qs : List (T × V))
      → length (inserts.insert_each eq mode ps qs) ≡ length (insert_each eq (keys_of ps) (keys_of qs))
  length-insert_each eq {mode} touch ps qs =
      sym (length-map (inserts.insert_each eq mode ps qs) (λ (p : T × V). p.0))
      ∙ ap length (keys_of-insert_each eq touch ps qs)

  pub pointwise-keys_of : (eq : T → T → Bool) (ps qs : List (T × V))
      → pointwise (same_pair eq (λ _ _. true)) ps qs ≡ pointwise eq (keys_of ps) (keys_of qs)
  pointwise-keys_of eq (p ∷ ps) (q ∷ qs) = grind (arith, pointwise-keys_of eq ps qs)
  pointwise-keys_of eq ps qs = grind arith

  pub flat_map-keys_of : (writes : T → List (List _)) (ps : List (T × V))
      → flat_map (pair_writes writes (λ _. [])) ps ≡ flat_map writes (keys_of ps)
  flat_map-keys_of writes [] = refl
  flat_map-keys_of writes (p ∷ ps) = grind (arith, append-nil, flat_map-keys_of writes ps)

-- what is read of the items, and what they are after a call of the map
pub ruleset reads = (contains-find, find-keys_of, list_any-keys_of, length-map, pointwise-keys_of, flat_map-keys_of)

pub ruleset kept = (reads, map-append, last-append, keys_of-without, keys_of-set_or_push, keys_of-without_last)
