-- For callers: maps of vectors, in which a loop collects the items of each key.
use Rattle.std.proofs.Common.{◌≡◌, ℕ, ◌+◌, ◌<◌, Bool, true, false, cond, List, [], ◌∷◌, ◌++◌, length, take, get_or, filter, append-nil}
use Rattle.std.proofs.Common.{Option, Some, None, option_map, unwrap_or, Vec, vec_items, nat_eq, refl, sym, ap, ◌∙◌, arith}
use Rattle.std.{specs.Cmp.IsEquivalence, specs.Cmp.nat_eq_equiv, proofs.lemmas.List.get_or_default, proofs.lemmas.List.Elements.filter_more}
use Rattle.linked_hash_map.specs.Pairs.{value_at, set_or_push, ActsAs}
use Rattle.linked_hash_map.proofs.Callers.Lookups.{value_at-same, value_at-set_or_push}

-- each key has in its vector the items that have this key, in order; an item may have no key
pub record GroupsItems {K X A : Type 0} (eq : K → K → Bool) (key_of : X → Option K) (groups : List (K × Vec X A))
    (items : List X) : Type 0 where
  pub group : (q : K) → unwrap_or (option_map vec_items (value_at eq groups q)) []
      ≡ filter (λ item. unwrap_or (option_map (λ k. eq q k) (key_of item)) false) items

pub GroupsItems-start : {K X A : Type 0} (eq : K → K → Bool) (key_of : X → Option K) → GroupsItems {A = A} eq key_of [] []
GroupsItems-start eq key_of = record { group = λ q. refl }

module _ {K X A : Type 0} {eq : K → K → Bool} {key_of : X → Option K} {before : List (K × Vec X A)} (items : List X) (i : ℕ)
    (w : GroupsItems eq key_of before (take i items)) (within : i < length items) {x : X} (item_is : x ≡ get_or items i x) where
  abbrev has : K → X → Bool
  has q item = unwrap_or (option_map (λ k. eq q k) (key_of item)) false

  more : (q : K) → filter (has q) (take (i + 1) items) ≡ filter (has q) (take i items) ++ cond (has q x) (x ∷ []) []
  more q = filter_more (has q) items i x within
      ∙ ap (λ y. filter (has q) (take i items) ++ cond (has q y) (y ∷ []) []) (sym item_is)

  -- an item without a key
  pub GroupsItems-passed : key_of x ≡ None → GroupsItems eq key_of before (take (i + 1) items)
  GroupsItems-passed none = grind (arith, append-nil, more)

  -- an item that is pushed to the group of its key k, as the clauses of `entry` and of
  -- `or_insert_with` say it: `stored` is the key of the entry
  pub GroupsItems-pushed : IsEquivalence eq → {after : List (K × Vec X A)} {k stored : K} (v : Vec X A) → key_of x ≡ Some k
      → ActsAs eq before stored k → after ≡ set_or_push eq before stored v
      → vec_items v ≡ unwrap_or (option_map vec_items (value_at eq before k)) [] ++ x ∷ []
      → GroupsItems eq key_of after (take (i + 1) items)
  GroupsItems-pushed laws {after} {k} {stored} v key acts is pushed = record { group = λ q. by_test q (eq q k) refl }
    where
      of_value : Option (Vec X A) → List X
      of_value o = unwrap_or (option_map vec_items o) []

      after_at : (q : K) → of_value (value_at eq after q) ≡ of_value (cond (eq q k) (Some v) (value_at eq before q))
      after_at q = ap (λ ps. of_value (value_at eq ps q)) (is ∙ acts.sets_or_pushes v)
          ∙ ap of_value (value_at-set_or_push laws before k q v ∙ ap (λ b. cond b (Some v) (value_at eq before q)) (laws.symm k q))

      items_at : (q : K) → filter (has q) (take (i + 1) items) ≡ filter (has q) (take i items) ++ cond (eq q k) (x ∷ []) []
      items_at q = more q
          ∙ ap (λ o. filter (has q) (take i items) ++ cond (unwrap_or (option_map (λ k. eq q k) o) false) (x ∷ []) []) key

      by_test : (q : K) (b : Bool) → eq q k ≡ b → of_value (value_at eq after q) ≡ filter (has q) (take (i + 1) items)
      by_test q true same = after_at q ∙ ap (λ b. of_value (cond b (Some v) (value_at eq before q))) same ∙ pushed
          ∙ ap (λ xs. xs ++ x ∷ []) (ap of_value (sym (value_at-same laws before q k same)) ∙ w.group q)
          ∙ sym (items_at q ∙ ap (λ b. filter (has q) (take i items) ++ cond b (x ∷ []) []) same)
      by_test q false apart = after_at q ∙ ap (λ b. of_value (cond b (Some v) (value_at eq before q))) apart ∙ w.group q
          ∙ sym (append-nil (filter (has q) (take i items)))
          ∙ sym (items_at q ∙ ap (λ b. filter (has q) (take i items) ++ cond b (x ∷ []) []) apart)

-- the same at numbers, of the item at i
pub GroupsItems-pushed_number : {X A : Type 0} {key_of : X → Option ℕ} {before after : List (ℕ × Vec X A)} (items : List X) (i : ℕ)
    (d : X) {k stored : ℕ} (v : Vec X A) → GroupsItems nat_eq key_of before (take i items) → i < length items
    → key_of (get_or items i d) ≡ Some k → ActsAs nat_eq before stored k → after ≡ set_or_push nat_eq before stored v
    → vec_items v ≡ unwrap_or (option_map vec_items (value_at nat_eq before k)) [] ++ get_or items i d ∷ []
    → GroupsItems nat_eq key_of after (take (i + 1) items)
GroupsItems-pushed_number items i d v w within key acts is pushed = GroupsItems-pushed items i w within
    (get_or_default items i d (get_or items i d) within) nat_eq_equiv v key acts is pushed

-- no items yet, and an item without a key
pub ruleset groups = (GroupsItems-start, GroupsItems-passed)
