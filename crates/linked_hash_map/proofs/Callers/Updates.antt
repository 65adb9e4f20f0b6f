-- For callers: what a call changes, at its key and at the others.
use Rattle.std.proofs.Common.{◌≡◌, ℕ, ◌<◌, ◌≤◌, max, Bool, true, false, List, [], ◌∷◌, length, Option, Some, None, option_map, sym, ◌∙◌}
use Rattle.std.proofs.Common.{arith}
use Rattle.std.specs.{Cmp.IsEquivalence, List.IsDistinct, Map.keys_of, Map.lookup_entry, Map.IsKeyTest, Map.AreApart, Option.IsSome}
use Rattle.linked_hash_map.specs.Pairs.{find, put, without, set_value, set_or_push}
use Rattle.linked_hash_map.specs.{declared.map.Mode.Mode, Updates.Updates, Updates.UpdatesBy}
use Rattle.linked_hash_map.proofs.Callers.Lookups.{value_at-put_here, value_at-put_apart, value_at-without_here, value_at-without_apart}
use Rattle.linked_hash_map.proofs.Callers.Lookups.{value_at-set_or_push_here, value_at-set_or_push_apart}
use Rattle.linked_hash_map.proofs.Callers.Keys.{length-put_absent, length-put_present, set_or_push-present}

-- an insertion of a key that is present, or that has room, leaves the capacity
pub max-length_put : {K V : Type 0} {eq : K → K → Bool} → IsEquivalence eq
    → (mode : Mode) (pairs : List (K × V)) (k : K) (v : V) (capacity : ℕ) → IsDistinct eq (keys_of pairs) → length pairs ≤ capacity
    → (find eq pairs k ≡ None → length pairs < capacity) → max capacity (length (put eq mode pairs k v)) ≡ capacity
max-length_put laws mode pairs k v capacity distinct within room = grind (arith, length-put_absent, length-put_present)

module _ {K V : Type 0} {eq : K → K → Bool} (laws : IsEquivalence eq) (before after : List (K × V)) (k : K) where
  pub Updates-without : after ≡ without eq before k → Updates eq before after k None
  Updates-without is = grind (arith, value_at-without_here, value_at-without_apart)

  pub Updates-set_or_push : (v : V) → after ≡ set_or_push eq before k v → Updates eq before after k (Some v)
  Updates-set_or_push v is = grind (arith, value_at-set_or_push_here, value_at-set_or_push_apart)

  pub Updates-set_value : IsSome (find eq before k) → (v : V) → after ≡ set_value eq before k v → Updates eq before after k (Some v)
  Updates-set_value there v is = Updates-set_or_push v (is ∙ sym (set_or_push-present eq before k v there))

pub Updates-put : {K V : Type 0} {eq : K → K → Bool} → IsEquivalence eq → (mode : Mode) (before after : List (K × V)) (k : K) (v : V)
    → after ≡ put eq mode before k v → Updates eq before after k (Some v)
Updates-put laws mode before after k v is = grind (arith, value_at-put_here, value_at-put_apart)

-- what a lookup finds passes its test
pub passes-lookup_entry : {K V : Type 0} (test : K → Bool) (pairs : List (K × V)) (pair : K × V)
    → lookup_entry test pairs ≡ Some pair → test pair.0 ≡ true
passes-lookup_entry test [] pair found = grind arith
passes-lookup_entry test (first ∷ pairs) pair found = grind (arith, passes-lookup_entry test pairs pair)

-- a lookup by a test of other keys finds what it found before
module _ {K V : Type 0} {eq : K → K → Bool} (before after : List (K × V)) (is_key other : K → Bool) (value : Option V)
    (updates : UpdatesBy eq before after is_key value) (one : IsKeyTest eq other) (apart : AreApart is_key other) where
  abbrev found_by : (K → Bool) → List (K × V) → Option V
  found_by test pairs = option_map (λ pair. pair.1) (lookup_entry test pairs)

  fails-other : (k : K) → other k ≡ true → is_key k ≡ false
  fails-other k passes = grind arith

  of-passing : (pair : K × V) → other pair.0 ≡ true → found_by other after ≡ found_by other before
  of-passing pair passes = grind (arith, fails-other)

  pub lookup_entry-updated : option_map (λ pair. pair.1) (lookup_entry other after)
      ≡ option_map (λ pair. pair.1) (lookup_entry other before)
  lookup_entry-updated = grind (arith, of-passing, passes-lookup_entry)
