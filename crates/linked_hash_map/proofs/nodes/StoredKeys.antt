-- A key that a lookup finds: what looks it up finds what the stored key finds.
use Rattle.linked_hash_map.proofs.Names.{length-append, slice_get, IsAt-index_of, without_cursor, set_value_at, IsEquivalence, lookup_entry}
use Rattle.linked_hash_map.proofs.Names.{Bool, is_some, option_map, remove-at, LinkedMap, pairs_of, to_back, without, UpdatesBy, IsDistinct}
use Rattle.linked_hash_map.proofs.Names.{IsTrue, List, None, Option, arith, filter, length, subst, AtHeld, HasKey, IsValid, Touch, keys_of}
use Rattle.linked_hash_map.proofs.Names.{Some, [], ap, cond, map, not, refl, sym, ℕ, ◌++◌, ◌+◌, ◌-◌, ◌∙◌, ◌∷◌, ◌≡◌, Held, find, last, Ptr}
use Rattle.linked_hash_map.proofs.Callers.Updates.{Updates-put, Updates-set_value, Updates-without}
use Rattle.linked_hash_map.proofs.{nodes.CutNodes.slice_get-held, nodes.TakenNode.pairs-removed, pairs.Inserts.distinct-to_back}
use Rattle.linked_hash_map.proofs.pairs.Indexes.{find-own, set_value-own_at, slice_get-last, without-index}
use Rattle.linked_hash_map.{proofs.Callers.Keys.length-to_back_present, proofs.Callers.Keys.length-without_present}
use Rattle.linked_hash_map.{proofs.nodes.FoundKeys.IsIndex-index_of, proofs.nodes.FoundKeys.index_of-HasKey, specs.Pairs.with_value}

with_value-found : {K V : Type 0} (as_key : Option K) (pair : K × V) (v : V) → with_value as_key (Some pair) v ≡ (pair.0, v) ∷ []
with_value-found as_key pair v = grind arith

last-pushed : {X : Type 0} (xs : List X) (x : X) → last (xs ++ x ∷ []) ≡ Some x
last-pushed xs x =
    let long : length (xs ++ x ∷ []) - 1 ≡ length xs = omega (arith, length-append xs (x ∷ [])) in
    ap (slice_get (xs ++ x ∷ [])) long ∙ slice_get-last xs x

module _ {K V : Type 0} {eq : K → K → Bool} (laws : IsEquivalence eq) {is_key : K → Bool}
    (respects : (x y : K) → IsTrue (is_key x) → is_key y ≡ eq x y) {hash : ℕ}
    {hs : List (Held (K × V))} {p : Ptr} (h : HasKey is_key hash hs p) where
  abbrev stored : K
  stored = h.held.node.pair.0

  -- it is the test that the stored key makes
  pub eq-stored : eq stored ≡ is_key
  eq-stored = grind arith

  pub HasKey-stored : HasKey (eq stored) hash hs p
  HasKey-stored = subst (λ (test : K → Bool). HasKey test hash hs p) (sym eq-stored) h

  module _ (distinct : IsDistinct eq (keys_of (pairs_of hs))) where
    find-own_key : find eq (pairs_of hs) stored ≡ Some h.held.node.pair
    find-own_key = find-own laws (pairs_of hs) distinct (length h.held.before) h.held.node.pair (slice_get-held h.held)

    pub find-stored : lookup_entry is_key (pairs_of hs) ≡ Some h.held.node.pair
    find-stored =
        sym (ap (λ (test : K → Bool). lookup_entry test (pairs_of hs)) eq-stored) ∙ find-own_key

    -- without its pair
    module _ {ws : List (Held (K × V))} (others : AtHeld hs p (λ xs x ys. ws ≡ xs ++ ys)) where
      is_without : pairs_of ws ≡ without eq (pairs_of hs) stored
      is_without = pairs-removed hs _ (remove-at hs _ (IsAt-index_of p hs (index_of-HasKey h)) others)
          ∙ sym (without-index laws distinct (IsIndex-index_of HasKey-stored))

      pub without-stored : pairs_of ws ≡ filter (λ pair. not (is_key pair.0)) (pairs_of hs)
      without-stored = grind (arith, is_without, eq-stored)

      pub UpdatesBy-without : UpdatesBy eq (pairs_of hs) (pairs_of ws) is_key None
      UpdatesBy-without =
          subst (λ (test : K → Bool). UpdatesBy eq (pairs_of hs) (pairs_of ws) test None) eq-stored
          (Updates-without laws (pairs_of hs) (pairs_of ws) stored is_without)

      pub length-without_stored : length (pairs_of ws) + 1 ≡ length (pairs_of hs)
      length-without_stored = ap (λ ps. length ps + 1) is_without
          ∙ length-without_present laws (pairs_of hs) stored distinct (ap is_some find-own_key)

    -- with a value written in its place
    pub set_value-stored : (v : V) → map (λ pair. cond (is_key pair.0) (pair.0, v) pair) (pairs_of hs)
        ≡ set_value_at (pairs_of hs) (length h.held.before) v
    set_value-stored v =
        sym (ap (λ (test : K → Bool). map (λ pair. cond (test pair.0) (pair.0, v) pair) (pairs_of hs)) eq-stored)
        ∙ set_value-own_at laws (pairs_of hs) distinct (length h.held.before) h.held.node.pair (slice_get-held h.held) v

    pub UpdatesBy-set_value : (v : V) → UpdatesBy eq (pairs_of hs)
        (map (λ pair. cond (is_key pair.0) (pair.0, v) pair) (pairs_of hs)) is_key (Some v)
    UpdatesBy-set_value v =
        subst (λ (test : K → Bool). UpdatesBy eq (pairs_of hs)
        (map (λ pair. cond (test pair.0) (pair.0, v) pair) (pairs_of hs)) test (Some v)) eq-stored
        (Updates-set_value laws (pairs_of hs) _ stored (ap is_some find-own_key) v refl)

    -- and with its pair at the back
    module _ (as_key : Option K) (v : V) where
      abbrev moved : List (K × V)
      moved = filter (λ pair. not (is_key pair.0)) (pairs_of hs)
          ++ with_value as_key (lookup_entry is_key (pairs_of hs)) v

      moved-pushed : moved ≡ without eq (pairs_of hs) stored ++ (stored, v) ∷ []
      moved-pushed = grind (arith, eq-stored, find-stored, with_value-found)

      pub to_back_by-stored : moved ≡ to_back eq (pairs_of hs) stored v
      to_back_by-stored = grind (arith, moved-pushed, find-own_key)

      pub UpdatesBy-to_back_by : UpdatesBy eq (pairs_of hs) moved is_key (Some v)
      UpdatesBy-to_back_by =
          subst (λ (test : K → Bool). UpdatesBy eq (pairs_of hs) moved test (Some v)) eq-stored
          (Updates-put laws Touch (pairs_of hs) moved stored v to_back_by-stored)

      pub last-to_back_by : last moved ≡ option_map (λ pair. (pair.0, v)) (lookup_entry is_key (pairs_of hs))
      last-to_back_by = grind (arith, moved-pushed, last-pushed, find-stored)

      pub length-to_back_by : length moved ≡ length (pairs_of hs)
      length-to_back_by = ap length to_back_by-stored
          ∙ length-to_back_present laws (pairs_of hs) stored v distinct (ap is_some find-own_key)

      pub IsValid-refreshed : {S : Type 0} {m : LinkedMap K V S} → IsValid eq m
          → m.pairs ≡ pairs_of hs → IsValid eq (record (without_cursor m) { pairs = moved })
      IsValid-refreshed valid same = grind (arith, length-to_back_by, to_back_by-stored, distinct-to_back)

-- a call that finds no key and changes no pair
pub UpdatesBy-absent : {K V : Type 0} {eq : K → K → Bool} {before after : List (K × V)} {is_key : K → Bool} → after ≡ before
    → lookup_entry is_key before ≡ None → UpdatesBy eq before after is_key None
UpdatesBy-absent same absent = grind arith
