-- For callers: a visit that takes some of the pairs out and writes the values of the others, step
-- by step.
use Rattle.std.proofs.Common.{◌≡◌, ◌≤◌, ℕ, Bool, true, false, cond, List, [], ◌∷◌, ◌++◌, length, map, filter, slice_get, option_map, Some}
use Rattle.std.proofs.Common.{IfSome, refl, sym, ap, subst, ◌∙◌, arith, append_assoc, length-append}
use Rattle.std.proofs.lemmas.{List.map-append, List.length-map, List.Elements.filter-append}
use Rattle.std.specs.{Cmp.IsEquivalence, List.IsDistinct, List.remove, Map.keys_of}
use Rattle.lhm_ring.proofs.lists.{Options.Some-injective, Splits.SplitFirst}
use Rattle.lhm_ring.proofs.tables.Positions.{slice_get-append, remove-append}
use Rattle.linked_hash_map.specs.{Indexes.set_value_at, Pairs.value_at, Pairs.without, Pairs.set_value, Visits.VisitMaps}
use Rattle.linked_hash_map.proofs.pairs.Indexes.{find-own, without-own, set_value-own_at, set_value_at-append}
use Rattle.linked_hash_map.proofs.Callers.Visits.{Next, next_of, length-kept}

module _ {K V : Type 0} {eq : K → K → Bool} (laws : IsEquivalence eq) {keeps : K × V → Bool} {change : K × V → V}
    {start now : List (K × V)} {k : K} {left : List K} {v : V}
    (w : VisitMaps keeps change start now (k ∷ left)) (distinct : IsDistinct eq (keys_of now)) (has : value_at eq now k ≡ Some v) where
  next : Next k left w.rest
  next = next_of k left w.rest w.left_is

  abbrev n : SplitFirst (λ pair. pair.0) w.rest k
  n = next.split

  abbrev changed : K × V → K × V
  changed pair = (pair.0, change pair)

  abbrev done : List (K × V)
  done = map changed (filter keeps w.passed)

  now-seam : now ≡ done ++ n.node ∷ n.after
  now-seam = w.now_is ∙ ap (λ r. done ++ r) n.is

  start-seam : start ≡ w.passed ++ n.node ∷ n.after
  start-seam = w.start_is ∙ ap (λ r. w.passed ++ r) n.is

  there : slice_get now (length done) ≡ Some n.node
  there = ap (λ ps. slice_get ps (length done)) now-seam ∙ slice_get-append done n.node n.after

  value : v ≡ n.node.1
  value = Some-injective _ _
      (sym has ∙ ap (value_at eq now) (sym n.at_is) ∙ ap (option_map (λ p. p.1))
      (find-own laws now distinct (length done) n.node there))

  pair_is : (k, v) ≡ n.node
  pair_is = λ i. (sym n.at_is i, value i)

  -- what the pairs become once the pair at hand is passed: none, or one with its key
  step : (b : Bool) → keeps (k, v) ≡ b → {after : List (K × V)}
      → after ≡ done ++ (cond b (changed n.node ∷ []) [] ++ n.after) → VisitMaps keeps change start after left
  step b kept {after} is = record {
    passed = w.passed ++ n.node ∷ [];
    rest = n.after;
    start_is = start-seam ∙ sym (append_assoc w.passed (n.node ∷ []) n.after);
    now_is = is ∙ sym (append_assoc done (cond b (changed n.node ∷ []) []) n.after)
        ∙ ap (λ (ps : List (K × V)). ps ++ n.after) (sym (ap (map changed) (filter-append keeps w.passed (n.node ∷ []))
        ∙ map-append changed (filter keeps w.passed) (cond (keeps n.node) (n.node ∷ []) [])
        ∙ ap (λ c. done ++ map changed (cond c (n.node ∷ []) [])) (ap keeps (sym pair_is) ∙ kept)
        ∙ ap (λ ps. done ++ ps) (mapped b)));
    left_is = next.behind;
  }
    where
      mapped : (c : Bool) → map changed (cond c (n.node ∷ []) []) ≡ cond c (changed n.node ∷ []) []
      mapped true = refl
      mapped false = refl

  write : keeps (k, v) ≡ true → {after : List (K × V)} → after ≡ set_value eq now k (change (k, v))
      → VisitMaps keeps change start after left
  write kept is = step true kept (is ∙ (λ i. set_value eq now (sym n.at_is i) (change (pair_is i)))
      ∙ set_value-own_at laws now distinct (length done) n.node there (change n.node)
      ∙ ap (λ ps. set_value_at ps (length done) (change n.node)) now-seam
      ∙ set_value_at-append done n.node n.after (change n.node))

  take_out : keeps (k, v) ≡ false → {after : List (K × V)} → after ≡ without eq now k → VisitMaps keeps change start after left
  take_out gone is = step false gone (is ∙ ap (without eq now) (sym n.at_is) ∙ without-own laws now distinct (length done) n.node there
      ∙ ap (λ ps. remove ps (length done)) now-seam ∙ remove-append done n.node n.after)

  at_start : slice_get start (length w.passed) ≡ Some (k, v)
  at_start = grind (arith, start-seam, slice_get-append, pair_is)

-- a step of the loop, as the clauses of `next_entry` and of the entry's calls say it
module _ {K V : Type 0} {eq : K → K → Bool} (laws : IsEquivalence eq) {keeps : K × V → Bool} {change : K × V → V}
    {start now : List (K × V)} {k : K} {to_come left : List K} {v : V}
    (w : VisitMaps keeps change start now to_come) (visits : to_come ≡ k ∷ left)
    (distinct : IsDistinct eq (keys_of now)) (has : value_at eq now k ≡ Some v) where
  before : VisitMaps keeps change start now (k ∷ left)
  before = subst (λ ks. VisitMaps keeps change start now ks) visits w

  -- the pair at hand was there at the start, with this value
  pub VisitMaps-start : (i : ℕ) × (slice_get start i ≡ Some (k, v))
  VisitMaps-start = (length before.passed, at_start laws before distinct has)

  -- so what holds of each pair at the start holds of it
  pub VisitMaps-holds : (P : K × V → Type 0) → ((i : ℕ) → IfSome (slice_get start i) P) → P (k, v)
  VisitMaps-holds P each = let at = VisitMaps-start in subst (λ o. IfSome o P) at.1 (each at.0)

  pub VisitMaps-written : {pairs after : List (K × V)} → pairs ≡ now → {to_come_after : List K} {new : V} → keeps (k, v) ≡ true
      → new ≡ change (k, v) → after ≡ set_value eq pairs k new → to_come_after ≡ left → VisitMaps keeps change start after to_come_after
  VisitMaps-written same kept is written stays = grind (arith, write, before)

  pub VisitMaps-removed : {pairs after : List (K × V)} → pairs ≡ now → {to_come_after : List K} → keeps (k, v) ≡ false
      → after ≡ without eq pairs k → to_come_after ≡ left → VisitMaps keeps change start after to_come_after
  VisitMaps-removed same gone removed stays = grind (arith, take_out, before)

-- what a visit leaves is no more than there was
pub length-changed : {X : Type 0} (keeps : X → Bool) (passed rest : List X) (change : X → X)
    → (map change (filter keeps passed) ++ rest ≡ map change (filter keeps passed) ++ rest)
    × (length (map change (filter keeps passed) ++ rest) ≤ length (passed ++ rest))
length-changed keeps passed rest change = (refl, grind (arith, length-kept keeps passed rest, length-map, length-append))

-- a visit that keeps some pairs and changes their values
pub ruleset changes = (VisitMaps-written, VisitMaps-removed, VisitMaps-start, length-changed)
