-- For callers: loops over the pairs of another map, whose values go into the values of this one.
use Rattle.std.proofs.Common.{◌≡◌, ◌⊎◌, inl, inr, Bool, true, false, cond, List, ◌∷◌, Option, Some, None, option_map, arith, refl, sym, ap}
use Rattle.std.proofs.{Common.subst, Common.◌∙◌, lemmas.Map.Keys.IsDistinct-tail}
use Rattle.std.specs.{Cmp.IsEquivalence, List.IsDistinct, Map.keys_of, Option.option_or}
use Rattle.linked_hash_map.specs.Pairs.{find, value_at, set_or_push, ActsAs}
use Rattle.linked_hash_map.proofs.Callers.{Lookups.value_at-same, Lookups.value_at-set_or_push, Turns.find-others}

-- what a key has in the pairs that are left before the first is taken: if it is the first key, the
-- value there, and it has in other pairs what the first key has; else what it has in the rest
pub value_at_next : {K V W : Type 0} {eq : K → K → Bool} → IsEquivalence eq → (pairs : List (K × V)) {left rest : List (K × W)}
    {k : K} {w : W} (q : K) → left ≡ (k, w) ∷ rest
    → ((value_at eq left q ≡ Some w) × (value_at eq pairs q ≡ value_at eq pairs k)) ⊎ (value_at eq left q ≡ value_at eq rest q)
value_at_next laws pairs q more = grind (arith, value_at-same)

-- how far a loop over the pairs of another map has come that makes of the value that a key has, or
-- none, and the value in the other map the new one, by f: each key is still to come, and has what
-- it had, or has the new value
pub record IsMerging {K V W : Type 0} (eq : K → K → Bool) (f : Option V → W → V) (old : List (K × V)) (other : List (K × W))
    (now : List (K × V)) (left : List (K × W)) : Type 0 where
  pub distinct : IsDistinct eq (keys_of left)
  pub each : (q : K)
      → ((value_at eq now q ≡ value_at eq old q) × (value_at eq left q ≡ value_at eq other q))
      ⊎ ((value_at eq now q ≡ option_or (option_map (f (value_at eq old q)) (value_at eq other q)) (value_at eq old q))
      × (value_at eq left q ≡ None))

pub IsMerging-start : {K V W : Type 0} (eq : K → K → Bool) (f : Option V → W → V) (old : List (K × V)) (other : List (K × W))
    → IsDistinct eq (keys_of other) → IsMerging eq f old other old other
IsMerging-start eq f old other distinct = record { distinct = distinct; each = λ q. inl (refl, refl) }

-- a step of the loop, as the clauses of `entry` and of `or_insert` say it: `stored` is the key of
-- the entry, and v is the value that is written
pub IsMerging-merged : {K V W : Type 0} {eq : K → K → Bool} → IsEquivalence eq → {f : Option V → W → V} {old now : List (K × V)}
    {other left : List (K × W)} {k stored : K} {after : List (K × V)} {rest : List (K × W)} (v : V) {w : W}
    → IsMerging eq f old other now left → left ≡ (k, w) ∷ rest → ActsAs eq now stored k
    → after ≡ set_or_push eq now stored v → v ≡ f (value_at eq now k) w → IsMerging eq f old other after rest
IsMerging-merged {K} {V} {W} {eq} laws {f} {old} {now} {other} {left} {k} {stored} {after} {rest} v {w} merging more acts is new = record {
  distinct = IsDistinct-tail eq k (keys_of rest) distinct;
  each = λ q. by_test q (eq q k) refl (merging.each q);
}
  where
    distinct : IsDistinct eq (keys_of ((k, w) ∷ rest))
    distinct = subst (λ (ps : List (K × W)). IsDistinct eq (keys_of ps)) more merging.distinct

    after_is : (q : K) → value_at eq after q ≡ cond (eq q k) (Some v) (value_at eq now q)
    after_is q = ap (λ (ps : List (K × V)). value_at eq ps q) (is ∙ acts.sets_or_pushes v) ∙ value_at-set_or_push laws now k q v
        ∙ ap (λ b. cond b (Some v) (value_at eq now q)) (laws.symm k q)

    left_is : (q : K) → value_at eq left q ≡ option_map (λ (p : K × W). p.1) (cond (eq q k) (Some (k, w)) (find eq rest q))
    left_is q = ap (λ (ps : List (K × W)). value_at eq ps q) more

    merged : K → Option V → Option V
    merged q o = option_or (option_map (f o) (value_at eq other q)) o

    by_test : (q : K) (b : Bool) → eq q k ≡ b
        → ((value_at eq now q ≡ value_at eq old q) × (value_at eq left q ≡ value_at eq other q))
        ⊎ ((value_at eq now q ≡ merged q (value_at eq old q)) × (value_at eq left q ≡ None))
        → ((value_at eq after q ≡ value_at eq old q) × (value_at eq rest q ≡ value_at eq other q))
        ⊎ ((value_at eq after q ≡ merged q (value_at eq old q)) × (value_at eq rest q ≡ None))
    by_test q true same (inl was) =
        let here : value_at eq other q ≡ Some w = sym was.1 ∙ left_is q ∙ ap (λ b. option_map (λ (p : K × W). p.1)
        (cond b (Some (k, w)) (find eq rest q))) same in
        let made : Some v ≡ Some (f (value_at eq old q) w) =
        ap Some (new ∙ ap (λ o. f o w) (sym (value_at-same laws now q k same) ∙ was.0)) in
        inr (
          after_is q ∙ ap (λ b. cond b (Some v) (value_at eq now q)) same ∙ made
              ∙ sym (ap (λ o. option_or (option_map (f (value_at eq old q)) o) (value_at eq old q)) here),
          ap (option_map (λ (p : K × W). p.1)) (find-others laws rest q (k, w) distinct same),
        )
    by_test q true same (inr was) =
        let here : Some w ≡ None = sym (left_is q ∙ ap (λ b. option_map (λ (p : K × W). p.1)
        (cond b (Some (k, w)) (find eq rest q))) same) ∙ was.1 in absurd (let no : Some w ≡ None = here in cc)
    by_test q false apart (inl was) = inl (
      after_is q ∙ ap (λ b. cond b (Some v) (value_at eq now q)) apart ∙ was.0,
      sym (left_is q ∙ ap (λ b. option_map (λ (p : K × W). p.1) (cond b (Some (k, w)) (find eq rest q))) apart) ∙ was.1,
    )
    by_test q false apart (inr was) = inr (
      after_is q ∙ ap (λ b. cond b (Some v) (value_at eq now q)) apart ∙ was.0,
      sym (left_is q ∙ ap (λ b. option_map (λ (p : K × W). p.1) (cond b (Some (k, w)) (find eq rest q))) apart) ∙ was.1,
    )

-- no pair of the other map yet
pub ruleset merges = (IsMerging-start)
