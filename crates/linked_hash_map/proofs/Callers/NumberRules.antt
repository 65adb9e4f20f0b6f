-- For callers: more sets of lemmas that an attribute names, at numbers: an insertion taken back,
-- pairs of another map, moves across others, writes, and visits. `Rules` says how they are written.
use Rattle.std.proofs.Common.{◌≡◌, ◌+◌, ◌<◌, ◌≤◌, ℕ, Bool, true, false, List, [], ◌∷◌, ◌++◌, length, take, Some, None, is_some, nat_eq}
use Rattle.std.proofs.Common.{cond, option_map, refl, sym, ap, ap₂, ◌∙◌, arith, append_assoc, length-append}
use Rattle.std.proofs.{Math.Seq.take-append_seam, Math.Seq.drop-append_seam, lemmas.Bool.Decides.nat_tests, lemmas.Map.Keys.IsDistinct-tail}
use Rattle.std.specs.{Cmp.nat_eq_equiv, List.All, List.IsDistinct, Map.keys_of}
use Rattle.linked_hash_map.specs.Pairs.{find, from, value_at, without, set_value, set_or_push, count_before, to_behind, to_before, to_after}
use Rattle.linked_hash_map.specs.{declared.map.Mode.Mode, declared.map.Mode.TheVariants.Keep, Inserts.insert_each, Visits.VisitMaps}
use Rattle.linked_hash_map.proofs.Callers.Cuts.{find-cut, from-cut, count_before-cut, to_before-cut}
use Rattle.linked_hash_map.proofs.Callers.FromKeys.{length-from}
use Rattle.linked_hash_map.proofs.Callers.Keys.{find-none, set_value-none, without-absent}
use Rattle.linked_hash_map.proofs.Callers.WritingVisits.{VisitMaps-written, VisitMaps-removed, length-changed}
use Rattle.linked_hash_map.proofs.Callers.{Collected.insert_each-apart, Lookups.lookup_entry-append, Lookups.value_at-set_or_push_here}
use Rattle.linked_hash_map.proofs.Callers.{Turns.find-others, Writes.without-put, Writes.set_value-set_or_push}

-- after an insertion in Keep the key has the value; a new key removed, or the old value written,
-- gives the pairs that were there before
module _ {V : Type 0} (pairs : List (ℕ × V)) (k : ℕ) (w : V) where
  pub undone_number : IsDistinct nat_eq (keys_of pairs)
      → (set_or_push nat_eq pairs k w ≡ set_or_push nat_eq pairs k w)
      × (value_at nat_eq (set_or_push nat_eq pairs k w) k ≡ Some w)
      × (value_at nat_eq pairs k ≡ None → without nat_eq (set_or_push nat_eq pairs k w) k ≡ pairs)
      × ((v : V) → value_at nat_eq pairs k ≡ Some v → set_value nat_eq (set_or_push nat_eq pairs k w) k v ≡ pairs)
  undone_number distinct = (
    refl,
    value_at-set_or_push_here nat_eq_equiv pairs k w,
    λ none. without-put nat_eq_equiv Keep pairs k w none,
    λ v had. set_value-set_or_push nat_eq_equiv pairs k w v distinct had,
  )

-- an insertion in Keep, taken back
pub ruleset undone = (undone_number)

-- all pairs of a map that has other keys
pub insert_each_number : {V : Type 0} (mode : Mode) (pairs items : List (ℕ × V)) → IsDistinct nat_eq (keys_of items)
    → All (λ item. find nat_eq pairs item.0 ≡ None) items → insert_each nat_eq mode pairs items ≡ pairs ++ items
insert_each_number = insert_each-apart nat_eq_equiv

-- such pairs, put in behind the others
pub ruleset appended = (insert_each_number)

-- two pairs with others between them: the first goes right behind the second, or this right before
-- the first
module _ {V : Type 0} (one : ℕ × V) where
  first_moved : (front behind : List (ℕ × V)) → find nat_eq (front ++ behind) one.0 ≡ None
      → to_behind nat_eq (one ∷ (front ++ behind)) one.0 (length (one ∷ front)) ≡ front ++ one ∷ behind
  first_moved front behind none =
      let sides = lookup_entry-append (nat_eq one.0) front behind in let same = nat_eq_equiv.refl one.0 in
      let first = take-append_seam (one ∷ front) behind in let rest = drop-append_seam (one ∷ front) behind in
      grind (arith, none, same, sides, first, rest, without-absent)

  pub across_number : (xs ys : List (ℕ × V)) (two : ℕ × V) (zs : List (ℕ × V))
      → IsDistinct nat_eq (keys_of (xs ++ one ∷ (ys ++ two ∷ zs)))
      → (xs ++ one ∷ (ys ++ two ∷ zs) ≡ xs ++ one ∷ (ys ++ two ∷ zs))
      × (to_before nat_eq nat_eq (xs ++ one ∷ (ys ++ two ∷ zs)) two.0 one.0 ≡ xs ++ two ∷ one ∷ (ys ++ zs))
      × (is_some (find nat_eq (xs ++ one ∷ (ys ++ two ∷ zs)) one.0) ≡ true)
      × (is_some (find nat_eq (xs ++ one ∷ (ys ++ two ∷ zs)) two.0) ≡ true)
      × (to_after nat_eq nat_eq (xs ++ one ∷ (ys ++ two ∷ zs)) one.0 two.0 ≡ xs ++ (ys ++ two ∷ one ∷ zs))
  across_number [] ys two zs distinct =
      let seam = append_assoc ys (two ∷ []) zs in
      let none = find-others nat_eq_equiv (ys ++ two ∷ zs) one.0 one distinct (nat_eq_equiv.refl one.0) in
      let n : count_before nat_eq (one ∷ (ys ++ two ∷ zs)) two.0 + 1 ≡ length (one ∷ (ys ++ two ∷ [])) =
      omega (arith, count_before-cut nat_eq_equiv (one ∷ ys) two zs distinct, length-append ys (two ∷ [])) in (
        refl,
        to_before-cut nat_eq_equiv [] one ys two zs distinct,
        ap is_some (find-cut nat_eq_equiv [] one (ys ++ two ∷ zs) distinct),
        ap is_some (find-cut nat_eq_equiv (one ∷ ys) two zs distinct),
        ap₂ (λ ps n. to_behind nat_eq (one ∷ ps) one.0 n) (sym seam) n
            ∙ first_moved (ys ++ two ∷ []) zs (ap (λ ps. find nat_eq ps one.0) seam ∙ none) ∙ append_assoc ys (two ∷ []) (one ∷ zs),
      )
  across_number (x ∷ xs) ys two zs distinct =
      let pairs = xs ++ one ∷ (ys ++ two ∷ zs) in
      let rest = across_number xs ys two zs (IsDistinct-tail nat_eq x.0 (keys_of pairs) distinct) in
      let others = λ (q : ℕ). find-others nat_eq_equiv pairs q x distinct in (
        refl,
        to_before-cut nat_eq_equiv (x ∷ xs) one ys two zs distinct,
        grind (arith, rest, others one.0),
        grind (arith, rest, others two.0),
        grind (arith, rest, others one.0, others two.0),
      )

-- one of two pairs moved beside the other
pub ruleset across = (across_number, append_assoc)

-- what each number has once a value is written
value_at-set_value : {V : Type 0} (pairs : List (ℕ × V)) (k : ℕ) (v : V) (q : ℕ) → value_at nat_eq (set_value nat_eq pairs k v) q
    ≡ cond (nat_eq k q) (option_map (λ _. v) (value_at nat_eq pairs q)) (value_at nat_eq pairs q)
value_at-set_value [] k v q = grind arith
value_at-set_value (pair ∷ pairs) k v q = grind (arith, nat_tests, value_at-set_value pairs k v q)

pub value_at-set_value_number : {V : Type 0} (pairs : List (ℕ × V)) (k : ℕ) (v : V)
    → (set_value nat_eq pairs k v ≡ set_value nat_eq pairs k v)
    × ((q : ℕ) → value_at nat_eq (set_value nat_eq pairs k v) q
    ≡ cond (nat_eq k q) (option_map (λ _. v) (value_at nat_eq pairs q)) (value_at nat_eq pairs q))
value_at-set_value_number pairs k v = (refl, value_at-set_value pairs k v)

-- the pairs from a number on, and what is left if those behind it go
pub length-from_number : {V : Type 0} (pairs : List (ℕ × V)) (k : ℕ) → (find nat_eq pairs k ≡ find nat_eq pairs k)
    × (length (from nat_eq pairs k) ≤ length pairs) × (is_some (find nat_eq pairs k) ≡ true → 0 < length (from nat_eq pairs k))
length-from_number pairs k = let is = length-from nat_eq pairs k in (refl, is.0, is.1)

pub cut_number : {V : Type 0} (xs ys : List (ℕ × V)) (one : ℕ × V) → IsDistinct nat_eq (keys_of (xs ++ one ∷ ys))
    → (xs ++ one ∷ ys ≡ xs ++ one ∷ ys) × (find nat_eq (xs ++ one ∷ ys) one.0 ≡ Some one)
    × (from nat_eq (xs ++ one ∷ ys) one.0 ≡ one ∷ ys) × (length (xs ++ one ∷ ys) ≡ length xs + (length ys + 1))
    × (take (length xs + 1) (xs ++ one ∷ ys) ≡ xs ++ one ∷ [])
cut_number xs ys one distinct = (
  refl,
  find-cut nat_eq_equiv xs one ys distinct,
  from-cut nat_eq_equiv xs one ys distinct,
  grind (arith, length-append),
  ap₂ take (sym (length-append xs (one ∷ []))) (sym (append_assoc xs (one ∷ []) ys)) ∙ take-append_seam (xs ++ one ∷ []) ys,
)

pub ruleset cut = (length-from_number, cut_number)

-- a value that is written only if its key is there
pub ruleset written = (find-none, set_value-none, value_at-set_value_number)

-- a step of a visit that writes, or takes out
module _ {V : Type 0} {keeps : ℕ × V → Bool} {change : ℕ × V → V} {start now : List (ℕ × V)} {to_come left : List ℕ} {k : ℕ} {v : V}
    (w : VisitMaps keeps change start now to_come) (visits : to_come ≡ k ∷ left) (distinct : IsDistinct nat_eq (keys_of now))
    (has : value_at nat_eq now k ≡ Some v) where
  pub VisitMaps-written_number : {pairs after : List (ℕ × V)} → pairs ≡ now → {to_come_after : List ℕ} {new : V} → keeps (k, v) ≡ true
      → new ≡ change (k, v) → after ≡ set_value nat_eq pairs k new → to_come_after ≡ left → VisitMaps keeps change start after to_come_after
  VisitMaps-written_number = VisitMaps-written nat_eq_equiv w visits distinct has

  pub VisitMaps-removed_number : {pairs after : List (ℕ × V)} → pairs ≡ now → {to_come_after : List ℕ} → keeps (k, v) ≡ false
      → after ≡ without nat_eq pairs k → to_come_after ≡ left → VisitMaps keeps change start after to_come_after
  VisitMaps-removed_number = VisitMaps-removed nat_eq_equiv w visits distinct has

-- a visit that keeps the pairs which a test of numbers tells, with changed values, and how many
-- these are
pub ruleset number_changes = (VisitMaps-written_number, VisitMaps-removed_number, length-changed, nat_tests)
