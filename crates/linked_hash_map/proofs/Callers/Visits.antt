-- For callers: a visit that keeps some of the pairs and takes the others out, also one that counts
-- these, and one that puts pairs behind the others, step by step.
use Rattle.std.proofs.Common.{◌≡◌, ℕ, ◌+◌, ◌<◌, ◌≤◌, Bool, true, false, cond, List, [], ◌∷◌, ◌++◌, length, map, take, drop, slice_get}
use Rattle.std.proofs.Common.{get_or, nat_eq, option_map, Some, None, filter, refl, sym, ap, subst, ◌∙◌, append_assoc, append-nil}
use Rattle.std.proofs.lemmas.List.{map-append, drop-map, drop_more, take_more, length-drop, length-map, get_or_append_left}
use Rattle.std.proofs.{Common.length-append, Common.arith, lemmas.List.Elements.filter-append, lemmas.List.Sums.length-filter}
use Rattle.std.proofs.{lemmas.List.Sums.count_by-le-length, lemmas.Option.slice_get-get_or, lemmas.Option.slice_get_past}
use Rattle.std.specs.{Cmp.IsEquivalence, Cmp.nat_eq_equiv, List.IsDistinct, List.remove, Map.keys_of}
use Rattle.lhm_ring.proofs.lists.{Options.Some-injective, Splits.SplitFirst}
use Rattle.lhm_ring.proofs.tables.Positions.{slice_get-append, remove-append}
use Rattle.linked_hash_map.specs.{LinkedMap.LinkedMap, Cursor.to_visit, Pairs.value_at, Pairs.without, Validity.IsValid, Visits.VisitKeeps}
use Rattle.linked_hash_map.proofs.pairs.Indexes.{find-own, without-own}
use Rattle.linked_hash_map.proofs.Callers.Keys.{IsSome-find, length-without_present}

-- the first pair to come has the key that is next, and the others are to come behind it
pub record Next {K V : Type 0} (k : K) (left : List K) (rest : List (K × V)) : Type 0 where
  pub split : SplitFirst (λ pair. pair.0) rest k
  pub behind : left ≡ keys_of split.after

pub next_of : {K V : Type 0} (k : K) (left : List K) (rest : List (K × V)) → k ∷ left ≡ keys_of rest → Next k left rest
next_of k left [] h = absurd (let no : k ∷ left ≡ [] = h in cc)
next_of k left (pair ∷ others) h = record { split = record { node = pair; after = others; is = refl; at_is = cc }; behind = cc }

module _ {K V : Type 0} {eq : K → K → Bool} (laws : IsEquivalence eq) (keeps : K × V → Bool)
    {start now : List (K × V)} {k : K} {left : List K} {v : V}
    (w : VisitKeeps keeps start now (k ∷ left)) (distinct : IsDistinct eq (keys_of now)) (has : value_at eq now k ≡ Some v) where
  next : Next k left w.rest
  next = next_of k left w.rest w.left_is

  abbrev n : SplitFirst (λ pair. pair.0) w.rest k
  n = next.split

  now-seam : now ≡ filter keeps w.passed ++ n.node ∷ n.after
  now-seam = w.now_is ∙ ap (λ r. filter keeps w.passed ++ r) n.is

  start-seam : start ≡ (w.passed ++ n.node ∷ []) ++ n.after
  start-seam = w.start_is ∙ ap (λ r. w.passed ++ r) n.is ∙ sym (append_assoc w.passed (n.node ∷ []) n.after)

  there : slice_get now (length (filter keeps w.passed)) ≡ Some n.node
  there = ap (λ ps. slice_get ps (length (filter keeps w.passed))) now-seam ∙ slice_get-append (filter keeps w.passed) n.node n.after

  value : v ≡ n.node.1
  value = Some-injective _ _
      (sym has ∙ ap (value_at eq now) (sym n.at_is) ∙ ap (option_map (λ p. p.1))
      (find-own laws now distinct (length (filter keeps w.passed)) n.node there))

  pair_is : (k, v) ≡ n.node
  pair_is = λ i. (sym n.at_is i, value i)

  filtered : filter keeps (w.passed ++ n.node ∷ []) ≡ filter keeps w.passed ++ cond (keeps n.node) (n.node ∷ []) []
  filtered = filter-append keeps w.passed (n.node ∷ [])

  -- a pair that is kept is passed as it is
  VisitKeeps-pass : keeps (k, v) ≡ true → VisitKeeps keeps start now left
  VisitKeeps-pass kept = record {
    passed = w.passed ++ n.node ∷ [];
    rest = n.after;
    start_is = start-seam;
    now_is = now-seam ∙ sym (append_assoc (filter keeps w.passed) (n.node ∷ []) n.after)
        ∙ ap (λ (ps : List (K × V)). ps ++ n.after) (sym (filtered ∙ ap
        (λ b. filter keeps w.passed ++ cond b (n.node ∷ []) []) (ap keeps (sym pair_is) ∙ kept)));
    left_is = next.behind;
  }

  -- one that is not kept is taken out
  VisitKeeps-remove : keeps (k, v) ≡ false → VisitKeeps keeps start (without eq now k) left
  VisitKeeps-remove gone = record {
    passed = w.passed ++ n.node ∷ [];
    rest = n.after;
    start_is = start-seam;
    now_is = ap (without eq now) (sym n.at_is) ∙ without-own laws now distinct (length (filter keeps w.passed)) n.node there
        ∙ ap (λ ps. remove ps (length (filter keeps w.passed))) now-seam ∙ remove-append (filter keeps w.passed) n.node n.after
        ∙ ap (λ (ps : List (K × V)). ps ++ n.after) (sym (filtered
        ∙ ap (λ b. filter keeps w.passed ++ cond b (n.node ∷ []) []) (ap keeps (sym pair_is) ∙ gone)
        ∙ append-nil (filter keeps w.passed)));
    left_is = next.behind;
  }

-- there are no more than there were
pub length-kept : {X : Type 0} (keeps : X → Bool) (passed rest : List X) → (filter keeps passed ++ rest ≡ filter keeps passed ++ rest)
    × (length (filter keeps passed ++ rest) ≤ length (passed ++ rest))
length-kept keeps passed rest = (refl, grind (arith, length-filter, count_by-le-length, length-append))

-- the keys visited and those still to visit stay what they are at the start
pub append-visited : {X : Type 0} (seen later : List X) {now left rest keys : List X} {pushed key : X} → now ≡ seen ++ pushed ∷ []
    → pushed ≡ key → left ≡ key ∷ later → rest ≡ later → seen ++ left ≡ keys → now ++ rest ≡ keys
append-visited seen later {key = key} grown is visits stays all =
    (λ i. grown i ++ stays i) ∙ append_assoc seen (_ ∷ []) later ∙ ap (λ k. seen ++ k ∷ later) is
    ∙ ap (λ keys. seen ++ keys) (sym visits) ∙ all

-- a step of the loop, as the clauses of `next_entry` and of the entry's calls say it
module _ {K V : Type 0} {eq : K → K → Bool} (laws : IsEquivalence eq) {keeps : K × V → Bool}
    {start now pairs : List (K × V)} {k : K} {to_come left : List K} {v : V}
    (w : VisitKeeps keeps start now to_come) (visits : to_come ≡ k ∷ left)
    (distinct : IsDistinct eq (keys_of now)) (has : value_at eq now k ≡ Some v)
    (same : pairs ≡ now) where
  before : VisitKeeps keeps start now (k ∷ left)
  before = subst (λ ks. VisitKeeps keeps start now ks) visits w

  pub VisitKeeps-passed : {after : List (K × V)} {to_come_after : List K} → keeps (k, v) ≡ true
      → after ≡ pairs → to_come_after ≡ left → VisitKeeps keeps start after to_come_after
  VisitKeeps-passed kept stands stays = grind (arith, VisitKeeps-pass, before)

  pub VisitKeeps-removed : {after : List (K × V)} {to_come_after : List K} → keeps (k, v) ≡ false → after ≡ without eq pairs k
      → to_come_after ≡ left → VisitKeeps keeps start after to_come_after
  VisitKeeps-removed gone removed stays = grind (arith, VisitKeeps-remove, before)

-- a step of a visit that only puts pairs behind the others: the key that is next is that of the
-- pair behind the first n
module _ {K V : Type 0} {eq : K → K → Bool} (laws : IsEquivalence eq) (start behind : List (K × V))
    (n : ℕ) {now : List (K × V)} {to_come left : List K} {k : K} {v : V}
    (now_is : now ≡ start ++ behind) (to_come_is : to_come ≡ drop n (keys_of start))
    (visits : to_come ≡ k ∷ left) (distinct : IsDistinct eq (keys_of now)) (has : value_at eq now k ≡ Some v) where
  pub within-visited : n < length start
  within-visited = omega (
    arith,
    ap length (sym visits ∙ to_come_is),
    length-drop n (keys_of start),
    length-map start (λ pair. pair.0),
  )

  abbrev come : K × V
  come = get_or start n (k, v)

  keys : k ∷ left ≡ come.0 ∷ keys_of (drop (n + 1) start)
  keys = sym visits ∙ to_come_is ∙ drop-map (λ (pair : K × V). pair.0) n start ∙ ap keys_of (drop_more start n (k, v) within-visited)

  has_come : slice_get now n ≡ Some come
  has_come = ap (λ ps. slice_get ps n) now_is
      ∙ slice_get-get_or (start ++ behind) n (k, v) (omega (arith, within-visited, length-append start behind))
      ∙ ap Some (get_or_append_left start behind (k, v) n within-visited)

  come-is : come ≡ (k, v)
  come-is = grind (arith, keys, value, Some-injective, find-own, has_come)

  pub take-visited : take (n + 1) start ≡ take n start ++ (k, v) ∷ []
  take-visited = take_more start n (k, v) within-visited ∙ ap (λ pair. take n start ++ pair ∷ []) come-is

  pub slice_get-visited : slice_get start n ≡ Some (k, v)
  slice_get-visited = slice_get-get_or start n (k, v) within-visited ∙ ap Some come-is

  pub drop-visited : left ≡ drop (n + 1) (keys_of start)
  drop-visited = grind (arith, keys, drop-map)

-- how far a visit has come that puts what it makes of each pair behind the others: n of the pairs
-- at the start are passed, and the others are left to visit
pub record VisitAppends {K V : Type 0} (change : K × V → K × V) (start now : List (K × V))
    (left : List K) (n : ℕ) : Type 0 where
  pub now_is : now ≡ start ++ map change (take n start)
  pub left_is : left ≡ drop n (keys_of start)

-- with no pair left to visit, all are passed
pub VisitAppends-end : {K V : Type 0} {change : K × V → K × V} {start now : List (K × V)} {left : List K} {n : ℕ}
    → VisitAppends change start now left n → left ≡ [] → slice_get start n ≡ None
VisitAppends-end {start = start} {n = n} w none = slice_get_past start n (omega (
  arith,
  ap length (sym none ∙ w.left_is),
  length-drop n (keys_of start),
  length-map start (λ pair. pair.0),
))

-- a step of the loop, as the clauses of `next_entry` and of an insertion say it
module _ {K V : Type 0} {eq : K → K → Bool} (laws : IsEquivalence eq) {change : K × V → K × V}
    {start now : List (K × V)} {n : ℕ} {to_come left : List K} {k : K} {v : V}
    (w : VisitAppends change start now to_come n) (visits : to_come ≡ k ∷ left)
    (distinct : IsDistinct eq (keys_of now)) (has : value_at eq now k ≡ Some v) where
  abbrev copies : List (K × V)
  copies = map change (take n start)

  -- the pair at hand was there at the start, with this value
  pub VisitAppends-at : slice_get start n ≡ Some (k, v)
  VisitAppends-at = slice_get-visited laws start copies n w.now_is w.left_is visits distinct has

  pub VisitAppends-appended : {pairs after : List (K × V)} {to_come_after : List K} → pairs ≡ now → after ≡ pairs ++ change (k, v) ∷ []
      → to_come_after ≡ left → VisitAppends change start after to_come_after (n + 1)
  VisitAppends-appended same appended stays = record {
    now_is = appended ∙ ap (λ (ps : List (K × V)). ps ++ change (k, v) ∷ []) (same ∙ w.now_is)
        ∙ append_assoc start copies (change (k, v) ∷ [])
        ∙ ap (λ (ps : List (K × V)). start ++ ps) (sym (ap (map change)
        (take-visited laws start copies n w.now_is w.left_is visits distinct has)
        ∙ map-append change (take n start) ((k, v) ∷ [])));
    left_is = stays ∙ drop-visited laws start copies n w.now_is w.left_is visits distinct has;
  }

-- the same at numbers, of a map
module _ {V S : Type 0} {change : ℕ × V → ℕ × V} {start : List (ℕ × V)} {now : LinkedMap ℕ V S} {n : ℕ}
    {left : List ℕ} {k : ℕ} {v : V}
    (w : VisitAppends change start now.pairs (to_visit now) n) (visits : to_visit now ≡ k ∷ left)
    (valid : IsValid nat_eq now) (has : value_at nat_eq now.pairs k ≡ Some v) where
  pub VisitAppends-at_number : slice_get start n ≡ Some (k, v)
  VisitAppends-at_number = VisitAppends-at nat_eq_equiv w visits valid.distinct has

  pub VisitAppends-appended_number : {pairs after : List (ℕ × V)} {to_come_after : List ℕ} → pairs ≡ now.pairs
      → after ≡ pairs ++ change (k, v) ∷ [] → to_come_after ≡ left → VisitAppends change start after to_come_after (n + 1)
  VisitAppends-appended_number = VisitAppends-appended nat_eq_equiv w visits valid.distinct has

-- the end of a visit that puts pairs behind the others
pub ruleset appending_visits = (VisitAppends-end)

-- where such a visit stops, at numbers
pub ruleset appending_numbers = (VisitAppends-at_number, VisitAppends-end)

-- how far a visit of a map has come that keeps some of the pairs, as `VisitKeeps`, and how many it
-- has taken out
pub record VisitTakes {K V S : Type 0} (keeps : K × V → Bool) (start : List (K × V))
    (now : LinkedMap K V S) (taken : ℕ) : Type 0 where
  pub passed : List (K × V)
  pub rest : List (K × V)
  pub start_is : start ≡ passed ++ rest
  pub now_is : now.pairs ≡ filter keeps passed ++ rest
  pub left_is : to_visit now ≡ keys_of rest
  pub counted : taken + length now.pairs ≡ length start

module _ {K V S : Type 0} {eq : K → K → Bool} (laws : IsEquivalence eq) {keeps : K × V → Bool}
    {start : List (K × V)} {now : LinkedMap K V S} {taken : ℕ} {left : List K} {k : K} {v : V}
    (w : VisitTakes keeps start now taken) (visits : to_visit now ≡ k ∷ left) (valid : IsValid eq now)
    (has : value_at eq now.pairs k ≡ Some v) where
  taking : VisitKeeps keeps start now.pairs (to_visit now)
  taking = record { passed = w.passed; rest = w.rest; start_is = w.start_is; now_is = w.now_is; left_is = w.left_is }

  pub VisitTakes-passed : {after : LinkedMap K V S} → keeps (k, v) ≡ true → after.pairs ≡ now.pairs
      → to_visit after ≡ left → VisitTakes keeps start after taken
  VisitTakes-passed kept stands stays =
      let next = VisitKeeps-passed laws taking visits valid.distinct has refl kept stands stays in
      record {
        passed = next.passed;
        rest = next.rest;
        start_is = next.start_is;
        now_is = next.now_is;
        left_is = next.left_is;
        counted = omega (arith, w.counted, ap length stands);
      }

  pub VisitTakes-removed : {after : LinkedMap K V S} → keeps (k, v) ≡ false → after.pairs ≡ without eq now.pairs k → to_visit after ≡ left
      → VisitTakes keeps start after (taken + 1)
  VisitTakes-removed {after} gone removed stays =
      let fewer : length after.pairs + 1 ≡ length now.pairs = ap (λ (ps : List (K × V)). length ps + 1) removed
      ∙ length-without_present laws now.pairs k valid.distinct (IsSome-find eq now.pairs k v has) in
      let next = VisitKeeps-removed laws taking visits valid.distinct has refl gone removed stays in
      record {
        passed = next.passed;
        rest = next.rest;
        start_is = next.start_is;
        now_is = next.now_is;
        left_is = next.left_is;
        counted = omega (arith, w.counted, fewer);
      }

-- a visit that keeps some pairs and takes the others out, and one that lists the keys that it
-- visits
pub ruleset visits = (VisitKeeps-passed, VisitKeeps-removed, append-visited, length-kept)
