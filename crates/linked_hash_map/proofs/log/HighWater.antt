-- How the size and the high-water mark of a log change with one more event.
use Rattle.std.proofs.Common.{◌≡◌, ℕ, ◌+◌, ◌<◌, ◌≤◌, max, suc, Bool, true, false, cond, ◌&&◌, ◌==◌, List, [], ◌∷◌, ◌++◌, length, map}
use Rattle.std.proofs.Common.{Option, Some, None, is_some, filter, filter_map, count_by, refl, sym, ap, ◌∙◌, true≢false, arith, eq-eqb}
use Rattle.std.proofs.Common.{ne_eqb}
use Rattle.std.proofs.lemmas.{List.map-append, List.length-map, List.Elements.filter_map-append, List.Elements.filter-append}
use Rattle.std.proofs.lemmas.{List.Folds.list_any-append, List.Folds.list_all-append, List.Sums.sum_by-append}
use Rattle.std.specs.{List.list_any, List.list_all, List.cons_option, Cmp.IsEquivalence}
use Rattle.linked_hash_map.specs.Log.{Event, Put, Write, Refresh, Remove, RemoveAll, Need, Fit, SetMode, Log, moments, is_fit, needed, live}
use Rattle.linked_hash_map.specs.Log.{pair_of, stands, standing_in, standing, pairs, size, largest, beginnings, fitted, high}
use Rattle.linked_hash_map.specs.{declared.map.Mode.Mode, Pairs.find, Pairs.to_back}
use Rattle.linked_hash_map.proofs.lists.Elements.{by_last, after_last-more, after_last-snoc, largest-append, beginnings-snoc}
use Rattle.linked_hash_map.proofs.log.Bridge.{find-pairs, pairs-write, pairs-refresh, pairs-refresh_absent, pairs-remove, pairs-remove_all}
use Rattle.linked_hash_map.proofs.{log.LiveKeys.pair_of-live, log.Bridge.pairs-fit, log.Bridge.pairs-need, log.Bridge.pairs-set_mode}
use Rattle.linked_hash_map.proofs.{pairs.Calls.length-without, pairs.Calls.length-to_back, log.Distinct.distinct-pairs}

length-filter_map : {X Y : Type 0} (g : X → Option Y) (xs : List X)
    → list_all (λ x. is_some (g x)) xs ≡ true → length (filter_map g xs) ≡ length xs
length-filter_map g [] h = refl
length-filter_map {X} {Y} g (x ∷ xs) h = at (g x) refl (length-filter_map g xs) h
  where
    at : (o : Option Y) → g x ≡ o
        → (list_all (λ x. is_some (g x)) xs ≡ true → length (filter_map g xs) ≡ length xs)
        → (is_some o && list_all (λ x. is_some (g x)) xs) ≡ true
        → length (cons_option o (filter_map g xs)) ≡ suc (length xs)
    at None e f h = absurd (true≢false (sym h))
    at (Some y) e f h = ap suc (f h)

all_alive : {K : Type 0} (alive : K → Bool) (k : K) (b c : Bool) → alive k ≡ b → list_all alive (cond (b && c) (k ∷ []) []) ≡ true
all_alive alive k b c h = grind arith

module _ {K V : Type 0} (eq : K → K → Bool) where
  all_stand : (alive : K → Bool) (later : List (Log K V × Event K V)) (t : Option K) → list_all alive (stands eq alive later t) ≡ true
  all_stand alive later t = grind (arith, all_alive)

  all_standing_in : (alive : K → Bool) (events : List (Log K V × Event K V)) → list_all alive (standing_in eq alive events) ≡ true
  unfolding standing_in
  all_standing_in alive [] = refl
  all_standing_in alive (x ∷ events) = grind (arith, list_all-append, all_stand, all_standing_in alive events)

  all_standing : (log : Log K V) → list_all (λ k. is_some (pair_of (eq k) log)) (standing eq log) ≡ true
  unfolding standing
  all_standing log = ap (λ t. list_all t (standing_in eq (λ k. live (eq k) log) (moments log)))
      (λ i k. pair_of-live (eq k) log i) ∙ all_standing_in (λ k. live (eq k) log) (moments log)

  -- the size is the number of the pairs
  pub size-pairs : (log : Log K V) → size eq log ≡ length (pairs eq log)
  unfolding size pairs
  size-pairs log = sym (length-filter_map (λ k. pair_of (eq k) log) (standing eq log) (all_standing log))

-- one_of, for the count of a list of one
one_is : (b : Bool) → 0 + cond b 1 0 ≡ cond b 1 0
one_is b = grind arith

module _ {K V : Type 0} where
  more_fits : (log : Log K V) (e : Event K V) → count_by is_fit (log ++ e ∷ []) ≡ count_by is_fit log + cond (is_fit e) 1 0
  more_fits log e = sum_by-append (λ x. cond (is_fit x) 1 0) log (e ∷ []) ∙ ap (λ n. count_by is_fit log + n) (one_is (is_fit e))

  none_fitted : (log : Log K V) (n : ℕ) → count_by is_fit log < n → filter (λ b. count_by is_fit b == n) (beginnings log) ≡ []
  none_fitted = by_last (λ log. (n : ℕ) → count_by is_fit log < n → filter (λ b. count_by is_fit b == n) (beginnings log) ≡ [])
      (λ log e h n l.
      let more = more_fits log e in grind (arith, beginnings-snoc, filter-append))
      (λ n l. let apart : 0 ≡ n → ⊥ = λ q. omega arith in ap (λ b. cond b ([] ∷ []) []) (ne_eqb 0 n apart))

  -- the beginnings that contain the last Fit, with one more event
  fitted-snoc : (log : Log K V) (e : Event K V) → is_fit e ≡ false → fitted (log ++ e ∷ []) ≡ fitted log ++ (log ++ e ∷ []) ∷ []
  fitted-snoc log e h = grind (arith, more_fits, beginnings-snoc, filter-append, eq-eqb)

  fitted-fit : (log : Log K V) → fitted (log ++ Fit ∷ []) ≡ (log ++ Fit ∷ []) ∷ []
  fitted-fit log =
      let more : count_by is_fit (log ++ Fit ∷ []) ≡ count_by is_fit log + 1 = more_fits log Fit in
      let less : count_by is_fit log < count_by is_fit (log ++ Fit ∷ []) = omega arith in
      ap (filter (λ b. count_by is_fit b == count_by is_fit (log ++ Fit ∷ []))) (beginnings-snoc log Fit)
      ∙ filter-append (λ b. count_by is_fit b == count_by is_fit (log ++ Fit ∷ [])) (beginnings log) ((log ++ Fit ∷ []) ∷ [])
      ∙ ap (λ bs. bs ++ filter (λ b. count_by is_fit b == count_by is_fit (log ++ Fit ∷ []))
      ((log ++ Fit ∷ []) ∷ [])) (none_fitted log (count_by is_fit (log ++ Fit ∷ [])) less)
      ∙ ap (λ b. cond b ((log ++ Fit ∷ []) ∷ []) []) (eq-eqb (count_by is_fit (log ++ Fit ∷ [])) (count_by is_fit (log ++ Fit ∷ [])) refl)

  any_fit-snoc : (log : Log K V) (e : Event K V) → is_fit e ≡ false → list_any is_fit (log ++ e ∷ []) ≡ list_any is_fit log
  any_fit-snoc log e h = grind (arith, list_any-append)

-- the largest of two parts, with one more number at the end of the first, and a few at the end of
-- the second
marks_step : (ms ns rest : List ℕ) (n : ℕ) → largest ((ms ++ n ∷ []) ++ (ns ++ rest)) ≡ max (max (largest (ms ++ ns)) n) (largest rest)
marks_step ms ns rest n = grind (arith, largest-append)

module _ {K V : Type 0} (eq : K → K → Bool) where
  sizes-snoc : (bs : List (Log K V)) (b : Log K V) → map (size eq) (bs ++ b ∷ []) ≡ map (size eq) bs ++ size eq b ∷ []
  sizes-snoc bs b = map-append (size eq) bs (b ∷ [])

  high_step : (c : ℕ) (log : Log K V) (e : Event K V) (any : Bool) → is_fit e ≡ false → list_any is_fit log ≡ any
      → high eq c (log ++ e ∷ []) ≡ max (max (high eq c log) (size eq (log ++ e ∷ []))) (largest (filter_map needed (e ∷ [])))
  unfolding high
  high_step c log e k h any =
      grind (arith, any_fit-snoc, fitted-snoc, after_last-more, sizes-snoc, filter_map-append, marks_step, beginnings-snoc)

  high-snoc : (c : ℕ) (log : Log K V) (e : Event K V) → is_fit e ≡ false
      → high eq c (log ++ e ∷ []) ≡ max (max (high eq c log) (size eq (log ++ e ∷ []))) (largest (filter_map needed (e ∷ [])))
  high-snoc c log e h = high_step c log e (list_any is_fit log) h refl

  high_fit_step : (c : ℕ) (log : Log K V) → high eq c (log ++ Fit ∷ []) ≡ max (size eq (log ++ Fit ∷ [])) 0
  unfolding high
  high_fit_step c log = grind (arith, list_any-append, fitted-fit, after_last-snoc)

high-nil : {K : Type 0} (V : Type 0) (eq : K → K → Bool) (c : ℕ) → size {V = V} eq [] ≤ high {V = V} eq c []
unfolding size standing standing_in high
high-nil V eq c = omega arith

module _ {K V : Type 0} (eq : K → K → Bool) (c : ℕ) where
  size_high_step : (log : Log K V) (e : Event K V) → size eq (log ++ e ∷ []) ≤ high eq c (log ++ e ∷ [])
  size_high_step log e = grind (arith, high-snoc, high_fit_step)

  -- the size never passes the high-water mark
  pub size-high : (log : Log K V) → size eq log ≤ high eq c log
  size-high = by_last (λ log. size eq log ≤ high eq c log) (λ log e h. size_high_step log e) (high-nil V eq c)

  -- the high-water mark rises to the size after an event that is no Need and no Fit
  pub high-more : (log : Log K V) (e : Event K V) → is_fit e ≡ false → needed e ≡ None
      → high eq c (log ++ e ∷ []) ≡ max (high eq c log) (size eq (log ++ e ∷ []))
  high-more log e h n = grind (arith, high-snoc)

module _ {K V : Type 0} {eq : K → K → Bool} (laws : IsEquivalence eq) where
  -- a Need and a Fit leave the size
  pub size-fit : (log : Log K V) → size eq (log ++ Fit ∷ []) ≡ size eq log
  size-fit log = size-pairs eq (log ++ Fit ∷ []) ∙ ap length (pairs-fit laws log) ∙ sym (size-pairs eq log)

  pub size-need : (log : Log K V) (m : ℕ) → size eq (log ++ Need m ∷ []) ≡ size eq log
  size-need log m = size-pairs eq (log ++ Need m ∷ []) ∙ ap length (pairs-need laws log m) ∙ sym (size-pairs eq log)

  -- the high-water mark rises to the number of a Need
  pub high-need : (c : ℕ) (log : Log K V) (m : ℕ) → high eq c (log ++ Need m ∷ []) ≡ max (high eq c log) m
  high-need c log m = grind (arith, high-snoc, size-need, size-high)

  -- and falls to the size at a Fit
  pub high-fit : (c : ℕ) (log : Log K V) → high eq c (log ++ Fit ∷ []) ≡ size eq log
  high-fit c log = grind (arith, high_fit_step, size-fit)

-- the size and the high-water mark after each kind of event
module _ {K V : Type 0} {eq : K → K → Bool} (laws : IsEquivalence eq) (log : Log K V) where
  size_of : (later : Log K V) (contents : List (K × V)) → pairs eq later ≡ contents → size eq later ≡ length contents
  size_of later contents h = size-pairs eq later ∙ ap length h

  live-found : (k : K) → is_some (find eq (pairs eq log) k) ≡ live (eq k) log
  live-found k = ap is_some (find-pairs laws log k) ∙ pair_of-live (eq k) log

  pub size-remove : (k : K) → size eq (log ++ Remove k ∷ []) + cond (live (eq k) log) 1 0 ≡ size eq log
  size-remove k = grind (arith, size_of, pairs-remove, live-found, length-without, distinct-pairs, size-pairs)

  pub size-write : (k : K) (v : V) → size eq (log ++ Write k v ∷ []) ≡ size eq log
  size-write k v = grind (arith, size_of, pairs-write, length-map, size-pairs)

  pub size-remove_all : size eq (log ++ RemoveAll ∷ []) ≡ 0
  size-remove_all = size_of (log ++ RemoveAll ∷ []) [] (pairs-remove_all laws log)

  pub size-set_mode : (m : Mode) → size eq (log ++ SetMode m ∷ []) ≡ size eq log
  size-set_mode m = size_of (log ++ SetMode m ∷ []) (pairs eq log) (pairs-set_mode laws log m) ∙ sym (size-pairs eq log)

  pub size-refresh : (k : K) → size eq (log ++ Refresh k ∷ []) ≡ size eq log
  size-refresh k = by_pair (pair_of (eq k) log) refl
    where
      by_pair : (o : Option (K × V)) → pair_of (eq k) log ≡ o → size eq (log ++ Refresh k ∷ []) ≡ size eq log
      by_pair None h = size_of (log ++ Refresh k ∷ []) (pairs eq log) (pairs-refresh_absent laws log k h) ∙ sym (size-pairs eq log)
      by_pair (Some pair) h =
          size_of (log ++ Refresh k ∷ []) (to_back eq (pairs eq log) k pair.1) (pairs-refresh laws log k pair h)
          ∙ length-to_back laws (pairs eq log) k pair.1 (distinct-pairs laws log)
          ∙ ap (λ b. cond b (length (pairs eq log)) (length (pairs eq log) + 1)) (ap is_some (find-pairs laws log k ∙ h))
          ∙ sym (size-pairs eq log)

  -- an event that does not enlarge the size leaves the high-water mark, unless it is a Need or a
  -- Fit
  keeps_high : (start : ℕ) (event : Event K V) → is_fit event ≡ false → needed event ≡ None → size eq (log ++ event ∷ []) ≤ size eq log
      → high eq start (log ++ event ∷ []) ≡ high eq start log
  keeps_high start event no_fit no_need less = grind (arith, high-more, size-high)

  pub high-put : (start : ℕ) (k : K) (v : V) → high eq start (log ++ Put k v ∷ []) ≡ max (high eq start log) (size eq (log ++ Put k v ∷ []))
  high-put start k v = high-more eq start log (Put k v) refl refl

  pub high-remove : (start : ℕ) (k : K) → high eq start (log ++ Remove k ∷ []) ≡ high eq start log
  high-remove start k = let s = size-remove k in keeps_high start (Remove k) refl refl (omega arith)

  pub high-refresh : (start : ℕ) (k : K) → high eq start (log ++ Refresh k ∷ []) ≡ high eq start log
  high-refresh start k = let s = size-refresh k in keeps_high start (Refresh k) refl refl (omega arith)

  pub high-write : (start : ℕ) (k : K) (v : V) → high eq start (log ++ Write k v ∷ []) ≡ high eq start log
  high-write start k v = let s = size-write k v in keeps_high start (Write k v) refl refl (omega arith)

  pub high-remove_all : (start : ℕ) → high eq start (log ++ RemoveAll ∷ []) ≡ high eq start log
  high-remove_all start = let s = size-remove_all in keeps_high start RemoveAll refl refl (omega arith)

  pub high-set_mode : (start : ℕ) (m : Mode) → high eq start (log ++ SetMode m ∷ []) ≡ high eq start log
  high-set_mode start m = let s = size-set_mode m in keeps_high start (SetMode m) refl refl (omega arith)
