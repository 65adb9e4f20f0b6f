-- What the map's calls return and leave, on a log that defines the map.
use Rattle.std.proofs.Common.{◌≡◌, ℕ, zero, suc, ◌+◌, ◌-◌, ◌<◌, max, Bool, take, drop, remove, slice_get, subst, arith, drop_of_length-le}
use Rattle.std.proofs.Common.{List, [], ◌∷◌, ◌++◌, length, Option, Some, None, is_some, option_map, refl, sym, ap, ◌∙◌, true≢false}
use Rattle.std.{proofs.Common.append-nil, specs.Option.option_zip, specs.List.IsDistinct, specs.Map.keys_of, specs.Cmp.IsEquivalence}
use Rattle.linked_hash_map.specs.Log.{Log, Put, Write, Refresh, Remove, RemoveAll, Need, Fit, SetMode, mode, live, pair_of, pairs, size}
use Rattle.linked_hash_map.specs.{declared.map.Mode.Mode, Log.high, Log.IsFull, Log.Defines, Pairs.find, Pairs.value_at, Pairs.without}
use Rattle.linked_hash_map.specs.{Pairs.to_back, Pairs.set_value, Pairs.put, AllowedAnswers.IsAbsent, AllowedAnswers.HasValue}
use Rattle.linked_hash_map.proofs.log.Bridge.{find-pairs, pairs-put, pairs-write, pairs-refresh, pairs-remove, pairs-remove_all, pairs-need}
use Rattle.linked_hash_map.proofs.log.HighWater.{size-pairs, high-put, high-write, high-refresh, high-remove, high-remove_all, high-need}
use Rattle.linked_hash_map.proofs.log.{LiveKeys.pair_of-live, Bridge.pairs-fit, Bridge.pairs-set_mode, HighWater.high-fit}
use Rattle.linked_hash_map.proofs.log.{HighWater.high-set_mode, Standing.mode-snoc, Distinct.distinct-pairs}
use Rattle.linked_hash_map.proofs.pairs.{Calls.is_some-value_at, Indexes.without-own}

value_of_zip : {K V : Type 0} (s : Option K) (w : Option V) (v : V) → option_map (λ pair. pair.1) (option_zip s w) ≡ Some v → w ≡ Some v
value_of_zip s w v h = grind arith

pub remove-first : {X : Type 0} (xs : List X) → remove xs 0 ≡ drop 1 xs
remove-first xs = grind arith

pub remove-last : {X : Type 0} (xs : List X) → remove xs (length xs - 1) ≡ take (length xs - 1) xs
remove-last xs = grind (arith, drop_of_length-le, append-nil)

pub no_last_is_nil : {X : Type 0} (xs : List X) → None ≡ slice_get xs (length xs - 1) → xs ≡ []
no_last_is_nil [] h = refl
no_last_is_nil (x ∷ xs) h = absurd (some_last x xs (length (x ∷ xs) - 1) (omega arith) h)
  where
    some_last : {Y : Type 0} (y : Y) (ys : List Y) (i : ℕ) → i < length (y ∷ ys) → None ≡ slice_get (y ∷ ys) i → ⊥
    some_last y ys zero l n = true≢false (sym (ap is_some n))
    some_last y [] (suc i) l n = absurd (omega arith)
    some_last y (z ∷ ys) (suc i) l n = some_last z ys i (omega arith) n

-- what a log defines, by its pairs, its high-water mark and its mode
Defines-by : {K V : Type 0} {eq : K → K → Bool} {start : ℕ} {log : Log K V} {contents later : List (K × V)} {capacity capacity' : ℕ}
    {m m' : Mode} → pairs eq log ≡ contents → high eq start log ≡ capacity → mode log ≡ m → later ≡ contents → capacity' ≡ capacity
    → m' ≡ m → Defines eq start log later capacity' m'
Defines-by pairs-is high-is mode-is h c o = grind arith

module _ {K V : Type 0} {eq : K → K → Bool} (laws : IsEquivalence eq) {start : ℕ} {log : Log K V}
    {contents : List (K × V)} {capacity : ℕ} {m : Mode}
    (defines : Defines eq start log contents capacity m) where
  pub size-contents : size eq log ≡ length contents
  size-contents = size-pairs eq log ∙ ap length defines.same_pairs

  -- a map that has no more room is defined by a full log
  pub IsFull-contents : length contents ≡ capacity → IsFull eq start log
  IsFull-contents h = size-contents ∙ h ∙ sym defines.same_capacity

  -- the map as it was
  pub Defines-nothing : {later : List (K × V)} {capacity' : ℕ} {m' : Mode} → later ≡ contents
      → capacity' ≡ capacity → m' ≡ m → Defines eq start (log ++ []) later capacity' m'
  Defines-nothing = grind (arith, Defines-by, append-nil)

  module _ (k : K) where
    pub the_pair : find eq contents k ≡ pair_of (eq k) log
    the_pair = ap (λ es. find eq es k) (sym defines.same_pairs) ∙ find-pairs laws log k

    pub live-found : live (eq k) log ≡ is_some (find eq contents k)
    live-found = sym (pair_of-live (eq k) log) ∙ ap is_some (sym the_pair)

    -- a key without a pair is not live
    pub IsAbsent-found : find eq contents k ≡ None → IsAbsent eq log k
    IsAbsent-found h = live-found ∙ ap is_some h

    -- nor is one without a value
    pub IsAbsent-value : value_at eq contents k ≡ None → IsAbsent eq log k
    IsAbsent-value h = live-found ∙ sym (is_some-value_at eq contents k) ∙ ap is_some h

    -- a key with a value is live with that value
    pub HasValue-value : {v : V} → value_at eq contents k ≡ Some v → HasValue eq log k v
    unfolding pair_of
    HasValue-value h = grind (arith, live-found, is_some-value_at, value_of_zip, the_pair)

    -- the map after an insertion
    pub Defines-put : (v : V) {later : List (K × V)} {capacity' : ℕ} {m' : Mode} → later ≡ put eq m contents k v
        → capacity' ≡ max capacity (length later) → m' ≡ m → Defines eq start (log ++ Put k v ∷ []) later capacity' m'
    Defines-put v h m o = grind (arith, pairs-put, Defines-by, high-put, size-pairs, mode-snoc)

    -- the map after a removal
    pub Defines-remove : {later : List (K × V)} {capacity' : ℕ} {m' : Mode} → later ≡ without eq contents k → capacity' ≡ capacity → m' ≡ m
        → Defines eq start (log ++ Remove k ∷ []) later capacity' m'
    Defines-remove = grind (arith, Defines-by, pairs-remove, high-remove, mode-snoc)

    -- after a write
    pub Defines-write : (v : V) {later : List (K × V)} {capacity' : ℕ} {m' : Mode} → later ≡ set_value eq contents k v
        → capacity' ≡ capacity → m' ≡ m → Defines eq start (log ++ Write k v ∷ []) later capacity' m'
    Defines-write v = grind (arith, Defines-by, pairs-write, high-write, mode-snoc)

    -- after a refresh of a key with a value
    pub Defines-refresh : (v : V) {later : List (K × V)} {capacity' : ℕ} {m' : Mode} → Some v ≡ value_at eq contents k
        → later ≡ to_back eq contents k v → capacity' ≡ capacity → m' ≡ m → Defines eq start (log ++ Refresh k ∷ []) later capacity' m'
    Defines-refresh v found h m o = grind (arith, the_pair, Defines-by, pairs-refresh, high-refresh, mode-snoc)

  -- after all pairs are dropped
  pub Defines-remove_all : {later : List (K × V)} {capacity' : ℕ} {m' : Mode} → later ≡ []
      → capacity' ≡ capacity → m' ≡ m → Defines eq start (log ++ RemoveAll ∷ []) later capacity' m'
  Defines-remove_all = grind (arith, Defines-by, pairs-remove_all, high-remove_all, mode-snoc)

  -- after room is reserved
  pub Defines-reserve : (additional : ℕ) {later : List (K × V)} {capacity' : ℕ} {m' : Mode}
      → later ≡ contents → capacity' ≡ max capacity (length contents + additional) → m' ≡ m
      → Defines eq start (log ++ Need (size eq log + additional) ∷ []) later capacity' m'
  Defines-reserve additional = grind (arith, Defines-by, pairs-need, high-need, size-contents, mode-snoc)

  -- after the capacity is lowered to the number of pairs
  pub Defines-shrink : {later : List (K × V)} {capacity' : ℕ} {m' : Mode} → later ≡ contents
      → capacity' ≡ length contents → m' ≡ m → Defines eq start (log ++ Fit ∷ []) later capacity' m'
  Defines-shrink = grind (arith, Defines-by, pairs-fit, high-fit, size-contents, mode-snoc)

  -- after a mode is set
  pub Defines-set_mode : (set : Mode) {later : List (K × V)} {capacity' : ℕ} {m' : Mode} → later ≡ contents → capacity' ≡ capacity
      → m' ≡ set → Defines eq start (log ++ SetMode set ∷ []) later capacity' m'
  Defines-set_mode set = grind (arith, Defines-by, pairs-set_mode, high-set_mode, mode-snoc)

  -- the keys that a log defines are different
  pub distinct-contents : IsDistinct eq (keys_of contents)
  distinct-contents = subst (λ es. IsDistinct eq (keys_of es)) defines.same_pairs (distinct-pairs laws log)

  -- after the pair at an index is taken out
  Defines-remove_at : (i : ℕ) (pair : K × V) {later : List (K × V)} {capacity' : ℕ} {m' : Mode} → slice_get contents i ≡ Some pair
      → later ≡ remove contents i → capacity' ≡ capacity → m' ≡ m → Defines eq start (log ++ Remove pair.0 ∷ []) later capacity' m'
  Defines-remove_at i pair there h m o = Defines-remove pair.0 (h ∙ sym (without-own laws contents distinct-contents i pair there)) m o

  pub Defines-pop_front : (k : K) (v : V) {later : List (K × V)} {capacity' : ℕ} {m' : Mode} → Some (k, v) ≡ slice_get contents 0
      → later ≡ drop 1 contents → capacity' ≡ capacity → m' ≡ m → Defines eq start (log ++ Remove k ∷ []) later capacity' m'
  Defines-pop_front k v there h m o = Defines-remove_at 0 (k, v) (sym there) h m o

  pub Defines-pop_back : (k : K) (v : V) {later : List (K × V)} {capacity' : ℕ} {m' : Mode}
      → Some (k, v) ≡ slice_get contents (length contents - 1) → later ≡ take (length contents - 1) contents → capacity' ≡ capacity → m' ≡ m
      → Defines eq start (log ++ Remove k ∷ []) later capacity' m'
  Defines-pop_back k v there h m o = Defines-remove_at (length contents - 1) (k, v) (sym there) (h ∙ sym (remove-last contents)) m o

  -- the pair at an index of the map is that of the log
  pub slice_get-contents : (i : ℕ) {o : Option (K × V)} → o ≡ slice_get contents i → slice_get (pairs eq log) i ≡ o
  slice_get-contents i h = ap (λ es. slice_get es i) defines.same_pairs ∙ sym h

  pub slice_get_last-contents : {o : Option (K × V)} → o ≡ slice_get contents (length contents - 1)
      → slice_get (pairs eq log) (length (pairs eq log) - 1) ≡ o
  slice_get_last-contents h = ap (λ es. slice_get es (length es - 1)) defines.same_pairs ∙ sym h

  pub pairs-no_last : None ≡ slice_get contents (length contents - 1) → pairs eq log ≡ []
  pairs-no_last h = defines.same_pairs ∙ no_last_is_nil contents h
