-- How the pairs that a log defines change with one more event: single calls on a list of pairs.
use Rattle.std.proofs.Common.{◌≡◌, ℕ, Bool, true, false, cond, not, ◌&&◌, ◌||◌, List, [], ◌∷◌, ◌++◌, arith, map, Option, Some, None}
use Rattle.std.proofs.Common.{is_some, option_map, filter, filter_map, refl, sym, ap, ◌∙◌, true≢false, append-nil}
use Rattle.std.proofs.lemmas.List.Elements.{filter_map-append}
use Rattle.std.specs.{List.list_any, List.cons_option, Option.option_or, Option.option_zip, Map.lookup_entry, Cmp.IsEquivalence}
use Rattle.linked_hash_map.specs.declared.map.{Mode.Mode, Mode.TheVariants.Touch, Mode.TheVariants.Keep}
use Rattle.linked_hash_map.specs.Log.{Event, Put, Write, Refresh, Remove, RemoveAll, Need, Fit, SetMode, Log, moves, mode, touched, put_key}
use Rattle.linked_hash_map.specs.Log.{ends, written, live, stored, value, pair_of, stands, standing, pairs}
use Rattle.linked_hash_map.specs.Pairs.{key_or, find, without, to_back, set_value, put}
use Rattle.linked_hash_map.proofs.lists.Elements.{option_or_none}
use Rattle.linked_hash_map.proofs.pairs.Calls.{filter-none, to_back-absent, put-absent, set_or_push-present}
use Rattle.linked_hash_map.proofs.log.Standing.{live-snoc, stored-snoc, value-snoc, standing-snoc, keeps}
use Rattle.linked_hash_map.proofs.log.LiveKeys.{stored-live, pair_of-live, stored-same, pair_of-same, same_test, any-standing, none_is}

-- a lookup in what g gives of keys, if g tells the same of one key whatever its name
module _ {K V : Type 0} (same : K → Bool) (g : K → Option (K × V)) (mine : Option (K × V))
    (one : (q : K) → same q ≡ true → g q ≡ mine)
    (keyed : (q : K) (y : K × V) → g q ≡ Some y → same y.0 ≡ same q) where
  lookup_step : (q : K) (ks : List K) (o : Option (K × V)) (b : Bool) → g q ≡ o → same q ≡ b
      → lookup_entry same (filter_map g ks) ≡ cond (list_any same ks) mine None
      → lookup_entry same (cons_option o (filter_map g ks)) ≡ cond (b || list_any same ks) mine None
  lookup_step q ks o b e h i = grind arith

  lookup-filter_map : (ks : List K) → lookup_entry same (filter_map g ks) ≡ cond (list_any same ks) mine None
  lookup-filter_map [] = refl
  lookup-filter_map (q ∷ ks) = lookup_step q ks (g q) (same q) refl refl (lookup-filter_map ks)

-- a filter of keys and what f gives of them, against what g gives, filtered
module _ {K Y : Type 0} (f g : K → Option Y) (p : K → Bool) (r : Y → Bool)
    (alike : (q : K) → p q ≡ true → f q ≡ g q)
    (passes : (q : K) (y : Y) → g q ≡ Some y → r y ≡ p q) where
  kept_step : (q : K) (ks : List K) (b : Bool) (o : Option Y) → p q ≡ b → g q ≡ o → filter_map f (filter p ks) ≡ filter r (filter_map g ks)
      → filter_map f (cond b (q ∷ filter p ks) (filter p ks)) ≡ filter r (cons_option o (filter_map g ks))
  kept_step q ks b o h e i = grind arith

  filter_map-filter : (ks : List K) → filter_map f (filter p ks) ≡ filter r (filter_map g ks)
  filter_map-filter [] = refl
  filter_map-filter (q ∷ ks) = kept_step q ks (p q) (g q) refl refl (filter_map-filter ks)

filter_true : {X : Type 0} (xs : List X) → filter (λ _. true) xs ≡ xs
filter_true [] = refl
filter_true (x ∷ xs) = ap (λ ys. x ∷ ys) (filter_true xs)

filter_false : {X : Type 0} (xs : List X) → filter (λ _. false) xs ≡ []
filter_false [] = refl
filter_false (x ∷ xs) = filter_false xs

moved_only : (b m : Bool) → (b ≡ true → m ≡ true) → not (b && m) ≡ not b
moved_only b m f = grind arith

stays : (b m : Bool) → (b ≡ true → m ≡ false) → not (b && m) ≡ true
stays b m f = grind arith

-- a Put that moves nothing names a live key
moves-live : (m : Mode) (l : Bool) → moves m l ≡ false → l ≡ true
moves-live m l h = grind arith

stored_stays : {K : Type 0} (k : K) (s : Option K) (b : Bool) → (b ≡ true → is_some s ≡ true) → option_or s (cond b (Some k) None) ≡ s
stored_stays k s b f = grind arith

not_not : (b : Bool) → not b ≡ true → b ≡ false
not_not b h = grind arith

pair_at : {K V : Type 0} (k : K) (s : Option K) (w : Option V) (v : V) → is_some s ≡ is_some (option_zip s w)
    → option_zip (option_or s (Some k)) (Some v) ≡ Some (key_or k (option_zip s w), v)
pair_at k s w v h = grind arith

module _ {K V : Type 0} {eq : K → K → Bool} (laws : IsEquivalence eq) where
  -- the pair that a log has of k
  pub find-pairs : (log : Log K V) (k : K) → find eq (pairs eq log) k ≡ pair_of (eq k) log
  unfolding pairs
  find-pairs log k = lookup-filter_map (eq k) (λ q. pair_of (eq q) log) (pair_of (eq k) log)
      (λ q h. ap (λ t. pair_of t log) (sym (same_test laws k q h))) (λ q y h.
      laws.symm k y.0 ∙ sym (laws.congr q y.0 k (pair_of-same (eq q) log y h)) ∙ laws.symm q k)
      (standing eq log) ∙ ap (λ b. cond b (pair_of (eq k) log) None) (any-standing laws k log)
      ∙ elim (live (eq k) log) as (λ b. live (eq k) log ≡ b
      → cond b (pair_of (eq k) log) None ≡ pair_of (eq k) log) [
        | true ↦ λ _. refl
        | false ↦ λ e.
            sym (none_is (pair_of (eq k) log) (pair_of-live (eq k) log ∙ e))
      ] refl

  -- the pairs of which a test of the keys holds
  kept_pairs : (log : Log K V) (e : Event K V) (r : K × V → Bool)
      → ((q : K) → keeps eq log e q ≡ true → pair_of (eq q) (log ++ e ∷ []) ≡ pair_of (eq q) log)
      → ((q : K) (y : K × V) → eq q y.0 ≡ true → r y ≡ keeps eq log e q)
      → pairs eq (log ++ e ∷ [])
      ≡ filter r (pairs eq log) ++ filter_map (λ q. pair_of (eq q) (log ++ e ∷ []))
      (stands {V = V} eq (λ k. live (eq k) (log ++ e ∷ [])) [] (touched eq (log, e)))
  unfolding pairs
  kept_pairs log e r alike passes = ap (filter_map (λ q. pair_of (eq q) (log ++ e ∷ [])))
      (standing-snoc eq log e) ∙ filter_map-append (λ q. pair_of (eq q) (log ++ e ∷ []))
      (filter (keeps eq log e) (standing eq log))
      (stands {V = V} eq (λ k. live (eq k) (log ++ e ∷ [])) [] (touched eq (log, e)))
      ∙ ap (λ es. es ++ filter_map (λ q. pair_of (eq q) (log ++ e ∷ []))
      (stands {V = V} eq (λ k. live (eq k) (log ++ e ∷ [])) [] (touched eq (log, e))))
      (filter_map-filter (λ q. pair_of (eq q) (log ++ e ∷ [])) (λ q. pair_of (eq q) log)
      (keeps eq log e) r alike (λ q y h. passes q y (pair_of-same (eq q) log y h))
      (standing eq log))

  -- what an event leaves of a pair whose key it does not name
  same_pair : (log : Log K V) (e : Event K V) (q : K) → ends (eq q) e ≡ false → put_key (eq q) e ≡ None → written (eq q) e ≡ None
      → pair_of (eq q) (log ++ e ∷ []) ≡ pair_of (eq q) log
  unfolding pair_of
  same_pair log e q a b c = rw (stored-snoc (eq q) log e, value-snoc (eq q) log e, a, b, c, option_or_none (stored (eq q) log)) refl

  other_key : (k q : K) (y : K × V) → eq q y.0 ≡ true → not (eq k y.0) ≡ not (eq q k)
  other_key k q y h = ap not (laws.symm k y.0 ∙ sym (laws.congr q y.0 k h))

  put_pair : (log : Log K V) (k : K) (v : V) → pair_of (eq k) (log ++ Put k v ∷ []) ≡ Some (key_or k (pair_of (eq k) log), v)
  unfolding pair_of
  put_pair log k v = grind (arith, stored-snoc, value-snoc, pair_at, stored-live, pair_of-live)

  -- whatever its name, a key that a Put moves is moved
  moves_same : (log : Log K V) (k q : K) (b : Bool) → moves (mode log) (live (eq k) log) ≡ b
      → eq q k ≡ true → moves (mode log) (live (eq q) log) ≡ b
  moves_same log k q b h same = ap (λ t. moves (mode log) (live t log)) (same_test laws q k same) ∙ h

  -- a Put that moves its key
  pairs-put_moved : (log : Log K V) (k : K) (v : V) → moves (mode log) (live (eq k) log) ≡ true
      → pairs eq (log ++ Put k v ∷ []) ≡ to_back eq (pairs eq log) k v
  pairs-put_moved log k v moved =
      kept_pairs log (Put k v) (λ y. not (eq k y.0))
      (λ q h. let no : eq q k ≡ false = not_not (eq q k) (sym (others q) ∙ h) in same_pair log (Put k v) q refl (rw no refl) (rw no refl))
      (λ q y h. other_key k q y h ∙ sym (others q))
      ∙ ap (λ es. without eq (pairs eq log) k ++ es) last_pair
    where
      others : (q : K) → keeps eq log (Put k v) q ≡ not (eq q k)
      others q = moved_only (eq q k) (moves (mode log) (live (eq q) log)) (moves_same log k q true moved)

      last_pair : filter_map (λ q. pair_of (eq q) (log ++ Put k v ∷ []))
          (stands {V = V} eq (λ q. live (eq q) (log ++ Put k v ∷ [])) []
          (touched eq (log, Put k v))) ≡ (key_or k (find eq (pairs eq log) k), v) ∷ []
      last_pair =
          rw (moved, live-snoc (eq k) log (Put k v), laws.refl k) (ap (λ o. cons_option o [])
          (put_pair log k v) ∙ ap (λ o. (key_or k o, v) ∷ []) (sym (find-pairs log k)))

  pub pairs-remove : (log : Log K V) (k : K) → pairs eq (log ++ Remove k ∷ []) ≡ without eq (pairs eq log) k
  pairs-remove log k =
      kept_pairs log (Remove k) (λ y. not (eq k y.0))
      (λ q h. let no : eq q k ≡ false = not_not (eq q k) h in
      same_pair log (Remove k) q no refl refl) (other_key k)
      ∙ append-nil (without eq (pairs eq log) k)

  pub pairs-remove_all : (log : Log K V) → pairs eq (log ++ RemoveAll ∷ []) ≡ []
  pairs-remove_all log =
      kept_pairs log RemoveAll (λ y. false) (λ q h. absurd (true≢false (sym h))) (λ q y h. refl)
      ∙ append-nil (filter (λ y. false) (pairs eq log)) ∙ filter_false (pairs eq log)

  pub pairs-need : (log : Log K V) (m : ℕ) → pairs eq (log ++ Need m ∷ []) ≡ pairs eq log
  pairs-need log m =
      kept_pairs log (Need m) (λ y. true) (λ q h. same_pair log (Need m) q refl refl refl) (λ q y h. refl)
      ∙ append-nil (filter (λ y. true) (pairs eq log)) ∙ filter_true (pairs eq log)

  pub pairs-fit : (log : Log K V) → pairs eq (log ++ Fit ∷ []) ≡ pairs eq log
  pairs-fit log =
      kept_pairs log Fit (λ y. true) (λ q h. same_pair log Fit q refl refl refl) (λ q y h. refl)
      ∙ append-nil (filter (λ y. true) (pairs eq log)) ∙ filter_true (pairs eq log)

  pub pairs-set_mode : (log : Log K V) (m : Mode) → pairs eq (log ++ SetMode m ∷ []) ≡ pairs eq log
  pairs-set_mode log m =
      kept_pairs log (SetMode m) (λ y. true) (λ q h. same_pair log (SetMode m) q refl refl refl) (λ q y h. refl)
      ∙ append-nil (filter (λ y. true) (pairs eq log)) ∙ filter_true (pairs eq log)

  refresh_pair : (log : Log K V) (k q : K) → pair_of (eq q) (log ++ Refresh k ∷ []) ≡ pair_of (eq q) log
  refresh_pair log k q = same_pair log (Refresh k) q refl refl refl

  refreshed_last : (log : Log K V) (k : K) (o : Option (K × V)) → pair_of (eq k) log ≡ o
      → filter_map (λ q. pair_of (eq q) (log ++ Refresh k ∷ []))
      (stands {V = V} eq (λ q. live (eq q) (log ++ Refresh k ∷ [])) [] (Some k)) ≡ cons_option o []
  refreshed_last log k None h =
      let not_live : live (eq k) log ≡ false = sym (pair_of-live (eq k) log) ∙ ap is_some h in
      rw (live-snoc (eq k) log (Refresh k), not_live) refl
  refreshed_last log k (Some pair) h =
      let is_live : live (eq k) log ≡ true = sym (pair_of-live (eq k) log) ∙ ap is_some h in
      rw (live-snoc (eq k) log (Refresh k), is_live) (ap (λ o. cons_option o []) (refresh_pair log k k ∙ h))

  refreshed : (log : Log K V) (k : K)
      → pairs eq (log ++ Refresh k ∷ []) ≡ without eq (pairs eq log) k ++ cons_option (pair_of (eq k) log) []
  refreshed log k =
      kept_pairs log (Refresh k) (λ y. not (eq k y.0)) (λ q _. refresh_pair log k q) (other_key k)
      ∙ ap (λ es. without eq (pairs eq log) k ++ es) (refreshed_last log k (pair_of (eq k) log) refl)

  -- a Refresh of a key that has a pair moves it to the back
  pub pairs-refresh : (log : Log K V) (k : K) (pair : K × V) → pair_of (eq k) log ≡ Some pair
      → pairs eq (log ++ Refresh k ∷ []) ≡ to_back eq (pairs eq log) k pair.1
  pairs-refresh log k pair h = grind (arith, refreshed, find-pairs)

  -- and a Refresh of one that has none changes nothing
  pub pairs-refresh_absent : (log : Log K V) (k : K) → pair_of (eq k) log ≡ None → pairs eq (log ++ Refresh k ∷ []) ≡ pairs eq log
  pairs-refresh_absent log k h =
      refreshed log k ∙ ap (λ o. without eq (pairs eq log) k ++ cons_option o []) h
      ∙ append-nil (without eq (pairs eq log) k) ∙ filter-none (eq k) (pairs eq log) (find-pairs log k ∙ h)

-- what a Write leaves of the pairs
module _ {K Y : Type 0} (f g : K → Option Y) (h : Y → Y) (alike : (q : K) → f q ≡ option_map h (g q)) where
  map_step : (o : Option Y) (ys zs : List Y) → ys ≡ map h zs → cons_option (option_map h o) ys ≡ map h (cons_option o zs)
  map_step o ys zs i = grind arith

  map-filter_map : (ks : List K) → filter_map f ks ≡ map h (filter_map g ks)
  map-filter_map [] = refl
  map-filter_map (q ∷ ks) = grind (arith, map_step, map-filter_map ks)

module _ {K V : Type 0} {eq : K → K → Bool} (laws : IsEquivalence eq) where
  write_zip : (k q : K) (v : V) (b : Bool) (s : Option K) (w : Option V) → eq q k ≡ b → is_some (option_zip s w) ≡ is_some s
      → ((t : K) → s ≡ Some t → eq q t ≡ true)
      → option_zip s (option_or (cond b (Some v) None) w) ≡ option_map (λ e. cond (eq k e.0) (e.0, v) e) (option_zip s w)
  write_zip k q v b None w h i f = refl
  write_zip k q v b (Some s) None h i f = absurd (true≢false (sym i))
  write_zip k q v true (Some s) (Some w) h i f = ap (λ b. Some (cond b (s, v) (s, w)))
      (sym (laws.symm k s ∙ sym (laws.congr q s k (f s refl)) ∙ h))
  write_zip k q v false (Some s) (Some w) h i f = ap (λ b. Some (cond b (s, v) (s, w)))
      (sym (laws.symm k s ∙ sym (laws.congr q s k (f s refl)) ∙ h))

  write_pair : (log : Log K V) (k : K) (v : V) (q : K)
      → pair_of (eq q) (log ++ Write k v ∷ []) ≡ option_map (λ e. cond (eq k e.0) (e.0, v) e) (pair_of (eq q) log)
  unfolding pair_of
  write_pair log k v q = rw (
    stored-snoc (eq q) log (Write k v),
    value-snoc (eq q) log (Write k v),
    option_or_none (stored (eq q) log),
  )
      (write_zip k q v (eq q k) (stored (eq q) log) (value (eq q) log) refl
      (pair_of-live (eq q) log ∙ sym (stored-live (eq q) log)) (stored-same (eq q) log))

  -- a Write of a key
  pub pairs-write : (log : Log K V) (k : K) (v : V) → pairs eq (log ++ Write k v ∷ []) ≡ set_value eq (pairs eq log) k v
  unfolding pairs
  pairs-write log k v = ap (filter_map (λ q. pair_of (eq q) (log ++ Write k v ∷ [])))
      (standing-snoc eq log (Write k v) ∙ append-nil (filter (λ _. true) (standing eq log))
      ∙ filter_true (standing eq log))
      ∙ map-filter_map (λ q. pair_of (eq q) (log ++ Write k v ∷ [])) (λ q. pair_of (eq q) log)
      (λ e. cond (eq k e.0) (e.0, v) e) (write_pair log k v) (standing eq log)

  stored_live : (log : Log K V) (k q : K) → live (eq k) log ≡ true → eq q k ≡ true → is_some (stored (eq q) log) ≡ true
  stored_live log k q is_live same = stored-live (eq q) log ∙ ap (λ t. live t log) (same_test laws q k same) ∙ is_live

  pair_in_place : (log : Log K V) (k : K) (v : V) (q : K) → live (eq k) log ≡ true
      → pair_of (eq q) (log ++ Put k v ∷ []) ≡ option_map (λ e. cond (eq k e.0) (e.0, v) e) (pair_of (eq q) log)
  unfolding pair_of
  pair_in_place log k v q is_live =
      rw (
        stored-snoc (eq q) log (Put k v),
        value-snoc (eq q) log (Put k v),
        stored_stays k (stored (eq q) log) (eq q k) (stored_live log k q is_live),
      )
      (write_zip k q v (eq q k) (stored (eq q) log) (value (eq q) log) refl
      (pair_of-live (eq q) log ∙ sym (stored-live (eq q) log)) (stored-same (eq q) log))

  -- a Put that moves nothing is a Write
  pairs-put_in_place : (log : Log K V) (k : K) (v : V) → moves (mode log) (live (eq k) log) ≡ false
      → pairs eq (log ++ Put k v ∷ []) ≡ set_value eq (pairs eq log) k v
  unfolding pairs
  pairs-put_in_place log k v unmoved = ap (filter_map (λ q. pair_of (eq q) (log ++ Put k v ∷ [])))
      same_standing ∙ map-filter_map (λ q. pair_of (eq q) (log ++ Put k v ∷ []))
      (λ q. pair_of (eq q) log) (λ e. cond (eq k e.0) (e.0, v) e)
      (λ q. pair_in_place log k v q (moves-live (mode log) (live (eq k) log) unmoved))
      (standing eq log)
    where
      nothing_new : stands {V = V} eq (λ q. live (eq q) (log ++ Put k v ∷ [])) [] (touched eq (log, Put k v)) ≡ []
      nothing_new = rw unmoved refl

      same_standing : standing eq (log ++ Put k v ∷ []) ≡ standing eq log
      same_standing = standing-snoc eq log (Put k v)
          ∙ ap (λ ks. filter (keeps eq log (Put k v)) (standing eq log) ++ ks) nothing_new
          ∙ append-nil (filter (keeps eq log (Put k v)) (standing eq log))
          ∙ ap (λ (t : K → Bool). filter t (standing eq log))
          (λ i q. stays (eq q k) (moves (mode log) (live (eq q) log))
          (moves_same laws log k q false unmoved) i) ∙ filter_true (standing eq log)

  -- a Put is an insertion in the mode of the log
  pub pairs-put : (log : Log K V) (k : K) (v : V) → pairs eq (log ++ Put k v ∷ []) ≡ put eq (mode log) (pairs eq log) k v
  pairs-put log k v = by_mode (mode log) (live (eq k) log) refl refl
    where
      there : is_some (find eq (pairs eq log) k) ≡ live (eq k) log
      there = ap is_some (find-pairs laws log k) ∙ pair_of-live (eq k) log

      by_mode : (m : Mode) (l : Bool) → mode log ≡ m → live (eq k) log ≡ l → pairs eq (log ++ Put k v ∷ []) ≡ put eq m (pairs eq log) k v
      by_mode Touch l is at_k = pairs-put_moved laws log k v (ap (λ m. moves m (live (eq k) log)) is)
      by_mode Keep true is at_k =
          pairs-put_in_place log k v (rw (is, at_k) refl) ∙ sym (set_or_push-present eq (pairs eq log) k v (there ∙ at_k))
      by_mode Keep false is at_k =
          let absent = none_is (find eq (pairs eq log) k) (there ∙ at_k) in
          pairs-put_moved laws log k v (rw (is, at_k) refl)
          ∙ to_back-absent eq (pairs eq log) k v absent ∙ sym (put-absent eq Keep (pairs eq log) k v absent)
