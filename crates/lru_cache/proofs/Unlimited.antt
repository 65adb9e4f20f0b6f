-- The pairs of a cache are the last of the unlimited list, after each command.
use Rattle.std.proofs.Common.{◌≡◌, ◌⊎◌, inl, inr, ℕ, zero, suc, ◌+◌, ◌-◌, ◌≤◌, Bool, true, false, cond, not, List, [], ◌∷◌, ◌++◌, length}
use Rattle.std.proofs.Common.{take, drop, option_map, Option, Some, None, is_some, option_to_list, refl, sym, ap, ap₂, ◌∙◌, subst}
use Rattle.std.proofs.Common.{true≢false, arith, length-append, append_assoc}
use Rattle.std.proofs.lemmas.{List.take-append-drop, List.length-drop, List.drop_at, List.Elements.filter-append, Map.Keys.IsDistinct-tail}
use Rattle.std.proofs.lemmas.{Map.Keys.IsDistinct-push, Map.Made.IsDistinct-keys_filter}
use Rattle.std.specs.{Cmp.IsEquivalence, List.IsDistinct, Map.keys_of, Option.IsSome, Option.option_or}
use Rattle.linked_hash_map.specs.Pairs.{first, without_first, key_or, find, without, to_back, to_back_as_is}
use Rattle.linked_hash_map.proofs.Callers.Keys.{is_some-find, find-absent, without-absent, to_back-absent, distinct-nil, distinct-to_back}
use Rattle.linked_hash_map.proofs.Callers.Keys.{keys_of-append, length-to_back_present, length-without_present}
use Rattle.linked_hash_map.proofs.Callers.Lookups.{lookup_entry-append, find-same, find-without_here, drop-first}
use Rattle.linked_hash_map.proofs.Callers.{Moves.to_back_as_is-absent, Turns.find-without_first}
use Rattle.lru_cache.specs.Cache.{Cache, newest, inserted, IsValidCache}
use Rattle.lru_cache.specs.declared.replay.Command.TheVariants.{Insert, Get, Remove, RemoveLru, SetCapacity, Clear}
use Rattle.lru_cache.specs.declared.replay.Answer.TheVariants.{New, Found, Missing}
use Rattle.lru_cache.specs.declared.replay.{Command.Command, Answer.Answer}
use Rattle.lru_cache.specs.Runs.{old_or, pair_or_empty, limit_after, answer_to, pairs_after, Steps, Runs}
use Rattle.lru_cache.specs.Unlimited.{removed_after, removed_after_all, unlimited_after, unlimited, HasNewest}

module _ {X : Type 0} where
  newest-append : (xs ys : List X) → newest (length ys) (xs ++ ys) ≡ ys
  newest-append xs ys = let both = length-append xs ys in drop_at xs ys _ (omega arith)

  newest-all : (n : ℕ) (xs : List X) → length xs ≤ n → newest n xs ≡ xs
  newest-all n xs few = let none : length xs - n ≡ 0 = omega arith in ap (λ m. drop m xs) none

  length-newest : (n : ℕ) (xs : List X) → length (newest n xs) ≡ length xs - (length xs - n)
  length-newest n xs = length-drop (length xs - n) xs

-- what neither of two finds
neither : {X : Type 0} (o p : Option X) → option_or o p ≡ None → p ≡ None
neither None p e = e
neither (Some x) p e = absurd cc

module _ {K V : Type 0} (eq : K → K → Bool) where
  -- the list of all pairs has those that went before, and then those that are held
  record Tracks (all held : List (K × V)) (limit : ℕ) (removed : Bool) : Type 0 where
    gone : List (K × V)
    split : all ≡ gone ++ held
    distinct : IsDistinct eq (keys_of all)
    within : length held ≤ limit
    whole : removed ≡ false → (gone ≡ []) ⊎ (limit ≤ length held)

  distinct-end : (before after : List (K × V)) → IsDistinct eq (keys_of (before ++ after)) → IsDistinct eq (keys_of after)
  distinct-end [] after distinct = distinct
  distinct-end (pair ∷ before) after distinct = distinct-end before after (IsDistinct-tail eq pair.0 (keys_of (before ++ after)) distinct)

  as-to_back : (pairs : List (K × V)) (k : K) (pair : K × V) → find eq pairs k ≡ Some pair
      → to_back_as_is eq pairs k ≡ to_back eq pairs k pair.1
  as-to_back pairs k pair found = ap (λ o. without eq pairs k ++ option_to_list o) found
      ∙ sym (ap (λ o. without eq pairs k ++ (key_or k o, pair.1) ∷ []) found)

  -- in a list of two parts, what a call does by a key that the first part lacks
  module _ (before after : List (K × V)) (k : K) (none : find eq before k ≡ None) where
    find-later : find eq (before ++ after) k ≡ find eq after k
    find-later = lookup_entry-append (eq k) before after ∙ ap (λ o. option_or o (find eq after k)) none

    without-later : without eq (before ++ after) k ≡ before ++ without eq after k
    without-later = filter-append (λ (pair : K × V). not (eq k pair.0)) before after
        ∙ ap (λ ps. ps ++ without eq after k) (without-absent eq before k none)

    moved-later : (moved : Option (K × V) → List (K × V)) → without eq (before ++ after) k ++ moved (find eq (before ++ after) k)
        ≡ before ++ (without eq after k ++ moved (find eq after k))
    moved-later moved = ap₂ (λ ps o. ps ++ moved o) without-later find-later
        ∙ append_assoc before (without eq after k) (moved (find eq after k))

  -- the last of the second of two parts are held
  Tracks-newest : {all held : List (K × V)} (limit : ℕ) (removed : Bool) (before after : List (K × V))
      → IsDistinct eq (keys_of all) → all ≡ before ++ after → held ≡ newest limit after
      → (removed ≡ false → (before ≡ []) ⊎ (limit ≤ length after)) → Tracks all held limit removed
  Tracks-newest {all} {held} limit removed before after distinct parts last whole =
      let count = length after - limit in
      let as_many = ap length last ∙ length-newest limit after in
      record {
        gone = before ++ take count after;
        split = parts ∙ ap (λ ps. before ++ ps) (sym (take-append-drop count after))
            ∙ sym (append_assoc before (take count after) (drop count after))
            ∙ ap (λ ps. (before ++ take count after) ++ ps) (sym last);
        distinct = distinct;
        within = omega arith;
        whole = λ kept. by_count as_many (whole kept) count refl;
      }
    where
      by_count : length held ≡ length after - (length after - limit) → (before ≡ []) ⊎ (limit ≤ length after) → (n : ℕ)
          → length after - limit ≡ n → (before ++ take n after ≡ []) ⊎ (limit ≤ length held)
      by_count as_many (inl none) zero few = inl (ap (λ ps. ps ++ []) none)
      by_count as_many (inr enough) zero few = inr (omega arith)
      by_count as_many part (suc n) more = inr (omega arith)

module _ {K V : Type 0} {eq : K → K → Bool} (laws : IsEquivalence eq) where
  -- a key that is held is not among the pairs that went
  absent-before : (before after : List (K × V)) (k : K) → IsDistinct eq (keys_of (before ++ after)) → IsSome (find eq after k)
      → find eq before k ≡ None
  absent-before [] after k distinct there = refl
  absent-before (pair ∷ before) after k distinct there =
      by_test (absent-before before after k (IsDistinct-tail eq pair.0 (keys_of (before ++ after)) distinct) there) (eq k pair.0) refl
    where
      by_test : find eq before k ≡ None → (b : Bool) → eq k pair.0 ≡ b → cond b (Some pair) (find eq before k) ≡ None
      by_test rest true same =
          let none = find-same laws (before ++ after) k pair.0 same
          ∙ find-without_first laws (pair ∷ (before ++ after)) pair distinct refl in
          let later = neither (find eq before k) (find eq after k) (sym (lookup_entry-append (eq k) before after) ∙ none) in
          absurd (true≢false (sym there ∙ ap is_some later))
      by_test rest false apart = rest

  module _ {all held : List (K × V)} {limit : ℕ} {removed : Bool} (t : Tracks eq all held limit removed) where
    distinct-held : IsDistinct eq (keys_of held)
    distinct-held = distinct-end eq t.gone held (subst (λ ps. IsDistinct eq (keys_of ps)) t.split t.distinct)

    absent-gone : (k : K) → IsSome (find eq held k) → find eq t.gone k ≡ None
    absent-gone k there = absent-before t.gone held k (subst (λ ps. IsDistinct eq (keys_of ps)) t.split t.distinct) there

    Tracks-new : (k : K) (v : V) → find eq held k ≡ None
        → Tracks eq (without eq all k ++ (k, v) ∷ []) (inserted eq limit held k v) limit removed
    Tracks-new k v none =
        let longer = length-append held ((k, v) ∷ []) in
        Tracks-newest eq limit removed (without eq t.gone k) (held ++ (k, v) ∷ [])
        (subst (IsDistinct eq) (sym (keys_of-append (without eq all k) k v))
        (IsDistinct-push laws (keys_of (without eq all k)) k
        (IsDistinct-keys_filter eq (λ pair. not (eq k pair.0)) all t.distinct)
        (sym (is_some-find eq (without eq all k) k) ∙ ap is_some (find-without_here laws all k))))
        (ap (λ ps. ps ++ (k, v) ∷ []) (ap (λ ps. without eq ps k) t.split
        ∙ filter-append (λ (pair : K × V). not (eq k pair.0)) t.gone held
        ∙ ap (λ ps. without eq t.gone k ++ ps) (without-absent eq held k none))
        ∙ append_assoc (without eq t.gone k) held ((k, v) ∷ []))
        (ap (λ ps. newest limit ps) (to_back-absent eq held k v none))
        (λ kept. by_whole longer (t.whole kept))
      where
        by_whole : length (held ++ (k, v) ∷ []) ≡ length held + 1 → (t.gone ≡ []) ⊎ (limit ≤ length held)
            → (without eq t.gone k ≡ []) ⊎ (limit ≤ length (held ++ (k, v) ∷ []))
        by_whole longer (inl nothing) = inl (ap (λ ps. without eq ps k) nothing)
        by_whole longer (inr enough) = inr (omega arith)

    module _ (k : K) (there : IsSome (find eq held k)) where
      Tracks-old : (v : V) → Tracks eq (to_back eq all k v) (inserted eq limit held k v) limit removed
      Tracks-old v =
          let as_many = length-to_back_present laws held k v distinct-held there in
          Tracks-newest eq limit removed t.gone (to_back eq held k v) (distinct-to_back laws all k v t.distinct)
          (ap (λ ps. to_back eq ps k v) t.split
          ∙ moved-later eq t.gone held k (absent-gone k there) (λ o. (key_or k o, v) ∷ []))
          refl
          (λ kept. subst (λ n. (t.gone ≡ []) ⊎ (limit ≤ n)) (sym as_many) (t.whole kept))

      Tracks-found : Tracks eq (to_back_as_is eq all k) (to_back_as_is eq held k) limit removed
      Tracks-found = by_pair (find eq held k) refl
        where
          by_pair : (o : Option (K × V)) → find eq held k ≡ o
              → Tracks eq (to_back_as_is eq all k) (to_back_as_is eq held k) limit removed
          by_pair None none = absurd (true≢false (sym there ∙ ap is_some none))
          by_pair (Some pair) found =
              let in_all = ap (λ ps. find eq ps k) t.split ∙ find-later eq t.gone held k (absent-gone k there) ∙ found in
              let as_many = ap length (as-to_back eq held k pair found)
              ∙ length-to_back_present laws held k pair.1 distinct-held there in
              record {
                gone = t.gone;
                split = ap (λ ps. to_back_as_is eq ps k) t.split ∙ moved-later eq t.gone held k (absent-gone k there) option_to_list;
                distinct = subst (λ ps. IsDistinct eq (keys_of ps)) (sym (as-to_back eq all k pair in_all))
                    (distinct-to_back laws all k pair.1 t.distinct);
                within = subst (λ n. n ≤ limit) (sym as_many) t.within;
                whole = λ kept. subst (λ n. (t.gone ≡ []) ⊎ (limit ≤ n)) (sym as_many) (t.whole kept);
              }

      Tracks-removed : Tracks eq (without eq all k) (without eq held k) limit true
      Tracks-removed =
          let fewer = length-without_present laws held k distinct-held there in
          let within = t.within in
          record {
            gone = t.gone;
            split = ap (λ ps. without eq ps k) t.split ∙ without-later eq t.gone held k (absent-gone k there);
            distinct = IsDistinct-keys_filter eq (λ pair. not (eq k pair.0)) all t.distinct;
            within = omega arith;
            whole = λ kept. absurd (true≢false kept);
          }

    Tracks-kept : (n : ℕ) → Tracks eq (newest (length (newest n held)) all) (newest n held) n false
    Tracks-kept n =
        let count = length held - n in
        let parts = t.split ∙ ap (λ ps. t.gone ++ ps) (sym (take-append-drop count held))
        ∙ sym (append_assoc t.gone (take count held) (drop count held)) in
        let kept = ap (λ ps. newest (length (newest n held)) ps) parts ∙ newest-append (t.gone ++ take count held) (newest n held) in
        let as_many = length-newest n held in
        record {
          gone = [];
          split = kept;
          distinct = subst (λ ps. IsDistinct eq (keys_of ps)) (sym kept) (distinct-end eq (t.gone ++ take count held) (newest n held)
              (subst (λ ps. IsDistinct eq (keys_of ps)) parts t.distinct));
          within = omega arith;
          whole = λ _. inl refl;
        }

  Tracks-cleared : (limit : ℕ) → Tracks {V = V} eq [] [] limit false
  Tracks-cleared limit = record { gone = []; split = refl; distinct = distinct-nil eq; within = omega arith; whole = λ _. inl refl }

  Tracks-popped : {all : List (K × V)} {limit : ℕ} {removed : Bool} (held : List (K × V)) → Tracks eq all held limit removed
      → Tracks eq (unlimited_after eq all RemoveLru (pair_or_empty (first held))) (without_first held) limit
      (removed_after removed RemoveLru (pair_or_empty (first held)))
  Tracks-popped [] t = t
  Tracks-popped {all} {limit} (pair ∷ held) t =
      let there = ap (λ b. is_some (cond b (Some pair) (find eq held pair.0))) (laws.refl pair.0) in
      subst (λ ps. Tracks eq (without eq all pair.0) ps limit true)
      (sym (drop-first laws (pair ∷ held) pair (distinct-held t) refl))
      (Tracks-removed t pair.0 there)

  Tracks-after : {all held : List (K × V)} {limit : ℕ} {removed : Bool} → Tracks eq all held limit removed → (command : Command K V)
      → Tracks eq (unlimited_after eq all command (answer_to eq held command)) (pairs_after eq limit held command)
      (limit_after limit command) (removed_after removed command (answer_to eq held command))
  Tracks-after {all} {held} {limit} {removed} t (Insert k v) = by_pair (find eq held k) refl
    where
      by_pair : (o : Option (K × V)) → find eq held k ≡ o
          → Tracks eq (unlimited_after eq all (Insert k v) (old_or New (option_map (λ pair. pair.1) o))) (inserted eq limit held k v) limit
          (removed_after removed (Insert k v) (old_or New (option_map (λ pair. pair.1) o)))
      by_pair None none = Tracks-new t k v none
      by_pair (Some pair) found = Tracks-old t k (ap is_some found) v
  Tracks-after {all} {held} {limit} {removed} t (Get k) = by_found (is_some (find eq held k)) refl
    where
      by_found : (b : Bool) → is_some (find eq held k) ≡ b
          → Tracks eq (unlimited_after eq all (Get k) (cond b Found Missing)) (to_back_as_is eq held k) limit
          (removed_after {V = V} removed (Get k) (cond b Found Missing))
      by_found true there = Tracks-found t k there
      by_found false absent = subst (λ ps. Tracks eq all ps limit removed)
          (sym (to_back_as_is-absent eq held k (find-absent eq held k absent))) t
  Tracks-after {all} {held} {limit} {removed} t (Remove k) = by_pair (find eq held k) refl
    where
      by_pair : (o : Option (K × V)) → find eq held k ≡ o
          → Tracks eq (unlimited_after eq all (Remove k) (old_or Missing (option_map (λ pair. pair.1) o))) (without eq held k) limit
          (removed_after removed (Remove k) (old_or Missing (option_map (λ pair. pair.1) o)))
      by_pair None none = subst (λ ps. Tracks eq all ps limit removed) (sym (without-absent eq held k none)) t
      by_pair (Some pair) found = Tracks-removed t k (ap is_some found)
  Tracks-after {held = held} t RemoveLru = Tracks-popped held t
  Tracks-after t (SetCapacity n) = Tracks-kept t n
  Tracks-after {limit = limit} t Clear = Tracks-cleared limit

  module _ {S : Type 0} where
    Tracks-step : {all : List (K × V)} {removed : Bool} {c d : Cache K V S} {command : Command K V} {answer : Answer K V}
        → Tracks eq all c.pairs c.limit removed → Steps eq c command answer d
        → Tracks eq (unlimited_after eq all command answer) d.pairs d.limit (removed_after removed command answer)
    Tracks-step {command = command} t (inl ran) = rw (ran.answered, ran.pairs, ran.limit) (Tracks-after t command)
    Tracks-step t (inr refused) = rw (refused.insertion, refused.refused, refused.unchanged) t

    Tracks-run : {all : List (K × V)} {removed : Bool} (c d : Cache K V S) (commands : List (Command K V)) (answers : List (Answer K V))
        → Tracks eq all c.pairs c.limit removed → Runs eq c commands answers d
        → Tracks eq (unlimited eq all commands answers) d.pairs d.limit (removed_after_all removed commands answers)
    Tracks-run {all} {removed} c d [] [] t run = subst (λ x. Tracks eq all x.pairs x.limit removed) (sym run) t
    Tracks-run c d [] (answer ∷ answers) t run = absurd run
    Tracks-run c d (command ∷ commands) [] t run = absurd run
    Tracks-run {all} {removed} c d (command ∷ commands) (answer ∷ answers) t run =
        Tracks-run {all = unlimited_after eq all command answer} {removed = removed_after removed command answer}
        run.0 d commands answers (Tracks-step t run.1) run.2

    pub HasNewest-run : (c d : Cache K V S) (commands : List (Command K V)) (answers : List (Answer K V)) → IsValidCache eq c
        → Runs eq c commands answers d → HasNewest eq c commands answers d
    HasNewest-run c d commands answers valid run =
        let t = Tracks-run {all = c.pairs} {removed = false} c d commands answers
        (record { gone = []; split = refl; distinct = valid.distinct; within = valid.within; whole = λ _. inl refl }) run in
        let last = sym (ap (λ ps. newest (length d.pairs) ps) t.split ∙ newest-append t.gone d.pairs) in
        record { last = last; limited = λ kept. by_whole t last (t.whole kept) }
      where
        by_whole : {all : List (K × V)} {removed : Bool} (t : Tracks eq all d.pairs d.limit removed)
            → d.pairs ≡ newest (length d.pairs) all → (t.gone ≡ []) ⊎ (d.limit ≤ length d.pairs) → d.pairs ≡ newest d.limit all
        by_whole {all} t last (inl nothing) =
            let everything = t.split ∙ ap (λ ps. ps ++ d.pairs) nothing in
            sym (ap (λ ps. newest d.limit ps) everything ∙ newest-all d.limit d.pairs t.within)
        by_whole {all} t last (inr enough) =
            let within = t.within in
            let as_many : length d.pairs ≡ d.limit = omega arith in
            last ∙ ap (λ n. newest n all) as_many
