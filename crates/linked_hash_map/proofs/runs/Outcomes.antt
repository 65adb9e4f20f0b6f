-- What an answer on a log that defines a map says of the map, and what the log after it defines, in
-- the words of single calls.
use Rattle.std.proofs.Common.{◌≡◌, ℕ, ◌+◌, ◌-◌, ◌<◌, ◌≤◌, max, Bool, true, false, cond, nat_lt, List, [], ◌∷◌, ◌++◌, length, take, drop}
use Rattle.std.proofs.Common.{slice_get, append_assoc, Option, Some, None, is_some, option_map, refl, sym, ap, ap₂, ◌∙◌, subst, true≢false}
use Rattle.std.proofs.{Common.arith, lemmas.Bool.ltb-true, lemmas.Bool.lt-ltb}
use Rattle.std.specs.{Option.IsSome, Option.option_zip, Cmp.IsEquivalence}
use Rattle.linked_hash_map.specs.Log.{Log, Put, put_each, stored, value, pair_of, pairs, Defines}
use Rattle.linked_hash_map.specs.Pairs.{find, value_at, to_back, put}
use Rattle.linked_hash_map.specs.AllowedAnswers.{log_after, IsLive, IsAbsent, HasValue, Answers}
use Rattle.linked_hash_map.specs.Commands.{is_refusal, old_or, pair_or_empty, to_back_if_some, answer_to, pairs_after, capacity_after}
use Rattle.linked_hash_map.specs.declared.replay.Command.TheVariants.{Insert, Write, Refresh, Remove, PopFront, PopBack, Clear, Drain}
use Rattle.linked_hash_map.specs.declared.replay.Command.TheVariants.{Extend, OrInsert, EntryInsert, EntryRemove, Reserve, Shrink, SetMode}
use Rattle.linked_hash_map.specs.declared.replay.Answer.TheVariants.{New, Old, Found, Missing, Absent, Refused, Pair, Empty, Pairs, Stopped}
use Rattle.linked_hash_map.specs.declared.replay.Answer.TheVariants.{Done, TooLarge, NoRoom}
use Rattle.linked_hash_map.specs.{declared.map.TheConstants.LIMIT, declared.map.Mode.Mode, Inserts.insert_each, Commands.mode_after}
use Rattle.linked_hash_map.specs.{declared.replay.Command.Command, declared.replay.Answer.Answer}
use Rattle.linked_hash_map.proofs.log.{LiveKeys.none_is, LiveKeys.stored-live, HighWater.size-high}
use Rattle.linked_hash_map.proofs.pairs.Calls.{is_some-value_at, set_value-none, without-absent, to_back-absent, put-absent}
use Rattle.linked_hash_map.proofs.pairs.Inserts.{length-insert_each_least}
use Rattle.linked_hash_map.proofs.runs.Effects.{size-contents, the_pair, live-found, Defines-nothing, Defines-put, Defines-remove}
use Rattle.linked_hash_map.proofs.runs.Effects.{Defines-write, Defines-refresh, Defines-remove_all, Defines-reserve, Defines-shrink}
use Rattle.linked_hash_map.proofs.runs.Effects.{Defines-pop_front, Defines-pop_back, Defines-set_mode, distinct-contents}

value_of_zip : {K V : Type 0} (s : Option K) (w : Option V) (v : V) → is_some s ≡ true → w ≡ Some v
    → option_map (λ pair. pair.1) (option_zip s w) ≡ Some v
value_of_zip s w v there h = grind arith

module _ {K V : Type 0} {eq : K → K → Bool} (laws : IsEquivalence eq) {start : ℕ} {log : Log K V}
    {contents : List (K × V)} {capacity : ℕ} {mode : Mode}
    (defines : Defines eq start log contents capacity mode) where
  -- what a log defines fits its capacity, and its keys differ
  pub length-defined : length contents ≤ capacity
  length-defined = grind (arith, size-contents, size-high)

  -- what the log says of a key, the pairs say
  pub find-absent_in_log : (k : K) → IsAbsent eq log k → find eq contents k ≡ None
  find-absent_in_log k absent = none_is (find eq contents k) (sym (live-found laws defines k) ∙ absent)

  pub find-live : (k : K) → IsLive eq log k → IsSome (find eq contents k)
  find-live k is_live = sym (live-found laws defines k) ∙ is_live

  pub value_at-HasValue : (k : K) (v : V) → HasValue eq log k v → value_at eq contents k ≡ Some v
  unfolding pair_of
  value_at-HasValue k v has =
      ap (option_map (λ pair. pair.1)) (the_pair laws defines k)
      ∙ value_of_zip (stored (eq k) log) (value (eq k) log) v (stored-live (eq k) log ∙ has.0) has.1

  pub pairs-first : (o : Option (K × V)) → slice_get (pairs eq log) 0 ≡ o → slice_get contents 0 ≡ o
  pairs-first o h = ap (λ ps. slice_get ps 0) (sym defines.same_pairs) ∙ h

  pub pairs-last : (o : Option (K × V)) → slice_get (pairs eq log) (length (pairs eq log) - 1) ≡ o
      → slice_get contents (length contents - 1) ≡ o
  pairs-last o h = ap (λ ps. slice_get ps (length ps - 1)) (sym defines.same_pairs) ∙ h

-- after insertions one after another
pub Defines-put_each : {K V : Type 0} {eq : K → K → Bool} (laws : IsEquivalence eq)
    (items : List (K × V)) {start : ℕ} {log : Log K V} {contents : List (K × V)} {capacity : ℕ}
    {mode : Mode} → Defines eq start log contents capacity mode
    → Defines eq start (log ++ put_each items) (insert_each eq mode contents items)
    (max capacity (length (insert_each eq mode contents items))) mode
Defines-put_each laws [] defines =
    let within = length-defined laws defines in
    Defines-nothing laws defines refl (omega arith) refl
Defines-put_each {eq = eq} laws (item ∷ items) {start} {log} {contents} {capacity} {mode} defines =
    let one = put eq mode contents item.0 item.1 in let first = max capacity (length one) in
    let all = insert_each eq mode contents (item ∷ items) in let whole = length all in
    let went_in = Defines-put laws defines item.0 item.1 refl refl refl in
    let rest = Defines-put_each laws items went_in in
    let grows = length-insert_each_least laws mode one items (distinct-contents laws went_in) in
    let most : max first whole ≡ max capacity whole = omega arith in
    subst (λ later. Defines eq start later all (max capacity whole) mode) (append_assoc log (Put item.0 item.1 ∷ []) (put_each items))
    (subst (λ capacity. Defines eq start ((log ++ Put item.0 item.1 ∷ []) ++ put_each items) all capacity mode) most rest)

-- an answer, and what the log after it defines
abbrev pub Outcome : {K V : Type 0} → (K → K → Bool) → ℕ → Log K V → List (K × V) → ℕ → Mode → Command K V → Answer K V → Type 0
Outcome eq start log contents capacity mode command answer =
    (answer ≡ answer_to eq contents command)
    × Defines eq start (log_after eq log command answer) (pairs_after eq mode contents command)
    (capacity_after eq mode capacity contents command) (mode_after mode command)

pub not_above : (limit n : ℕ) → n ≤ limit → nat_lt limit n ≡ false
not_above limit n most = grind (arith, ltb-true)

module _ {K V : Type 0} {eq : K → K → Bool} (laws : IsEquivalence eq) {start : ℕ} {log : Log K V}
    {contents : List (K × V)} {capacity : ℕ} {mode : Mode}
    (defines : Defines eq start log contents capacity mode) where
  no_value : (k : K) → IsAbsent eq log k → value_at eq contents k ≡ None
  no_value k told = ap (option_map (λ pair. pair.1)) (find-absent_in_log laws defines k told)

  -- an answer that is no refusal, to each command
  pub insert_outcome : (k : K) (v : V) (answer : Answer K V) → Answers eq start log (Insert k v) answer → is_refusal answer ≡ false
      → Outcome eq start log contents capacity mode (Insert k v) answer
  insert_outcome k v New told given = (ap (old_or New) (sym (no_value k told)), Defines-put laws defines k v refl refl refl)
  insert_outcome k v (Old w) told given = (
    ap (old_or New)
        (sym (value_at-HasValue laws defines k w told)),
    Defines-put laws defines k v refl refl refl,
  )
  insert_outcome k v (Refused j w) told given = absurd (true≢false given)
  insert_outcome k v _ told given = absurd told

  pub or_insert_outcome : (k : K) (v : V) (answer : Answer K V) → Answers eq start log (OrInsert k v) answer → is_refusal answer ≡ false
      → Outcome eq start log contents capacity mode (OrInsert k v) answer
  or_insert_outcome k v New told given =
      let absent = find-absent_in_log laws defines k told in
      let none = ap is_some absent in (
        ap (λ b. cond b Found New) (sym none),
        Defines-put laws defines k v (ap (λ b. cond b contents (to_back eq contents k v)) none
            ∙ to_back-absent eq contents k v absent ∙ sym (put-absent eq mode contents k v absent)) refl
            refl,
      )
  or_insert_outcome k v Found told given =
      let there = find-live laws defines k told in
      let same : cond (is_some (find eq contents k)) contents (to_back eq contents k v) ≡ contents =
      ap (λ b. cond b contents (to_back eq contents k v)) there in
      let within = length-defined laws defines in
      let as_long : length (cond (is_some (find eq contents k)) contents (to_back eq contents k v)) ≡ length contents = ap length same in
      (ap (λ b. cond b Found New) (sym there), Defines-nothing laws defines same (omega arith) refl)
  or_insert_outcome k v (Refused j w) told given = absurd (true≢false given)
  or_insert_outcome k v _ told given = absurd told

  pub write_outcome : (k : K) (v : V) (answer : Answer K V) → Answers eq start log (Write k v) answer
      → Outcome eq start log contents capacity mode (Write k v) answer
  write_outcome k v (Old w) told = (
    ap (old_or (Absent k v)) (sym (value_at-HasValue laws defines k w told)),
    Defines-write laws defines k v refl refl refl,
  )
  write_outcome k v (Absent j w) told = (
    ap₂ (λ key value. Absent key value) told.1 told.2 ∙ ap (old_or (Absent k v)) (sym (no_value k told.0)),
    Defines-nothing laws defines (set_value-none eq contents k v (find-absent_in_log laws defines k told.0)) refl refl,
  )
  write_outcome k v _ told = absurd told

  pub remove_outcome : (k : K) (answer : Answer K V) → Answers eq start log (Remove k) answer
      → Outcome eq start log contents capacity mode (Remove k) answer
  remove_outcome k (Old w) told = (
    ap (old_or Missing)
        (sym (value_at-HasValue laws defines k w told)),
    Defines-remove laws defines k refl refl refl,
  )
  remove_outcome k Missing told = (
    ap (old_or Missing) (sym (no_value k told)),
    Defines-nothing laws defines
        (without-absent eq contents k (find-absent_in_log laws defines k told)) refl refl,
  )
  remove_outcome k _ told = absurd told

  pub refresh_outcome : (k : K) (answer : Answer K V) → Answers eq start log (Refresh k) answer
      → Outcome eq start log contents capacity mode (Refresh k) answer
  refresh_outcome k Found told = (
    ap (λ b. cond b Found Missing) (sym there),
    by_value (value_at eq contents k) refl (is_some-value_at eq contents k ∙ there),
  )
    where
      there : is_some (find eq contents k) ≡ true
      there = find-live laws defines k told

      by_value : (o : Option V) → value_at eq contents k ≡ o
          → is_some (value_at eq contents k) ≡ true
          → Defines eq start (log_after eq log (Refresh k) Found)
          (to_back_if_some eq contents k (value_at eq contents k)) capacity mode
      by_value None is some = absurd (true≢false (sym some ∙ ap is_some is))
      by_value (Some v) is some = Defines-refresh laws defines k v (sym is) (ap (to_back_if_some eq contents k) is) refl refl
  refresh_outcome k Missing told = (
    ap (λ b. cond b Found Missing) (sym (ap is_some (find-absent_in_log laws defines k told))),
    Defines-nothing laws defines (ap (to_back_if_some eq contents k) (no_value k told)) refl refl,
  )
  refresh_outcome k _ told = absurd told

  held-nil : pairs eq log ≡ [] → contents ≡ []
  held-nil none = sym defines.same_pairs ∙ none

  pub pop_front_outcome : (answer : Answer K V) → Answers eq start log PopFront answer
      → Outcome eq start log contents capacity mode PopFront answer
  pop_front_outcome (Pair k v) told =
      let first = pairs-first laws defines (Some (k, v)) told in
      (ap pair_or_empty (sym first), Defines-pop_front laws defines k v (sym first) refl refl refl)
  pop_front_outcome Empty told =
      let none = held-nil told in
      (ap (λ ps. pair_or_empty (slice_get ps 0)) (sym none), Defines-nothing laws defines (ap (drop 1) none ∙ sym none) refl refl)
  pop_front_outcome _ told = absurd told

  pub pop_back_outcome : (answer : Answer K V) → Answers eq start log PopBack answer
      → Outcome eq start log contents capacity mode PopBack answer
  pop_back_outcome (Pair k v) told =
      let last = pairs-last laws defines (Some (k, v)) told in
      (ap pair_or_empty (sym last), Defines-pop_back laws defines k v (sym last) refl refl refl)
  pop_back_outcome Empty told =
      let none = held-nil told in (
        ap (λ ps. pair_or_empty (slice_get ps (length ps - 1))) (sym none),
        Defines-nothing laws defines (ap (λ ps. take (length ps - 1) ps) none ∙ sym none) refl refl,
      )
  pop_back_outcome _ told = absurd told

  pub clear_outcome : (answer : Answer K V) → Answers eq start log Clear answer → Outcome eq start log contents capacity mode Clear answer
  clear_outcome Done told = (refl, Defines-remove_all laws defines refl refl refl)
  clear_outcome _ told = absurd told

  pub drain_outcome : (answer : Answer K V) → Answers eq start log Drain answer
      → is_refusal answer ≡ false → Outcome eq start log contents capacity mode Drain answer
  drain_outcome (Pairs drained) told given = (
    ap (λ ps. Pairs ps) (told ∙ defines.same_pairs),
    Defines-remove_all laws defines refl refl refl,
  )
  drain_outcome NoRoom told given = absurd (true≢false given)
  drain_outcome _ told given = absurd told

  pub extend_outcome : (items : List (K × V)) (answer : Answer K V) → Answers eq start log (Extend items) answer → is_refusal answer ≡ false
      → Outcome eq start log contents capacity mode (Extend items) answer
  extend_outcome items Done told given = (refl, Defines-put_each laws items defines)
  extend_outcome items (Stopped n k v) told given = absurd (true≢false given)
  extend_outcome items _ told given = absurd told

  pub reserve_outcome : (additional : ℕ) (answer : Answer K V) → Answers eq start log (Reserve additional) answer
      → is_refusal answer ≡ false → Outcome eq start log contents capacity mode (Reserve additional) answer
  reserve_outcome additional Done told given =
      let size_is = size-contents laws defines in
      let within : nat_lt LIMIT (length contents + additional) ≡ false =
      not_above LIMIT (length contents + additional)
      (subst (λ n. n + additional ≤ LIMIT) size_is told) in (
        ap (λ b. cond b TooLarge Done) (sym within),
        Defines-reserve laws defines additional refl
            (ap (λ b. cond b capacity (max capacity (length contents + additional))) within) refl,
      )
  reserve_outcome additional TooLarge told given =
      let size_is = size-contents laws defines in
      let above : nat_lt LIMIT (length contents + additional) ≡ true =
      lt-ltb LIMIT (length contents + additional)
      (subst (λ n. LIMIT < n + additional) size_is told) in (
        ap (λ b. cond b TooLarge Done) (sym above),
        Defines-nothing laws defines refl
            (ap (λ b. cond b capacity (max capacity (length contents + additional))) above) refl,
      )
  reserve_outcome additional NoRoom told given = absurd (true≢false given)
  reserve_outcome additional _ told given = absurd told

  pub shrink_outcome : (answer : Answer K V) → Answers eq start log Shrink answer
      → is_refusal answer ≡ false → Outcome eq start log contents capacity mode Shrink answer
  shrink_outcome Done told given = (refl, Defines-shrink laws defines refl refl refl)
  shrink_outcome NoRoom told given = absurd (true≢false given)
  shrink_outcome _ told given = absurd told

  pub set_mode_outcome : (m : Mode) (answer : Answer K V) → Answers eq start log (SetMode m) answer
      → Outcome eq start log contents capacity mode (SetMode m) answer
  set_mode_outcome m Done told = (refl, Defines-set_mode laws defines m refl refl refl)
  set_mode_outcome m _ told = absurd told

  pub outcome : (command : Command K V) (answer : Answer K V) → Answers eq start log command answer
      → is_refusal answer ≡ false → Outcome eq start log contents capacity mode command answer
  outcome (Insert k v) answer told given = insert_outcome k v answer told given
  outcome (Write k v) answer told given = write_outcome k v answer told
  outcome (Refresh k) answer told given = refresh_outcome k answer told
  outcome (Remove k) answer told given = remove_outcome k answer told
  outcome PopFront answer told given = pop_front_outcome answer told
  outcome PopBack answer told given = pop_back_outcome answer told
  outcome Clear answer told given = clear_outcome answer told
  outcome Drain answer told given = drain_outcome answer told given
  outcome (Extend items) answer told given = extend_outcome items answer told given
  outcome (OrInsert k v) answer told given = or_insert_outcome k v answer told given
  outcome (EntryInsert k v) answer told given = insert_outcome k v answer told given
  outcome (EntryRemove k) answer told given = remove_outcome k answer told
  outcome (Reserve additional) answer told given = reserve_outcome additional answer told given
  outcome Shrink answer told given = shrink_outcome answer told given
  outcome (SetMode m) answer told given = set_mode_outcome m answer told
