-- Runs that go on by one command, and the log that a map begins with.
use Rattle.std.proofs.Common.{◌≡◌, ℕ, ◌≤◌, max, Bool, false, List, [], ◌∷◌, ◌++◌, length, inr, refl, sym, ap, ◌∙◌, subst, arith}
use Rattle.std.proofs.{Common.length-append, Common.append_assoc, Common.append-nil, lemmas.List.map-append}
use Rattle.std.specs.{List.list_any, List.IsDistinct, Map.keys_of, Cmp.IsEquivalence}
use Rattle.linked_hash_map.specs.Log.{Log, Put, SetMode, put_each, mode, pairs, size, high, standing, standing_in, Defines}
use Rattle.linked_hash_map.specs.AllowedAnswers.{Answers, log_after}
use Rattle.linked_hash_map.specs.Run.{first_log, last_log, MayEndVisit, Serves, IsReply, IsRun}
use Rattle.linked_hash_map.specs.{declared.map.Mode.Mode, Pairs.put, Changes.Keeps, Rehashes.rechained_after, LinkedMap.LinkedMap}
use Rattle.linked_hash_map.specs.{declared.replay.Command.Command, declared.replay.Answer.Answer, declared.replay.Reply.Reply}
use Rattle.linked_hash_map.proofs.log.HighWater.{size-pairs, high-put, high-set_mode}
use Rattle.linked_hash_map.proofs.pairs.RehashCounts.{rechained_raised-same, rechained_fitted-same, rechained_each-same}
use Rattle.linked_hash_map.proofs.{lists.Elements.by_last, lists.Distinct.distinct_last, pairs.Calls.lookup_entry-none}
use Rattle.linked_hash_map.proofs.{pairs.Calls.put-absent, log.Bridge.pairs-put, log.Bridge.pairs-set_mode, log.Standing.mode-snoc}
use Rattle.linked_hash_map.proofs.{runs.Effects.Defines-nothing}

module _ {K V : Type 0} (eq : K → K → Bool) (start : ℕ) (command : Command K V) (reply : Reply K V) where
  -- a run and one more reply are a run
  pub IsRun-snoc : (log : Log K V) (commands : List (Command K V)) (replies : List (Reply K V)) → IsRun eq start log commands replies
      → IsReply eq start (last_log eq log commands replies) command reply
      → IsRun eq start log (commands ++ command ∷ []) (replies ++ reply ∷ [])
  IsRun-snoc log [] [] run next = (next, tt)
  IsRun-snoc log [] (other ∷ replies) run next = absurd run
  IsRun-snoc log (first ∷ commands) [] run next = absurd run
  IsRun-snoc log (first ∷ commands) (other ∷ replies) run next =
      (run.0, IsRun-snoc (log_after eq log first other.answer) commands replies run.1 next)

  pub last_log-snoc : (log : Log K V) (commands : List (Command K V)) (replies : List (Reply K V))
      → IsRun eq start log commands replies
      → last_log eq log (commands ++ command ∷ []) (replies ++ reply ∷ [])
      ≡ log_after eq (last_log eq log commands replies) command reply.answer
  last_log-snoc log [] [] run = refl
  last_log-snoc log [] (other ∷ replies) run = absurd run
  last_log-snoc log (first ∷ commands) [] run = absurd run
  last_log-snoc log (first ∷ commands) (other ∷ replies) run = last_log-snoc (log_after eq log first other.answer) commands replies run.1

-- a command that takes a map to another takes it to any that is the same
pub Serves-same : {K V S : Type 0} {eq : K → K → Bool} {old new : LinkedMap K V S}
    {command : Command K V} {answer : Answer K V} (left : LinkedMap K V S) → new ≡ left
    → Serves eq old left command answer → Serves eq old new command answer
Serves-same left same serves = grind arith

-- a command that leaves the capacity rehashes nothing
rechained_after-same : {K V : Type 0} (command : Command K V) (rechained len c : ℕ) → rechained_after command rechained len c c ≡ rechained
rechained_after-same command rechained len c = grind (arith, rechained_raised-same, rechained_fitted-same, rechained_each-same)

-- a command that keeps all but the pairs and the cursor, by its answer and the pairs that it leaves
pub Serves-keeps : {K V S : Type 0} {eq : K → K → Bool} {old new : LinkedMap K V S} {command : Command K V} {answer : Answer K V}
    → Keeps old new → ((start : ℕ) (log : Log K V) → Defines eq start log old.pairs old.capacity old.mode
    → Answers eq start log command answer
    × Defines eq start (log_after eq log command answer) new.pairs new.capacity new.mode)
    → MayEndVisit old new → Serves eq old new command answer
Serves-keeps keeps serves visit = grind (arith, rechained_after-same)

-- and one that leaves the map as it was, if its answer adds nothing to a log
pub Serves-unchanged : {K V S : Type 0} {eq : K → K → Bool} → IsEquivalence eq → {old new : LinkedMap K V S} → new ≡ old
    → {command : Command K V} {answer : Answer K V} → ((log : Log K V) → log_after eq log command answer ≡ log ++ [])
    → ((start : ℕ) (log : Log K V) → Defines eq start log old.pairs old.capacity old.mode → Answers eq start log command answer)
    → Serves eq old new command answer
Serves-unchanged {eq = eq} laws {old = old} same nothing answers = Serves-same old same (Serves-keeps
    (record { capacity = refl; rechained = refl; hasher = refl; mode = refl })
    (λ start log defines. (
      answers start log defines,
      subst (λ after. Defines eq start after old.pairs old.capacity old.mode) (sym (nothing log))
          (Defines-nothing laws defines refl refl refl),
    )) (inr refl))

pairs-nil : {K : Type 0} (V : Type 0) (eq : K → K → Bool) → pairs {V = V} eq [] ≡ []
unfolding pairs standing standing_in
pairs-nil V eq = refl

high-nil : {K : Type 0} (V : Type 0) (eq : K → K → Bool) (start : ℕ) → high {V = V} eq start [] ≡ max start 0
unfolding high size standing standing_in
high-nil V eq start = omega arith

module _ {K V : Type 0} where
  put_each-snoc : (es : List (K × V)) (e : K × V) → put_each (es ++ e ∷ []) ≡ put_each es ++ Put e.0 e.1 ∷ []
  put_each-snoc es e = map-append (λ x. Put x.0 x.1) es (e ∷ [])

  first_log-snoc : (m : Mode) (es : List (K × V)) (e : K × V) → first_log m (es ++ e ∷ []) ≡ first_log m es ++ Put e.0 e.1 ∷ []
  first_log-snoc m es e = ap (λ log. SetMode m ∷ log) (put_each-snoc es e)

  -- Puts leave the mode
  pub mode-put_each : (log : Log K V) (es : List (K × V)) → mode (log ++ put_each es) ≡ mode log
  mode-put_each log = by_last (λ es. mode (log ++ put_each es) ≡ mode log)
      (λ es e rest. ap (λ puts. mode (log ++ puts)) (put_each-snoc es e)
      ∙ ap mode (sym (append_assoc log (put_each es) (Put e.0 e.1 ∷ [])))
      ∙ mode-snoc (log ++ put_each es) (Put e.0 e.1) ∙ rest) (ap mode (append-nil log))

  -- the first log of a map has the map's mode
  pub mode-first_log : (m : Mode) (es : List (K × V)) → mode (first_log m es) ≡ m
  mode-first_log m es = mode-put_each (SetMode m ∷ []) es ∙ mode-snoc [] (SetMode m)

module _ {K V : Type 0} {eq : K → K → Bool} (laws : IsEquivalence eq) where
  pub put_last : (m : Mode) (es : List (K × V)) (e : K × V) → list_any (eq e.0) (keys_of es) ≡ false → put eq m es e.0 e.1 ≡ es ++ e ∷ []
  put_last m es e apart = put-absent eq m es e.0 e.1 (lookup_entry-none (eq e.0) es apart)

  pub last_differs : (es : List (K × V)) (e : K × V) → IsDistinct eq (keys_of (es ++ e ∷ []))
      → IsDistinct eq (keys_of es) × (list_any (eq e.0) (keys_of es) ≡ false)
  last_differs es e distinct = distinct_last laws (keys_of es) e.0
      (subst (IsDistinct eq) (map-append (λ (x : K × V). x.0) es (e ∷ [])) distinct)

  -- the first log of a map defines its pairs
  pub pairs-first_log : (m : Mode) (es : List (K × V)) → IsDistinct eq (keys_of es) → pairs eq (first_log m es) ≡ es
  pairs-first_log m = by_last (λ es. IsDistinct eq (keys_of es) → pairs eq (first_log m es) ≡ es)
      (λ es e rest distinct. let apart = last_differs es e distinct in
      ap (pairs eq) (first_log-snoc m es e) ∙ pairs-put laws (first_log m es) e.0 e.1
      ∙ (λ i. put eq (mode-first_log m es i) (rest apart.0 i) e.0 e.1) ∙ put_last m es e apart.1)
      (λ distinct. pairs-set_mode laws [] m ∙ pairs-nil V eq)

  -- and its high-water mark is the larger of the start capacity and their number
  pub high-first_log : (start : ℕ) (m : Mode) (es : List (K × V)) → IsDistinct eq (keys_of es)
      → high eq start (first_log m es) ≡ max start (length es)
  high-first_log start m = by_last (λ es. IsDistinct eq (keys_of es) → high eq start (first_log m es) ≡ max start (length es))
      (λ es e rest distinct. let apart = last_differs es e distinct in
      let more = high-put laws (first_log m es) start e.0 e.1 in
      let length_is : size eq (first_log m es ++ Put e.0 e.1 ∷ []) ≡ length (es ++ e ∷ []) =
      ap (size eq) (sym (first_log-snoc m es e)) ∙ size-pairs eq (first_log m (es ++ e ∷ []))
      ∙ ap length (pairs-first_log m (es ++ e ∷ []) distinct) in
      let before = rest apart.0 in let longer = length-append es (e ∷ []) in
      ap (high eq start) (first_log-snoc m es e) ∙ omega arith)
      (λ distinct. high-set_mode laws [] start m ∙ high-nil V eq start)

  -- the first log of a map defines the map
  pub Defines-first_log : (m : Mode) (es : List (K × V)) (capacity : ℕ) → IsDistinct eq (keys_of es)
      → length es ≤ capacity → Defines eq capacity (first_log m es) es capacity m
  Defines-first_log m es capacity distinct within = grind (arith, pairs-first_log, high-first_log, mode-first_log)
