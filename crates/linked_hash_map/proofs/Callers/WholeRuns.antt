-- For callers: whole runs. If nothing is refused, the replies, the pairs and the capacity follow
-- from the commands and the first map. Two runs with the same refusals have the same answers.
use Rattle.std.proofs.Common.{◌≡◌, ℕ, Bool, true, false, Result, Ok, Err, IfOk, IsOkAnd, Vec, Global, ◌||◌, ◌&&◌, IsFalse, List, [], ◌∷◌}
use Rattle.std.proofs.Common.{Option, Some, None, slice_get, map, refl, sym, ap, ap₂, ◌∙◌, subst}
use Rattle.std.specs.{List.list_any, List.list_all, Cmp.IsEquivalence}
use Rattle.linked_hash_map.specs.Log.{Log, mode, pairs, high, Defines}
use Rattle.linked_hash_map.specs.Run.{first_log, last_log, IsReply, IsRun}
use Rattle.linked_hash_map.specs.Commands.{is_refusal, refused_after, refusals, answer_to, replies_to, mode_after, pairs_after}
use Rattle.linked_hash_map.specs.LastUses.{sets_keep, pairs_by_use}
use Rattle.linked_hash_map.specs.declared.replay.Command.TheVariants.{Insert, Write, Refresh, Remove, PopFront, PopBack, Clear, Extend}
use Rattle.linked_hash_map.specs.declared.replay.Command.TheVariants.{OrInsert, EntryInsert, EntryRemove, SetMode}
use Rattle.linked_hash_map.specs.declared.replay.Answer.TheVariants.{Refused, Stopped, NoRoom}
use Rattle.linked_hash_map.specs.{declared.map.Mode.Mode, LinkedMap.LinkedMap, Validity.IsValid, AllowedAnswers.log_after}
use Rattle.linked_hash_map.specs.{AllowedAnswers.Answers, Commands.capacity_after, Commands.pairs_after_all}
use Rattle.linked_hash_map.specs.{declared.replay.Command.Command, declared.replay.Answer.Answer, declared.replay.Reply.Reply}
use Rattle.linked_hash_map.proofs.Callers.Replay.{Replied-given, Defines-first, is_refusal-write, is_refusal-refresh, is_refusal-remove}
use Rattle.linked_hash_map.proofs.Callers.Replay.{is_refusal-entry_remove, is_refusal-pop_front, is_refusal-pop_back, is_refusal-clear}
use Rattle.linked_hash_map.proofs.{Callers.Replay.is_refusal-set_mode, lists.Elements.none_first, lists.Elements.none_later}
pub use Rattle.linked_hash_map.proofs.log.WithoutKeep.{pairs-in_touch}
use Rattle.linked_hash_map.proofs.runs.Outcomes.{outcome}
use Rattle.std.proofs.Common.{arith}
-- what `replay` says if it returns replies
pub use Rattle.linked_hash_map.specs.Run.{Replayed}

-- no reply is a refusal
abbrev pub NoneRefused : {K V : Type 0} → List (Reply K V) → Type 0
NoneRefused replies = IsFalse (list_any (λ reply. is_refusal reply.answer) replies)

-- a command that is never refused, whatever the map
abbrev pub never_refused : {K V : Type 0} → Command K V → Bool
never_refused (Write k v) = true
never_refused (Refresh k) = true
never_refused (Remove k) = true
never_refused (EntryRemove k) = true
never_refused PopFront = true
never_refused PopBack = true
never_refused Clear = true
never_refused (SetMode mode) = true
never_refused _ = false

-- the mode and the capacity after commands in turn, if none is refused
abbrev pub mode_after_all : {K V : Type 0} → Mode → List (Command K V) → Mode
mode_after_all mode [] = mode
mode_after_all mode (command ∷ commands) = mode_after_all (mode_after mode command) commands

abbrev pub capacity_after_all : {K V : Type 0} → (K → K → Bool) → Mode → ℕ → List (K × V)
    → List (Command K V) → ℕ
capacity_after_all eq mode capacity contents [] = capacity
capacity_after_all eq mode capacity contents (command ∷ commands) =
    capacity_after_all eq (mode_after mode command) (capacity_after eq mode capacity contents command)
    (pairs_after eq mode contents command) commands

module _ {K V : Type 0} {eq : K → K → Bool} (laws : IsEquivalence eq) where
  -- a run on a log that defines these pairs and this capacity
  replies-given : (commands : List (Command K V)) (replies : List (Reply K V)) {mode : Mode}
      {log : Log K V} {contents : List (K × V)} {start capacity : ℕ}
      → Defines eq start log contents capacity mode → IsRun eq start log commands replies
      → NoneRefused replies → replies ≡ replies_to eq mode capacity contents commands
  replies-given [] [] defines run given = refl
  replies-given [] (reply ∷ replies) defines run given = absurd run
  replies-given (command ∷ commands) [] defines run given = absurd run
  replies-given (command ∷ commands) (reply ∷ replies) defines run given =
      let refused = is_refusal reply.answer in
      let later = list_any (λ (r : Reply K V). is_refusal r.answer) replies in
      let replied =
      Replied-given laws command reply defines run.0 (none_first refused later given) in
      ap₂ (λ r rs. r ∷ rs) (λ i. record {
        answer = replied.answer_is i;
        len = replied.len_is i;
        capacity = replied.capacity_is i;
      }) (replies-given commands replies replied.defines run.1 (none_later refused later given))

  Defines-given : (commands : List (Command K V)) (replies : List (Reply K V)) {mode : Mode}
      {log : Log K V} {contents : List (K × V)} {start capacity : ℕ}
      → Defines eq start log contents capacity mode → IsRun eq start log commands replies
      → NoneRefused replies
      → Defines eq start (last_log eq log commands replies)
      (pairs_after_all eq mode contents commands)
      (capacity_after_all eq mode capacity contents commands) (mode_after_all mode commands)
  Defines-given [] [] defines run given = defines
  Defines-given [] (reply ∷ replies) defines run given = absurd run
  Defines-given (command ∷ commands) [] defines run given = absurd run
  Defines-given (command ∷ commands) (reply ∷ replies) defines run given =
      let refused = is_refusal reply.answer in
      let later = list_any (λ (r : Reply K V). is_refusal r.answer) replies in
      let replied = Replied-given laws command reply defines run.0 (none_first refused later given) in
      Defines-given commands replies replied.defines run.1 (none_later refused later given)

pub both_hold : (a b : Bool) → (a && b) ≡ true → (a ≡ true) × (b ≡ true)
both_hold a b h = grind arith

-- commands that are never refused get no such reply
module _ {K V : Type 0} {eq : K → K → Bool} (laws : IsEquivalence eq) (start : ℕ) where
  is_refusal-never : {log : Log K V} {contents : List (K × V)} {capacity : ℕ} {mode : Mode} → Defines eq start log contents capacity mode
      → (command : Command K V) (reply : Reply K V) → IsReply eq start log command reply → never_refused command ≡ true
      → is_refusal reply.answer ≡ false
  is_refusal-never defines command reply is never = grind (
    arith,
    is_refusal-write,
    is_refusal-refresh,
    is_refusal-remove,
    is_refusal-entry_remove,
    is_refusal-pop_front,
    is_refusal-pop_back,
    is_refusal-clear,
    is_refusal-set_mode,
  )

  NoneRefused-run : (commands : List (Command K V)) (replies : List (Reply K V)) {log : Log K V}
      {contents : List (K × V)} {capacity : ℕ} {mode : Mode}
      → Defines eq start log contents capacity mode → IsRun eq start log commands replies
      → list_all never_refused commands ≡ true → NoneRefused replies
  NoneRefused-run [] [] defines run never = refl
  NoneRefused-run [] (reply ∷ replies) defines run never = absurd run
  NoneRefused-run (command ∷ commands) [] defines run never = absurd run
  NoneRefused-run (command ∷ commands) (reply ∷ replies) defines run never =
      let both = both_hold (never_refused command) (list_all never_refused commands) never in
      let given = is_refusal-never defines command reply run.0 both.0 in
      let replied = Replied-given laws command reply defines run.0 given in
      ap₂ (λ a b. a || b) given (NoneRefused-run commands replies replied.defines run.1 both.1)

module _ {K V S : Type 0} {eq : K → K → Bool} (laws : IsEquivalence eq) {old new : LinkedMap K V S}
    {commands : List (Command K V)} {replies : List (Reply K V)} (valid : IsValid eq old)
    (replayed : Replayed eq old commands replies new) where
  -- of a whole run: what `replay` returned, and what the map holds
  replies-replayed : NoneRefused replies → replies ≡ replies_to eq old.mode old.capacity old.pairs commands
  replies-replayed = replies-given laws commands replies (Defines-first laws valid) replayed.run

  pub pairs-replayed : NoneRefused replies → new.pairs ≡ pairs_after_all eq old.mode old.pairs commands
  pairs-replayed given =
      let defines = Defines-given laws commands replies (Defines-first laws valid) replayed.run given in
      replayed.pairs ∙ defines.same_pairs

  -- of commands each of which is never refused, no reply is a refusal
  pub NoneRefused-replayed : list_all never_refused commands ≡ true → NoneRefused replies
  NoneRefused-replayed = NoneRefused-run laws old.capacity commands replies (Defines-first laws valid) replayed.run

-- a run of these commands, each of which is never refused: the replies and the pairs follow from
-- them with no more ado
module _ {K V S : Type 0} {eq : K → K → Bool} (laws : IsEquivalence eq) {old new : LinkedMap K V S}
    {commands : List (Command K V)} {replies : List (Reply K V)} (these : List (Command K V))
    (valid : IsValid eq old) (replayed : Replayed eq old commands replies new)
    (are : commands ≡ these) (never : list_all never_refused these ≡ true) where
  none : NoneRefused replies
  none = NoneRefused-replayed laws valid replayed (ap (list_all never_refused) are ∙ never)

  pub pairs-replayed_never_refused : new.pairs ≡ pairs_after_all eq old.mode old.pairs these
  pairs-replayed_never_refused = pairs-replayed laws valid replayed none ∙ ap (pairs_after_all eq old.mode old.pairs) are

  pub replies-replayed_never_refused : replies ≡ replies_to eq old.mode old.capacity old.pairs these
  replies-replayed_never_refused = replies-replayed laws valid replayed none ∙ ap (replies_to eq old.mode old.capacity old.pairs) are

-- a refusal is told by its command and by how many pairs went in before it
stopped_at : {K V : Type 0} → ℕ → Option (K × V) → Answer K V
stopped_at n None = NoRoom
stopped_at n (Some pair) = Stopped n pair.0 pair.1

refused_answer : {K V : Type 0} → ℕ → Command K V → Answer K V
refused_answer n (Insert k v) = Refused k v
refused_answer n (OrInsert k v) = Refused k v
refused_answer n (EntryInsert k v) = Refused k v
refused_answer n (Extend items) = stopped_at n (slice_get items n)
refused_answer n _ = NoRoom

-- the answer to a command on these pairs, if it is refused after so many pairs, or if it is not
answer_if : {K V : Type 0} → (K → K → Bool) → List (K × V) → Command K V → Option ℕ → Answer K V
answer_if eq contents command None = answer_to eq contents command
answer_if eq contents command (Some n) = refused_answer n command

-- on a log the answer follows from the command and its refusal, whatever the start capacity
module _ {K V : Type 0} {eq : K → K → Bool} (laws : IsEquivalence eq) (start : ℕ) (log : Log K V)
  where
    answer-Refused : (command : Command K V) (k : K) (v : V)
        → Answers eq start log command (Refused k v) → Refused k v ≡ refused_answer 0 command
    unfolding refused_answer
    answer-Refused command j w told = grind arith

    answer-Stopped : (command : Command K V) (n : ℕ) (k : K) (v : V)
        → Answers eq start log command (Stopped n k v) → Stopped n k v ≡ refused_answer n command
    unfolding refused_answer stopped_at
    answer-Stopped command n k v told = grind (arith, stopped_at)

    answer-NoRoom : (command : Command K V) → Answers eq start log command NoRoom → NoRoom ≡ refused_answer 0 command
    unfolding refused_answer
    answer-NoRoom command told = grind arith

    answer-given : (command : Command K V) (answer : Answer K V) → Answers eq start log command answer
        → is_refusal answer ≡ false → answer ≡ answer_to eq (pairs eq log) command
    answer-given command answer told given = (outcome laws {start = start} {log = log}
        {capacity = high eq start log} (record { same_pairs = refl; same_capacity = refl; same_mode = refl }) command answer told given).0

    answer-allowed : (command : Command K V) (answer : Answer K V) → Answers eq start log command answer
        → answer ≡ answer_if eq (pairs eq log) command (refused_after answer)
    unfolding answer_if
    answer-allowed command answer told = grind (arith, answer-Refused, answer-Stopped, answer-NoRoom, answer-given)

-- two runs of the same commands on one log, from any capacities, with the same refusals have the
-- same answers and end with one log
module _ {K V : Type 0} {eq : K → K → Bool} (laws : IsEquivalence eq) (start start' : ℕ) where
  same_answer : (log : Log K V) (command : Command K V) (answer answer' : Answer K V) → Answers eq start log command answer
      → Answers eq start' log command answer' → refused_after answer ≡ refused_after answer' → answer ≡ answer'
  same_answer log command answer answer' told told' same = grind (arith, answer-allowed, answer_if)

  same_answers : (commands : List (Command K V)) (replies replies' : List (Reply K V)) (log : Log K V)
      → IsRun eq start log commands replies × IsRun eq start' log commands replies'
      → refusals replies ≡ refusals replies'
      → (map (λ reply. reply.answer) replies ≡ map (λ reply. reply.answer) replies')
      × (last_log eq log commands replies ≡ last_log eq log commands replies')
  same_answers [] [] [] log runs same = (refl, refl)
  same_answers [] (reply ∷ replies) replies' log runs same = absurd runs.0
  same_answers [] [] (reply' ∷ replies') log runs same = absurd runs.1
  same_answers (command ∷ commands) [] replies' log runs same = absurd runs.0
  same_answers (command ∷ commands) (reply ∷ replies) [] log runs same = absurd runs.1
  same_answers (command ∷ commands) (reply ∷ replies) (reply' ∷ replies') log (run, run') same =
      let first : refused_after reply.answer ≡ refused_after reply'.answer = cc in
      let others : refusals replies ≡ refusals replies' = cc in
      let answer = same_answer log command reply.answer reply'.answer run.0.allowed.answers
      run'.0.allowed.answers first in
      let rest = same_answers commands replies replies' (log_after eq log command reply.answer) (
        run.1,
        grind arith,
      ) others in grind arith

refused_after-given : {K V : Type 0} (answer : Answer K V) → is_refusal answer ≡ false → refused_after answer ≡ None
refused_after-given answer given = grind arith

module _ {K V : Type 0} (eq : K → K → Bool) (start : ℕ) where
  -- a run in which nothing is refused has no refusal after any command
  refusals-given : (commands : List (Command K V)) (replies : List (Reply K V)) (log : Log K V)
      → IsRun eq start log commands replies → NoneRefused replies → refusals replies ≡ map (λ command. None) commands
  refusals-given [] [] log run given = refl
  refusals-given [] (reply ∷ replies) log run given = absurd run
  refusals-given (command ∷ commands) [] log run given = absurd run
  refusals-given (command ∷ commands) (reply ∷ replies) log run given =
      let refused = is_refusal reply.answer in
      let later = list_any (λ (r : Reply K V). is_refusal r.answer) replies in
      ap₂ (λ o os. o ∷ os) (refused_after-given reply.answer (none_first refused later given))
      (refusals-given commands replies (log_after eq log command reply.answer) run.1 (none_later refused later given))

-- of what two calls of `replay` return with the same commands, on maps with the same pairs and the
-- same mode: if their refusals are the same, so are the answers, the pairs that they leave and, if
-- the maps had the same capacity, the capacities
module _ {K V S T E : Type 0} {eq : K → K → Bool} (laws : IsEquivalence eq)
    (old new : LinkedMap K V S) (old' new' : LinkedMap K V T) {commands copies : List (Command K V)}
  where
    pub same_runs : (run run' : Result (Vec (Reply K V) Global) E)
        → old.pairs ≡ old'.pairs → old.mode ≡ old'.mode → commands ≡ copies
        → IfOk run (λ replies. Replayed eq old commands replies.items new)
        → IfOk run' (λ replies. Replayed eq old' copies replies.items new')
        → IsOkAnd run (λ replies. IsOkAnd run' (λ replies'.
        refusals replies.items ≡ refusals replies'.items))
        → IfOk run (λ replies. IfOk run' (λ replies'.
        map (λ reply. reply.answer) replies.items ≡ map (λ reply. reply.answer) replies'.items))
        × (new.pairs ≡ new'.pairs) × (old.capacity ≡ old'.capacity → new.capacity ≡ new'.capacity)
    same_runs (Err refused) run' same alike copied replayed replayed' refused_alike = absurd refused_alike
    same_runs (Ok replies) (Err refused) same alike copied replayed replayed' refused_alike = absurd refused_alike
    same_runs (Ok replies) (Ok replies') same alike copied replayed replayed' refused_alike =
        let first = first_log old.mode old.pairs in
        let begun : first_log old'.mode old'.pairs ≡ first = ap₂ (λ mode contents. first_log mode contents) (sym alike) (sym same) in
        let again = subst (λ log. IsRun eq old'.capacity log commands replies'.items) begun
        (subst (λ cs. IsRun eq old'.capacity (first_log old'.mode old'.pairs) cs replies'.items) (sym copied) replayed'.run) in
        let run = same_answers laws old.capacity old'.capacity commands replies.items replies'.items
        first (replayed.run, again) refused_alike in
        let ends : last_log eq first commands replies.items
        ≡ last_log eq (first_log old'.mode old'.pairs) copies replies'.items =
        run.1 ∙ ap₂ (λ log cs. last_log eq log cs replies'.items) (sym begun) copied in (
          run.0,
          replayed.pairs ∙ ap (pairs eq) ends ∙ sym replayed'.pairs,
          λ as_large. replayed.capacity ∙ ap₂ (high eq) as_large ends ∙ sym replayed'.capacity,
        )

    pub same_refusals : (run run' : Result (Vec (Reply K V) Global) E) → commands ≡ copies
        → IfOk run (λ replies. Replayed eq old commands replies.items new)
        → IfOk run' (λ replies. Replayed eq old' copies replies.items new') → IsOkAnd run (λ replies. NoneRefused replies.items)
        → IsOkAnd run' (λ replies. NoneRefused replies.items)
        → IsOkAnd run (λ replies. IsOkAnd run' (λ replies'. refusals replies.items ≡ refusals replies'.items))
    same_refusals run run' copied replayed replayed' given given' = grind (arith, refusals-given)

-- kept for the proofs of callers of 1.3: `in_touch` says it of a log
pub pairs-replayed_in_touch : {K V S E : Type 0} (eq : K → K → Bool) (old new : LinkedMap K V S)
    (commands : List (Command K V)) (run : Result (Vec (Reply K V) Global) E)
    → IfOk run (λ replies. Replayed eq old commands replies.items new)
    → IfOk run (λ replies.
    list_any sets_keep (last_log eq (first_log old.mode old.pairs) commands replies.items) ≡ false
    → new.pairs ≡ pairs_by_use eq (last_log eq (first_log old.mode old.pairs) commands replies.items))
pairs-replayed_in_touch eq old new commands (Err refused) replayed = tt
pairs-replayed_in_touch eq old new commands (Ok replies) replayed = λ touch. replayed.pairs
    ∙ pairs-in_touch eq (last_log eq (first_log old.mode old.pairs) commands replies.items) touch

-- the pairs after a run whose log never sets the mode to Keep
pub ruleset in_touch = (pairs-in_touch)
