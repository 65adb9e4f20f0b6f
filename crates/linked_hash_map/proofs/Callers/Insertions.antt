-- For callers: a run of insertions that leaves one pair more for each of them refused none.
use Rattle.std.proofs.Common.{◌≡◌, ℕ, ◌+◌, ◌≤◌, ◌⊎◌, inl, inr, Bool, true, false, ◌||◌, List, [], ◌∷◌, ◌++◌, length, append-nil, refl, sym}
use Rattle.std.proofs.Common.{ap, ap₂, ◌∙◌, subst, true≢false, arith}
use Rattle.std.specs.{List.list_all, Cmp.IsEquivalence}
use Rattle.linked_hash_map.specs.{declared.map.Mode.Mode, LinkedMap.LinkedMap, Validity.IsValid, Log.Log, Log.Defines, Log.size}
use Rattle.linked_hash_map.specs.{AllowedAnswers.effects, AllowedAnswers.log_after, Run.last_log, Run.IsReply, Run.IsRun, Run.Replayed}
use Rattle.linked_hash_map.specs.{Commands.is_refusal, declared.replay.Command.Command, declared.replay.Command.TheVariants.Insert}
use Rattle.linked_hash_map.specs.{declared.replay.Answer.Answer, declared.replay.Reply.Reply, Pairs.put}
use Rattle.linked_hash_map.proofs.Callers.{Keys.length-put_most, Replay.Replied-given, Replay.Defines-first, WholeRuns.NoneRefused}
use Rattle.linked_hash_map.proofs.Callers.{WholeRuns.both_hold}

-- a command that inserts a pair
abbrev pub is_insertion : {K V : Type 0} → Command K V → Bool
is_insertion (Insert k v) = true
is_insertion _ = false

no_effects : {K V : Type 0} (len : ℕ) (k : K) (v : V) (answer : Answer K V)
    → is_refusal answer ≡ true → effects len (Insert k v) answer ≡ []
no_effects len k v answer refused = grind arith

-- what a run on a log that defines these pairs leaves
record Grown {K V : Type 0} (eq : K → K → Bool) (start : ℕ) (log : Log K V) (mode : Mode)
    (contents : List (K × V)) (number : ℕ) (replies : List (Reply K V)) : Type 0 where
  later : List (K × V)
  capacity : ℕ
  defines : Defines eq start log later capacity mode
  most : length later ≤ length contents + number
  all : length later ≡ length contents + number → NoneRefused replies

-- what an insertion leaves: one pair more at most, and as many if it was refused
record Inserted {K V : Type 0} (eq : K → K → Bool) (start : ℕ) (log : Log K V) (mode : Mode)
    (contents : List (K × V)) (reply : Reply K V) : Type 0 where
  later : List (K × V)
  capacity : ℕ
  defines : Defines eq start log later capacity mode
  most : length later ≤ length contents + 1
  given : (is_refusal reply.answer ≡ false) ⊎ (length later ≡ length contents)

module _ {K V : Type 0} {eq : K → K → Bool} (laws : IsEquivalence eq) {start : ℕ} {mode : Mode} where
  inserted : (k : K) (v : V) (reply : Reply K V) {log : Log K V} {contents : List (K × V)} {capacity : ℕ}
      → Defines eq start log contents capacity mode → IsReply eq start log (Insert k v) reply → (b : Bool) → is_refusal reply.answer ≡ b
      → Inserted eq start (log_after eq log (Insert k v) reply.answer) mode contents reply
  inserted k v reply {log} {contents} {capacity} defines is true refused = record {
    later = contents;
    capacity = capacity;
    defines = subst (λ l. Defines eq start l contents capacity mode)
        (sym (ap (λ es. log ++ es) (no_effects (size eq log) k v reply.answer refused) ∙ append-nil log)) defines;
    most = omega arith;
    given = inr refl;
  }
  inserted k v reply {log} {contents} {capacity} defines is false given =
      let replied = Replied-given laws (Insert k v) reply defines is given in record {
        later = put eq mode contents k v;
        capacity = _;
        defines = replied.defines;
        most = length-put_most eq mode contents k v;
        given = inl given;
      }

  grown : (commands : List (Command K V)) (replies : List (Reply K V)) {log : Log K V} {contents : List (K × V)} {capacity : ℕ}
      → Defines eq start log contents capacity mode → IsRun eq start log commands replies → list_all is_insertion commands ≡ true
      → Grown eq start (last_log eq log commands replies) mode contents (length commands) replies
  grown [] [] {contents = contents} {capacity} defines run are =
      record { later = contents; capacity = capacity; defines = defines; most = omega arith; all = λ _. refl }
  grown [] (reply ∷ replies) defines run are = absurd run
  grown (command ∷ commands) [] defines run are = absurd run
  grown (Insert k v ∷ commands) (reply ∷ replies) {contents = contents} defines run are =
      let one = inserted k v reply defines run.0 (is_refusal reply.answer) refl in
      let rest = grown commands replies one.defines run.1 (both_hold true (list_all is_insertion commands) are).1 in
      let first_most = one.most in let rest_most = rest.most in record {
        later = rest.later;
        capacity = rest.capacity;
        defines = rest.defines;
        most = omega arith;
        all = λ each. elim one.given [
          | inl given ↦ ap₂ (λ a b. a || b) given (rest.all (omega arith))
          | inr same ↦ absurd (omega arith)
        ];
      }
  grown (command ∷ commands) (reply ∷ replies) defines run are =
      absurd (true≢false (sym (both_hold (is_insertion command) (list_all is_insertion commands) are).0))

-- a run of these commands, each of which is an insertion
module _ {K V S : Type 0} {eq : K → K → Bool} (laws : IsEquivalence eq) {old new : LinkedMap K V S}
    {commands : List (Command K V)} {replies : List (Reply K V)} (these : List (Command K V)) where
  pub NoneRefused-inserted : IsValid eq old → Replayed eq old commands replies new → commands ≡ these → list_all is_insertion these ≡ true
      → length new.pairs ≡ length old.pairs + length these → NoneRefused replies
  NoneRefused-inserted valid replayed are insertions longer =
      let run = grown laws commands replies (Defines-first laws valid) replayed.run
      (ap (list_all is_insertion) are ∙ insertions) in
      let same = ap length (replayed.pairs ∙ run.defines.same_pairs) in
      let as_many = ap length are in
      run.all (omega arith)
