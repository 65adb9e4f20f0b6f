-- For callers: what a reply in a run says of the answer and of what the map has then, in the words
-- of single calls.
use Rattle.std.proofs.Common.{◌≡◌, ℕ, ◌-◌, Bool, false, cond, IsFalse, List, [], length, take, arith, drop, slice_get, Option, is_some, ap}
use Rattle.std.specs.Cmp.{IsEquivalence}
use Rattle.linked_hash_map.specs.Pairs.{find, value_at, without, set_value}
use Rattle.linked_hash_map.specs.Commands.{is_refusal, old_or, pair_or_empty, to_back_if_some, answer_to, pairs_after, capacity_after}
use Rattle.linked_hash_map.specs.declared.replay.Command.TheVariants.{Write, Refresh, Remove, PopFront, PopBack, Clear, EntryRemove}
use Rattle.linked_hash_map.specs.declared.replay.Answer.TheVariants.{Found, Missing, Absent, Done}
use Rattle.linked_hash_map.specs.{LinkedMap.LinkedMap, Validity.IsValid, Log.Log, Log.Defines, declared.map.Mode.Mode}
use Rattle.linked_hash_map.specs.{AllowedAnswers.log_after, Run.first_log, Run.IsReply, Commands.mode_after}
use Rattle.linked_hash_map.specs.{declared.replay.Command.Command, declared.replay.Command.TheVariants.SetMode}
use Rattle.linked_hash_map.specs.{declared.replay.Answer.Answer, declared.replay.Reply.Reply}
use Rattle.linked_hash_map.proofs.runs.Outcomes.{outcome, write_outcome, refresh_outcome, remove_outcome, pop_front_outcome}
use Rattle.linked_hash_map.proofs.runs.Outcomes.{pop_back_outcome, clear_outcome, set_mode_outcome}
use Rattle.linked_hash_map.proofs.runs.{Effects.size-contents, Steps.Defines-first_log}

-- a run begins with a log that defines the map
pub Defines-first : {K V S : Type 0} {eq : K → K → Bool} → IsEquivalence eq → {m : LinkedMap K V S}
    → IsValid eq m → Defines eq m.capacity (first_log m.mode m.pairs) m.pairs m.capacity m.mode
Defines-first laws {m} valid = Defines-first_log laws m.mode m.pairs m.capacity valid.distinct valid.within

is_refusal-old_or : {K V : Type 0} (otherwise : Answer K V) → is_refusal otherwise ≡ false
    → (o : Option V) → is_refusal (old_or otherwise o) ≡ false
is_refusal-old_or otherwise given o = grind arith

is_refusal-pair_or_empty : {K V : Type 0} (o : Option (K × V)) → is_refusal (pair_or_empty o) ≡ false
is_refusal-pair_or_empty o = grind arith

-- the reply to a command on a log has this answer, this length and this capacity, and the log after
-- it defines these pairs, this capacity and this mode
pub record Replied {K V : Type 0} (eq : K → K → Bool) (start : ℕ) (log : Log K V)
    (command : Command K V) (reply : Reply K V) (answer : Answer K V) (contents : List (K × V))
    (capacity : ℕ) (mode : Mode) : Type 0 where
  pub answer_is : reply.answer ≡ answer
  pub len_is : reply.len ≡ length contents
  pub capacity_is : reply.capacity ≡ capacity
  pub defines : Defines eq start (log_after eq log command reply.answer) contents capacity mode

module _ {K V : Type 0} {eq : K → K → Bool} (laws : IsEquivalence eq) {start : ℕ} {log : Log K V} where
  replied : (command : Command K V) (reply : Reply K V) → IsReply eq start log command reply
      → {answer : Answer K V} {later : List (K × V)} {capacity : ℕ} {m : Mode} → reply.answer ≡ answer
      → Defines eq start (log_after eq log command reply.answer) later capacity m
      → Replied eq start log command reply answer later capacity m
  replied command reply is same after = grind (arith, size-contents)

module _ {K V : Type 0} {eq : K → K → Bool} (laws : IsEquivalence eq) {start : ℕ} {log : Log K V}
    {contents : List (K × V)} {capacity : ℕ} {mode : Mode} where
  -- any command that is not refused
  pub Replied-given : (command : Command K V) (reply : Reply K V)
      → Defines eq start log contents capacity mode → IsReply eq start log command reply
      → IsFalse (is_refusal reply.answer)
      → Replied eq start log command reply (answer_to eq contents command)
      (pairs_after eq mode contents command) (capacity_after eq mode capacity contents command)
      (mode_after mode command)
  Replied-given command reply defines is given =
      let done = outcome laws defines command reply.answer is.allowed.answers given in
      replied laws command reply is done.0 done.1

  -- the commands that are never refused
  Replied-write : (k : K) (v : V) (reply : Reply K V) → Defines eq start log contents capacity mode → IsReply eq start log (Write k v) reply
      → Replied eq start log (Write k v) reply (old_or (Absent k v) (value_at eq contents k)) (set_value eq contents k v) capacity mode
  Replied-write k v reply defines is =
      let done = write_outcome laws defines k v reply.answer is.allowed.answers in
      replied laws (Write k v) reply is done.0 done.1

  Replied-refresh : (k : K) (reply : Reply K V) → Defines eq start log contents capacity mode
      → IsReply eq start log (Refresh k) reply
      → Replied eq start log (Refresh k) reply (cond (is_some (find eq contents k)) Found Missing)
      (to_back_if_some eq contents k (value_at eq contents k)) capacity mode
  Replied-refresh k reply defines is =
      let done = refresh_outcome laws defines k reply.answer is.allowed.answers in
      replied laws (Refresh k) reply is done.0 done.1

  Replied-remove : (k : K) (reply : Reply K V) → Defines eq start log contents capacity mode → IsReply eq start log (Remove k) reply
      → Replied eq start log (Remove k) reply (old_or Missing (value_at eq contents k)) (without eq contents k) capacity mode
  Replied-remove k reply defines is =
      let done = remove_outcome laws defines k reply.answer is.allowed.answers in
      replied laws (Remove k) reply is done.0 done.1

  Replied-entry_remove : (k : K) (reply : Reply K V) → Defines eq start log contents capacity mode
      → IsReply eq start log (EntryRemove k) reply
      → Replied eq start log (EntryRemove k) reply (old_or Missing (value_at eq contents k)) (without eq contents k) capacity mode
  Replied-entry_remove k reply defines is =
      let done = remove_outcome laws defines k reply.answer is.allowed.answers in
      replied laws (EntryRemove k) reply is done.0 done.1

  Replied-pop_front : (reply : Reply K V) → Defines eq start log contents capacity mode → IsReply eq start log PopFront reply
      → Replied eq start log PopFront reply (pair_or_empty (slice_get contents 0)) (drop 1 contents) capacity mode
  Replied-pop_front reply defines is =
      let done = pop_front_outcome laws defines reply.answer is.allowed.answers in
      replied laws PopFront reply is done.0 done.1

  Replied-pop_back : (reply : Reply K V) → Defines eq start log contents capacity mode
      → IsReply eq start log PopBack reply
      → Replied eq start log PopBack reply
      (pair_or_empty (slice_get contents (length contents - 1)))
      (take (length contents - 1) contents) capacity mode
  Replied-pop_back reply defines is =
      let done = pop_back_outcome laws defines reply.answer is.allowed.answers in
      replied laws PopBack reply is done.0 done.1

  Replied-clear : (reply : Reply K V) → Defines eq start log contents capacity mode
      → IsReply eq start log Clear reply → Replied eq start log Clear reply Done [] capacity mode
  Replied-clear reply defines is =
      let done = clear_outcome laws defines reply.answer is.allowed.answers in
      replied laws Clear reply is done.0 done.1

  Replied-set_mode : (m : Mode) (reply : Reply K V) → Defines eq start log contents capacity mode → IsReply eq start log (SetMode m) reply
      → Replied eq start log (SetMode m) reply Done contents capacity m
  Replied-set_mode m reply defines is =
      let done = set_mode_outcome laws defines m reply.answer is.allowed.answers in
      replied laws (SetMode m) reply is done.0 done.1

  pub is_refusal-write : (k : K) (v : V) (reply : Reply K V) → Defines eq start log contents capacity mode
      → IsReply eq start log (Write k v) reply → IsFalse (is_refusal reply.answer)
  is_refusal-write k v reply defines is = grind (arith, Replied-write, is_refusal-old_or)

  pub is_refusal-refresh : (k : K) (reply : Reply K V) → Defines eq start log contents capacity mode
      → IsReply eq start log (Refresh k) reply → IsFalse (is_refusal reply.answer)
  is_refusal-refresh k reply defines is = grind (arith, Replied-refresh)

  pub is_refusal-remove : (k : K) (reply : Reply K V) → Defines eq start log contents capacity mode
      → IsReply eq start log (Remove k) reply → IsFalse (is_refusal reply.answer)
  is_refusal-remove k reply defines is = grind (arith, Replied-remove, is_refusal-old_or)

  pub is_refusal-entry_remove : (k : K) (reply : Reply K V) → Defines eq start log contents capacity mode
      → IsReply eq start log (EntryRemove k) reply → IsFalse (is_refusal reply.answer)
  is_refusal-entry_remove k reply defines is = grind (arith, Replied-entry_remove, is_refusal-old_or)

  pub is_refusal-pop_front : (reply : Reply K V) → Defines eq start log contents capacity mode
      → IsReply eq start log PopFront reply → IsFalse (is_refusal reply.answer)
  is_refusal-pop_front reply defines is = grind (arith, Replied-pop_front, is_refusal-pair_or_empty)

  pub is_refusal-pop_back : (reply : Reply K V) → Defines eq start log contents capacity mode
      → IsReply eq start log PopBack reply → IsFalse (is_refusal reply.answer)
  is_refusal-pop_back reply defines is = grind (arith, Replied-pop_back, is_refusal-pair_or_empty)

  pub is_refusal-clear : (reply : Reply K V) → Defines eq start log contents capacity mode
      → IsReply eq start log Clear reply → IsFalse (is_refusal reply.answer)
  is_refusal-clear reply defines is = ap is_refusal (Replied-clear reply defines is).answer_is

  pub is_refusal-set_mode : (m : Mode) (reply : Reply K V) → Defines eq start log contents capacity mode
      → IsReply eq start log (SetMode m) reply → IsFalse (is_refusal reply.answer)
  is_refusal-set_mode m reply defines is = ap is_refusal (Replied-set_mode m reply defines is).answer_is
