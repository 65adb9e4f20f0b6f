-- What commands return and leave if nothing is refused, in the words of single calls.
use Rattle.std.specs.Prelude.{ℕ, ◌+◌, ◌-◌, max, Bool, true, false, cond, nat_lt, List, [], ◌∷◌}
use Rattle.std.specs.Prelude.{map, take, drop, length, slice_get, Option, Some, None, is_some}
use Rattle.linked_hash_map.specs.declared.map.TheConstants.{LIMIT}
use Rattle.linked_hash_map.specs.declared.map.Mode.{Mode}
use Rattle.linked_hash_map.specs.Pairs.{find, value_at, without, to_back, set_value, put}
use Rattle.linked_hash_map.specs.Inserts.{insert_each}
use Rattle.linked_hash_map.specs.declared.replay.Command.{Command}
use Rattle.linked_hash_map.specs.declared.replay.Command.TheVariants.{Insert, Write, Refresh, Remove, PopFront, PopBack, Clear, Drain}
use Rattle.linked_hash_map.specs.declared.replay.Command.TheVariants.{Extend, OrInsert, EntryInsert, EntryRemove, Reserve, Shrink, SetMode}
use Rattle.linked_hash_map.specs.declared.replay.Answer.{Answer}
use Rattle.linked_hash_map.specs.declared.replay.Answer.TheVariants.{New, Old, Found, Missing, Absent, Refused, Pair, Empty, Pairs, Stopped}
use Rattle.linked_hash_map.specs.declared.replay.Answer.TheVariants.{Done, TooLarge, NoRoom}
use Rattle.linked_hash_map.specs.declared.replay.Reply.{Reply}

module _ {K V : Type 0} where
  -- whether the answer is a refusal of memory
  abbrev pub is_refusal : Answer K V → Bool
  is_refusal (Refused k v) = true
  is_refusal (Stopped n k v) = true
  is_refusal NoRoom = true
  is_refusal _ = false

  -- how many pairs of the command went in before its refusal, or None if the answer is no refusal
  abbrev pub refused_after : Answer K V → Option ℕ
  refused_after (Refused k v) = Some 0
  refused_after (Stopped n k v) = Some n
  refused_after NoRoom = Some 0
  refused_after _ = None

  -- which replies are refusals, and after how many pairs of their commands
  abbrev pub refusals : List (Reply K V) → List (Option ℕ)
  refusals replies = map (λ reply. refused_after reply.answer) replies

  -- the mode after a command
  abbrev pub mode_after : Mode → Command K V → Mode
  mode_after mode (SetMode m) = m
  mode_after mode _ = mode

  -- the old value if there is one, and the pair if there is one
  abbrev pub old_or : Answer K V → Option V → Answer K V
  old_or otherwise None = otherwise
  old_or otherwise (Some v) = Old v

  abbrev pub pair_or_empty : Option (K × V) → Answer K V
  pair_or_empty None = Empty
  pair_or_empty (Some pair) = Pair pair.0 pair.1

module _ {K V : Type 0} (eq : K → K → Bool) where
  -- the pairs, with that of k at the back if there is a value for it
  abbrev pub to_back_if_some : List (K × V) → K → Option V → List (K × V)
  to_back_if_some pairs k None = pairs
  to_back_if_some pairs k (Some v) = to_back eq pairs k v

  -- what a command returns on these pairs
  abbrev pub answer_to : List (K × V) → Command K V → Answer K V
  answer_to pairs (Insert k v) = old_or New (value_at eq pairs k)
  answer_to pairs (Write k v) = old_or (Absent k v) (value_at eq pairs k)
  answer_to pairs (Refresh k) = cond (is_some (find eq pairs k)) Found Missing
  answer_to pairs (Remove k) = old_or Missing (value_at eq pairs k)
  answer_to pairs PopFront = pair_or_empty (slice_get pairs 0)
  answer_to pairs PopBack = pair_or_empty (slice_get pairs (length pairs - 1))
  answer_to pairs Clear = Done
  answer_to pairs Drain = Pairs pairs
  answer_to pairs (Extend items) = Done
  answer_to pairs (OrInsert k v) = cond (is_some (find eq pairs k)) Found New
  answer_to pairs (EntryInsert k v) = old_or New (value_at eq pairs k)
  answer_to pairs (EntryRemove k) = old_or Missing (value_at eq pairs k)
  answer_to pairs (Reserve additional) =
      cond (nat_lt LIMIT (length pairs + additional)) TooLarge Done
  answer_to pairs Shrink = Done
  answer_to pairs (SetMode m) = Done

  -- the pairs after it, in a mode
  abbrev pub pairs_after : Mode → List (K × V) → Command K V → List (K × V)
  pairs_after mode pairs (Insert k v) = put eq mode pairs k v
  pairs_after mode pairs (Write k v) = set_value eq pairs k v
  pairs_after mode pairs (Refresh k) = to_back_if_some pairs k (value_at eq pairs k)
  pairs_after mode pairs (Remove k) = without eq pairs k
  pairs_after mode pairs PopFront = drop 1 pairs
  pairs_after mode pairs PopBack = take (length pairs - 1) pairs
  pairs_after mode pairs Clear = []
  pairs_after mode pairs Drain = []
  pairs_after mode pairs (Extend items) = insert_each eq mode pairs items
  pairs_after mode pairs (OrInsert k v) =
      cond (is_some (find eq pairs k)) pairs (to_back eq pairs k v)
  pairs_after mode pairs (EntryInsert k v) = put eq mode pairs k v
  pairs_after mode pairs (EntryRemove k) = without eq pairs k
  pairs_after mode pairs (Reserve additional) = pairs
  pairs_after mode pairs Shrink = pairs
  pairs_after mode pairs (SetMode m) = pairs

  -- and the capacity
  abbrev pub capacity_after : Mode → ℕ → List (K × V) → Command K V → ℕ
  capacity_after mode capacity pairs (Insert k v) = max capacity (length (put eq mode pairs k v))
  capacity_after mode capacity pairs (Extend items) =
      max capacity (length (insert_each eq mode pairs items))
  capacity_after mode capacity pairs (OrInsert k v) =
      max capacity (length (cond (is_some (find eq pairs k)) pairs (to_back eq pairs k v)))
  capacity_after mode capacity pairs (EntryInsert k v) =
      max capacity (length (put eq mode pairs k v))
  capacity_after mode capacity pairs (Reserve additional) =
      cond (nat_lt LIMIT (length pairs + additional)) capacity
      (max capacity (length pairs + additional))
  capacity_after mode capacity pairs Shrink = length pairs
  capacity_after mode capacity pairs _ = capacity

  -- the reply to it
  abbrev pub reply_to : Mode → ℕ → List (K × V) → Command K V → Reply K V
  reply_to mode capacity pairs command = record {
    answer = answer_to pairs command;
    len = length (pairs_after mode pairs command);
    capacity = capacity_after mode capacity pairs command;
  }

  -- after commands in turn: the replies and the pairs
  abbrev pub replies_to : Mode → ℕ → List (K × V) → List (Command K V) → List (Reply K V)
  replies_to mode capacity pairs [] = []
  replies_to mode capacity pairs (command ∷ commands) =
      reply_to mode capacity pairs command
      ∷ replies_to (mode_after mode command) (capacity_after mode capacity pairs command)
      (pairs_after mode pairs command) commands

  abbrev pub pairs_after_all : Mode → List (K × V) → List (Command K V) → List (K × V)
  pairs_after_all mode pairs [] = pairs
  pairs_after_all mode pairs (command ∷ commands) =
      pairs_after_all (mode_after mode command) (pairs_after mode pairs command) commands
