-- The text of the output.
use Rattle.std.specs.Prelude.{ℕ, List, [], ◌∷◌, ◌++◌, codes, decimal, flat_map}
use Rattle.linked_hash_map.specs.declared.replay.Answer.{Answer}
use Rattle.linked_hash_map.specs.declared.replay.Answer.TheVariants.{New, Old, Found, Missing, Absent, Refused, Pair, Empty}
use Rattle.linked_hash_map.specs.declared.replay.Answer.TheVariants.{Pairs, Stopped, Done, TooLarge, NoRoom}
use Rattle.linked_hash_map.specs.declared.replay.Reply.{Reply}

-- a word, a key and a value
abbrev pub keyed_text : List ℕ → ℕ → ℕ → List ℕ
keyed_text word k v = word ++ codes " " ++ decimal k ++ codes " " ++ decimal v

-- one pair of a list
abbrev pub pair_text : (ℕ × ℕ) → List ℕ
pair_text pair = codes " " ++ decimal pair.0 ++ codes ":" ++ decimal pair.1

-- an answer
abbrev pub answer_text : Answer ℕ ℕ → List ℕ
answer_text New = codes "new"
answer_text (Old v) = codes "old " ++ decimal v
answer_text Found = codes "found"
answer_text Missing = codes "missing"
answer_text (Absent k v) = keyed_text (codes "absent") k v
answer_text (Refused k v) = keyed_text (codes "refused") k v
answer_text (Pair k v) = keyed_text (codes "pair") k v
answer_text Empty = codes "empty"
answer_text (Pairs pairs) = codes "pairs" ++ flat_map pair_text pairs
answer_text (Stopped n k v) = keyed_text (codes "stopped " ++ decimal n) k v
answer_text Done = codes "done"
answer_text TooLarge = codes "toolarge"
answer_text NoRoom = codes "noroom"

-- the line of a reply
abbrev pub reply_text : Reply ℕ ℕ → List ℕ
reply_text reply =
    answer_text reply.answer ++ codes " len=" ++ decimal reply.len ++ codes " cap="
    ++ decimal reply.capacity ++ 10 ∷ []

-- the line of the final list
abbrev pub list_text : List (ℕ × ℕ) → List ℕ
list_text pairs = codes "list" ++ flat_map pair_text pairs ++ 10 ∷ []
