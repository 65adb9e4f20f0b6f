-- What came of runs of commands.
use Rattle.std.specs.Prelude.{◌≡◌, Bool, List, Result, IsOkAnd, IsFalse}
use Rattle.std.specs.Global.{Vec}
use Rattle.std.specs.List.{list_any}
use Rattle.linked_hash_map.specs.Commands.{is_refusal, refusals}
use Rattle.linked_hash_map.specs.LinkedMap.{LinkedMap}
use Rattle.linked_hash_map.specs.Log.{Log}
use Rattle.linked_hash_map.specs.Run.{first_log, last_log}
use Rattle.linked_hash_map.specs.declared.replay.Command.{Command}
use Rattle.linked_hash_map.specs.declared.replay.Reply.{Reply}

-- no reply is a refusal
abbrev pub NoneIsRefusal : {K V : Type 0} → List (Reply K V) → Type 0
NoneIsRefusal replies = IsFalse (list_any (λ reply. is_refusal reply.answer) replies)

-- a run gave replies, and none is a refusal
abbrev pub RefusesNothing : {K V E : Type 0} → Result (Vec (Reply K V)) E → Type 0
RefusesNothing run = IsOkAnd run (λ replies. NoneIsRefusal replies.items)

-- two runs gave replies, and these are refusals in the same places: an extension is refused in both
-- after the same number of pairs
abbrev pub RefuseAlike : {K V E : Type 0} → Result (Vec (Reply K V)) E
    → Result (Vec (Reply K V)) E → Type 0
RefuseAlike run other = IsOkAnd run (λ replies. IsOkAnd other (λ others.
    refusals replies.items ≡ refusals others.items))

-- the log that a run of commands on a map ends with
abbrev pub log_of : {K V S : Type 0} → (K → K → Bool) → LinkedMap K V S → List (Command K V)
    → List (Reply K V) → Log K V
log_of eq map commands replies = last_log eq (first_log map.mode map.pairs) commands replies
