-- For callers: all that is known of a run whose commands are never refused, and of two runs of the
-- same commands on maps with the same pairs, at once.
use Rattle.std.proofs.Common.{◌≡◌, Bool, true, Result, IfOk, IsOkAnd, Vec, Global, List, map}
use Rattle.std.specs.{List.list_all, Cmp.IsEquivalence}
use Rattle.linked_hash_map.specs.{LinkedMap.LinkedMap, Validity.IsValid, Run.Replayed, Commands.refusals, Commands.replies_to}
use Rattle.linked_hash_map.specs.{Commands.pairs_after_all, declared.replay.Command.Command, declared.replay.Reply.Reply}
use Rattle.linked_hash_map.proofs.Callers.WholeRuns.{NoneRefused, never_refused, same_runs, same_refusals, pairs-replayed_never_refused}
use Rattle.linked_hash_map.proofs.Callers.WholeRuns.{replies-replayed_never_refused}

-- the pairs and the replies of a run of these commands, each of which is never refused
pub replayed_never_refused : {K V S : Type 0} {eq : K → K → Bool} → IsEquivalence eq → {old new : LinkedMap K V S}
    → {commands : List (Command K V)} {replies : List (Reply K V)} (these : List (Command K V)) → IsValid eq old
    → Replayed eq old commands replies new → commands ≡ these → list_all never_refused these ≡ true
    → (new.pairs ≡ pairs_after_all eq old.mode old.pairs these) × (replies ≡ replies_to eq old.mode old.capacity old.pairs these)
replayed_never_refused laws these valid replayed are never = (
  pairs-replayed_never_refused laws these valid replayed are never,
  replies-replayed_never_refused laws these valid replayed are never,
)

-- two runs gave replies, and these are refusals in the same places
abbrev pub refused_alike : {K V E : Type 0} → Result (Vec (Reply K V) Global) E → Result (Vec (Reply K V) Global) E → Type 0
refused_alike run run' = IsOkAnd run (λ replies. IsOkAnd run' (λ replies'. refusals replies.items ≡ refusals replies'.items))

module _ {K V S T E : Type 0} {eq : K → K → Bool} (laws : IsEquivalence eq) (old new : LinkedMap K V S)
    (old' new' : LinkedMap K V T) {commands copies : List (Command K V)} where
  -- what two runs have alike if they are refused alike, and that they are if neither is refused
  pub runs_alike : (run run' : Result (Vec (Reply K V) Global) E)
      → old.pairs ≡ old'.pairs → old.mode ≡ old'.mode → commands ≡ copies
      → IfOk run (λ replies. Replayed eq old commands replies.items new)
      → IfOk run' (λ replies. Replayed eq old' copies replies.items new')
      → (refused_alike run run' → IfOk run (λ replies. IfOk run' (λ replies'.
      map (λ reply. reply.answer) replies.items ≡ map (λ reply. reply.answer) replies'.items)))
      × (refused_alike run run' → new.pairs ≡ new'.pairs)
      × (refused_alike run run' → old.capacity ≡ old'.capacity → new.capacity ≡ new'.capacity)
      × (IsOkAnd run (λ replies. NoneRefused replies.items) → IsOkAnd run' (λ replies. NoneRefused replies.items)
      → refused_alike run run')
  runs_alike run run' same mode copied replayed replayed' = (
    λ alike. (same_runs laws old new old' new' run run' same mode copied replayed replayed' alike).0,
    λ alike. (same_runs laws old new old' new' run run' same mode copied replayed replayed' alike).1,
    λ alike. (same_runs laws old new old' new' run run' same mode copied replayed replayed' alike).2,
    same_refusals laws old new old' new' run run' copied replayed replayed',
  )
