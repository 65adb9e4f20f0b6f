use Rattle.std.proofs.Common.{◌≡◌, ℕ, ◌+◌, nat_lt, cond, fold, slice_set, take}
use Rattle.tests.specs.declared.tests.support.hashers.Written.{Written}
use Rattle.tests.proofs.tests.support.hashers.WrittenHasher.write.Given as goal

-- the bytes so far were pushed
abbrev pub invariant-loop-byte : goal.invariant-loop-byte
invariant-loop-byte l =
    let pushed : Written → ℕ → Written = λ state byte. record { bytes = slice_set state.bytes state.len byte; len = state.len + 1 } in
    let push : Written → ℕ → Written = λ state byte. cond (nat_lt state.len 32) (pushed state byte) state in
    l.self ≡ fold push l.initial.self (take l.byte-index l.bytes)
