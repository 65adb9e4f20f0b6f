use Rattle.std.proofs.Common.{◌≡◌, ◌+◌, ◌*◌, ◌/◌, fold, take}
use Rattle.tests.proofs.tests.support.hashers.MultipleHasher.write.Given as goal

-- the number of the bytes so far
abbrev pub invariant-loop-byte : goal.invariant-loop-byte
invariant-loop-byte l =
    l.last ≡ fold (λ number byte. number / 256 + byte * 72057594037927936) l.initial.last (take l.byte-index l.bytes)
