use Rattle.std.proofs.Common.{◌≡◌, ◌+◌, ◌*◌, ◌%◌, fold, take}
use Rattle.driver.proofs.hasher.KeyHasherHasher.write.Given as goal

-- the number of the bytes so far
abbrev pub invariant-loop-byte : goal.invariant-loop-byte
invariant-loop-byte l =
    l.number ≡ fold (λ number byte. number % 4294967296 * 31 + byte) l.initial.number (take l.byte-index l.bytes)
