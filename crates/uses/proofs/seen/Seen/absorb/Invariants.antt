use Rattle.std.proofs.Common.{nat_eq}
use Rattle.linked_hash_set.proofs.Callers.Unions.{IsUniting}
use Rattle.uses.proofs.seen.Seen.absorb.Given as goal

abbrev pub invariant-loop-id : goal.invariant-loop-id
invariant-loop-id l =
    IsUniting nat_eq l.fn.self.ids.items l.other.ids.items l.self.ids.items l.id-iterator
