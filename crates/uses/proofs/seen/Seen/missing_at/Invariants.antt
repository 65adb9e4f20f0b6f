use Rattle.std.proofs.Common.{◌≡◌, ◌++◌, nat_eq}
use Rattle.linked_hash_set.specs.Operations.{difference}
use Rattle.uses.proofs.seen.Seen.missing_at.Given as goal

abbrev pub invariant-loop-id : goal.invariant-loop-id
invariant-loop-id l =
    l.ids.items ++ l.id-iterator ≡ difference nat_eq l.self.ids.items l.other.ids.items
