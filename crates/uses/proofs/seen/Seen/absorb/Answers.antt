use Rattle.std.specs.Cmp.{nat_eq_equiv}
use Rattle.linked_hash_set.proofs.Callers.Unions.{IsUniting-more}
use Rattle.uses.proofs.seen.Seen.absorb.Goals as goal

pub loop-id-preserved : goal.loop-id-preserved
loop-id-preserved c = IsUniting-more nat_eq_equiv c.loop-id.invariant c.in-Some.ensures.steps
    c.in_ok-insert_if_absent.ensures.items
