use Rattle.lhm_ring.proofs.Names.{InBlock, ap, is_null, subst, sym}
use Rattle.lhm_ring.proofs.{indexes.BucketHeads.Testable-null_or_block, memory.Places.is_null-in_block}
use Rattle.lhm_ring.proofs.pointer.NodePointer.is_null.Goals as goal

pub new-requires : goal.new-requires
new-requires c = Testable-null_or_block c.args.self.ptr c.requires

pub returns-in-Some : goal.returns-in-Some
returns-in-Some c = sym (is_null-in_block c.args.self.ptr (subst InBlock c.in-Some.ensures.value c.in-Some.ensures.non_null))

pub returns-in-None : goal.returns-in-None
returns-in-None c = ap is_null (sym c.in-None.ensures.null)
