use Rattle.lhm_ring.proofs.Names.{InBlock, ap, is_some, led_to, subst, sym}
use Rattle.lhm_ring.proofs.indexes.BucketHeads.{Testable-null_or_block, led_to-in_block}
use Rattle.lhm_ring.proofs.pointer.Link.get.Goals as goal

pub new-requires : goal.new-requires
new-requires g c = Testable-null_or_block c.args.self.ptr c.args.self.comparable

pub position-requires : goal.position-requires
position-requires g c =
    ap is_some (led_to-in_block c.args.self.ptr (subst InBlock c.in-Some.ensures.value c.in-Some.ensures.non_null))

pub returns-in-None : goal.returns-in-None
returns-in-None g c = ap led_to (sym c.in-None.ensures.null)
