use Rattle.lhm_ring.proofs.Names.{CalledAtPair, ap}
use Rattle.lhm_ring.proofs.tables.Retained.{IsHeld-written, RetainsAt-kept, RetainsAt-removed}
use Rattle.lhm_ring.proofs.table.Table.retain_at.Goals as goal

pub remove_at-requires : goal.remove_at-requires
remove_at-requires g c =
    let called = c.call_at.ensures.called in
    IsHeld-written called.value c.call_at.ensures.alone (ap (λ s. s.held) called.new_is) c.requires.held

pub returns-then-not-call_at-clause-retained : goal.returns-then-not-call_at-clause-retained
returns-then-not-call_at-clause-retained g c =
    let called = c.call_at.ensures.called in
    RetainsAt-removed (CalledAtPair g.F.FnMut) called.at_pair c.call_at.ensures.alone
    (ap (λ s. s.held) called.new_is) c.if-not-call_at.true c.remove_at.ensures.others

pub returns-else-not-call_at-clause-retained : goal.returns-else-not-call_at-clause-retained
returns-else-not-call_at-clause-retained g c =
    let called = c.call_at.ensures.called in
    RetainsAt-kept (CalledAtPair g.F.FnMut) called.at_pair c.call_at.ensures.alone (ap (λ s. s.held) called.new_is) c.if-not-call_at.false
