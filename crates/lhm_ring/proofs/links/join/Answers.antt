use Rattle.lhm_ring.proofs.{Names.◌∙◌, rings.Writes.IsJoined-writes, rings.Writes.is_there-leading_on}
use Rattle.lhm_ring.proofs.links.join.Goals as goal

pub set_prev-requires : goal.set_prev-requires
set_prev-requires g c = is_there-leading_on _ c.args.a.ptr c.args.b c.requires.0 c.set_next.ensures.written c.args.b.ptr c.requires.1

pub returns : goal.returns
returns g c = record {
  joined = IsJoined-writes c.args.a c.args.b c.requires.0 c.requires.1 c.set_next.ensures.written c.set_prev.ensures.written;
  land = (c.set_prev.ensures.land.0 ∙ c.set_next.ensures.land.0, c.set_prev.ensures.land.1 ∙ c.set_next.ensures.land.1);
}
