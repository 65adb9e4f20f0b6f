use Rattle.lhm_ring.proofs.Names.{Chunk, IsOwned, ap, arith, chunk, contents, holders, length, max, refl, ring_cells, subst, sym, ◌+◌, ◌<◌}
use Rattle.lhm_ring.proofs.rings.Stacking.{IsOwned-raised, IsOwned-stacked, contents-stacked}
use Rattle.lhm_ring.proofs.rings.{Contents.pointers_of, Insides.counts-seen, NodesGrown.nodes_grown-fewer}
use Rattle.lhm_ring.proofs.{Names.◌∙◌, Names.◌≡◌, memory.Places.IsLaid-grown, memory.Places.length-made}
use Rattle.lhm_ring.proofs.ring.Ring.grow_by.Goals as goal

pub overflow_sub-missing : goal.overflow_sub-missing
overflow_sub-missing g c =
    let seen = counts-seen c.self.inside c.self.invariant c.self.view_is in
    let lacks = c.requires.missing in let few = c.if-self-count.false in let small = c.self.invariant.ring.bounded in omega arith

pub new_chunk-requires-clause-some : goal.new_chunk-requires-clause-some
new_chunk-requires-clause-some g c =
    let seen = counts-seen c.self.inside c.self.invariant c.self.view_is in let places = c.max-places.ensures in
    let lacks = c.requires.missing in let few = c.if-self-count.false in let small = c.self.invariant.ring.bounded in omega arith

pub overflow_add-self-2 : goal.overflow_add-self-2
overflow_add-self-2 g c =
    let seen = counts-seen c.self.inside c.self.invariant c.self.view_is in let places = c.max-places.ensures in
    let lacks = c.requires.missing in let few = c.if-self-count.false in let small = c.self.invariant.ring.bounded in
    let least = c.requires.small in omega arith

pub invariant_of-self-2 : goal.invariant_of-self-2
invariant_of-self-2 g c =
    let i = c.self.inside in let ds = c.make_spares-self-inside.new.nodes in let first = c.make_spares-self-inside.result in
    let one : Chunk = chunk c.in_ok-chunk.chunk.ptr i.chunks.ptr c.max-places.result in
    let ok = subst (λ zs. IsOwned (ring_cells i.ends zs) (holders i.nodes.cells) i.spare i.len i.spares)
    (sym c.new_chunk.ensures.cells) c.self.invariant.ring in
    let stacked = IsOwned-stacked i.ends c.new_chunk.new.nodes.cells ds.cells first _ ok
    c.make_spares-self-inside.ensures.stacked ds.apart ds.blocks in
    let same = contents-stacked _ c.new_chunk.new.nodes.cells i.spare c.make_spares-self-inside.new.nodes.cells _
    c.make_spares-self-inside.ensures.stacked ∙ ap contents c.new_chunk.ensures.cells in
    let ring = subst (λ qs. IsOwned (ring_cells i.ends ds.cells) qs first i.len i.spares) (sym (ap pointers_of same)) stacked in
    let more = c.make_spares-self-inside.ensures.chunks ∙ c.in_ok-chunk.ensures.chunks in
    let laid = IsLaid-grown one c.self.invariant.laid c.make_spares-self-inside.ensures.unused more refl c.in_ok-chunk.ensures.block in
    let made = length-made ds.cells ds.unused ds.node_bytes ds.chunks ds.laid laid.none_unused ∙ sym laid.all_made in
    let few = c.if-self-count.false in let small = c.self.invariant.ring.bounded in let places = c.max-places.ensures in
    record {
      ring = IsOwned-raised ring (i.spares + c.args.count) (omega arith) (omega arith);
      laid = laid;
    }

pub returns-clause-held : goal.returns-clause-held
returns-clause-held g c =
    let i = c.self.inside in
    contents-stacked _ c.new_chunk.new.nodes.cells i.spare c.make_spares-self-inside.new.nodes.cells _
    c.make_spares-self-inside.ensures.stacked ∙ ap contents c.new_chunk.ensures.cells ∙ ap (λ z. z.held) c.self.view_is

pub returns-clause-nodes : goal.returns-clause-nodes
returns-clause-nodes g c =
    let old = c.args.self.now in let seen = counts-seen c.self.inside c.self.invariant c.self.view_is in
    let lacks = c.requires.missing in let few = c.if-self-count.false in let small = c.self.invariant.ring.bounded in
    let needed = length old.held + old.spares + c.args.count in let places = c.max-places.ensures in
    let fewer : old.nodes < needed = omega arith in
    let more : c.self.inside.made + c.max-places.result ≡ max needed (old.nodes + c.args.least) = omega arith in
    more ∙ sym (nodes_grown-fewer old.nodes needed c.args.least fewer)
