use Rattle.lhm_ring.proofs.Names.{ap, arith, leads_to, length, length-map, pow_pos, sym, ◌<◌, ◌∙◌, ◌≡◌}
use Rattle.lhm_ring.proofs.indexes.BlockSizes.{block_heads-few}
use Rattle.lhm_ring.proofs.index.Index.make_empty.Goals as goal

pub in_block-requires-clause-block : goal.in_block-requires-clause-block
in_block-requires-clause-block g c =
    let i = c.heads_ptr.inside in
    let long = length-map i.heads.items leads_to in
    let seen = ap (λ z. length z.heads) (c.heads_ptr.view_is ∙ c.replace-2.ensures.value) in
    let many : i.dealloc.count ≡ length c.args.self.now.heads =
    omega (arith, c.heads_ptr.invariant.dealloc_count, c.heads_ptr.invariant.heads_count, long, seen) in
    let old = block_heads-few i.dealloc.count (omega (arith, many, c.requires.some)) (omega (arith, many, c.requires.within)) in
    let some : 0 < c.args.count = omega (arith, c.requires.power.1, pow_pos c.requires.power.0) in
    c.join_block-block.ensures ∙ old ∙ sym (block_heads-few c.args.count some c.requires.few)
