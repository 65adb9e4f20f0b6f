use Rattle.lhm_ring.proofs.Names.{ap, arith, length, sym, ◌∙◌}
use Rattle.lhm_ring.proofs.memory.Places.{IsChain-comparable, IsChain-first, IsChain-null, IsChain-rest}
use Rattle.lhm_ring.proofs.chunks.free_chunks.Goals as goal

pub is_null-requires : goal.is_null-requires
is_null-requires g c = IsChain-comparable _ _ c.each.invariant.chain

pub pop_chunk-block-requires-clause-chunk : goal.pop_chunk-block-requires-clause-chunk
pop_chunk-block-requires-clause-chunk g c =
    let first = IsChain-first _ _ c.each.invariant.chain (sym c.is_null.ensures ∙ c.each-test.true) in
    (c.each.invariant.cells, (first.next, first.count, first.rest, first.is))

pub each-preserved : goal.each-preserved
each-preserved g c = record {
  cells = c.pop_chunk-block.ensures.cells;
  chain = IsChain-rest _ _ _ _ c.each.invariant.chain c.pop_chunk-block.ensures.chunks;
}

pub each-smaller : goal.each-smaller
each-smaller g c = omega (arith, ap length c.pop_chunk-block.ensures.chunks)

pub returns : goal.returns
returns g c = record {
  cells = c.each.invariant.cells;
  chunks = IsChain-null _ _ c.each.invariant.chain (sym c.is_null.ensures ∙ c.each-test.false);
}
