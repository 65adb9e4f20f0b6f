use Rattle.lhm_ring.proofs.Names.{T, arith, leb→le, subst, sym, ◌*◌, ◌+◌, ◌<◌, ◌^◌}
use Rattle.lhm_ring.proofs.memory.ChunkSizes.{AreSizes-measured}
use Rattle.lhm_ring.proofs.chunks.fits.Goals as goal

pub returns-in-Some : goal.returns-in-Some
returns-in-Some g c few =
    let low = leb→le _ _ (subst T (sym few) tt) in
    let all : c.args.count * c.size-node.result + c.size-head.result < 2 ^ 63 =
    omega (arith, c.in-Some.ensures, c.size-head.ensures, low) in
    AreSizes-measured _ _ c.args.count c.size-head.result c.size-unit.result c.size-node.result c.requires c.size-head.ensures
    c.size-unit.ensures c.size-node.ensures (c.divides.ensures c.if-not-divides.false)
    (c.divides-else-not-divides.ensures c.if-not-divides-2.false) all
