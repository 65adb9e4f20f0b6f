use Rattle.lhm_ring.proofs.{Names.arith, memory.ChunkSizes.all-units, memory.ChunkSizes.few-units}
use Rattle.lhm_ring.proofs.chunks.units.Goals as goal

pub overflow_mul-result : goal.overflow_mul-result
overflow_mul-result g c =
    let few = few-units _ _ c.args.count c.size.result c.size-unit.result c.size-2.result c.requires.0 c.size.ensures c.size-unit.ensures
    c.size-2.ensures c.requires in omega (arith, few)

pub overflow_add-result : goal.overflow_add-result
overflow_add-result g c =
    let few = few-units _ _ c.args.count c.size.result c.size-unit.result c.size-2.result c.requires.0 c.size.ensures c.size-unit.ensures
    c.size-2.ensures c.requires in omega (arith, few)

pub returns : goal.returns
returns g c = all-units _ _ c.args.count c.size.result c.size-unit.result c.size-2.result c.requires.0 c.size.ensures c.size-unit.ensures
    c.size-2.ensures c.requires
