use Rattle.lhm_ring.proofs.Names.{[], ap, arith, pointer_of_some, refl, ◌∙◌}
use Rattle.lhm_ring.proofs.indexes.IndexPuts.{IsHeld-rehashing, IsRehashing-step, count-rehashing, length-rehashing}
use Rattle.lhm_ring.proofs.indexes.WholeBuckets.{Indexes-none}
use Rattle.lhm_ring.proofs.index.Index.put_in_all.Goals as goal

pub loop-pointer-init : goal.loop-pointer-init
loop-pointer-init g c = record {
  rehashing = record {
    done = [];
    rest = c.args.ring.now.held;
    is = refl;
    indexed = Indexes-none c.args.self.now c.requires.empty c.requires.words;
    pointer_is = c.first-pointer.ensures;
    count_is = refl;
    kept = refl;
    buckets_is = refl;
  };
  spares = refl;
  nodes = refl;
}

pub next-pointer-requires : goal.next-pointer-requires
next-pointer-requires g c = IsHeld-rehashing c.loop-pointer.invariant.rehashing (ap pointer_of_some c.in-Some.is)

pub links-requires : goal.links-requires
links-requires g c = IsHeld-rehashing c.loop-pointer.invariant.rehashing (ap pointer_of_some c.in-Some.is)

pub put_in_by_hash-requires-clause-held : goal.put_in_by_hash-requires-clause-held
put_in_by_hash-requires-clause-held g c = IsHeld-rehashing c.loop-pointer.invariant.rehashing (ap pointer_of_some c.in-Some.is)

pub overflow_add-count : goal.overflow_add-count
overflow_add-count g c =
    omega (arith, count-rehashing c.loop-pointer.invariant.rehashing (ap pointer_of_some c.in-Some.is), c.requires.small)

pub loop-pointer-smaller : goal.loop-pointer-smaller
loop-pointer-smaller g c = omega (arith, count-rehashing c.loop-pointer.invariant.rehashing (ap pointer_of_some c.in-Some.is))

pub loop-pointer-preserved : goal.loop-pointer-preserved
loop-pointer-preserved g c =
    let i = c.loop-pointer.invariant in
    let at = ap pointer_of_some c.in-Some.is in
    record {
      rehashing = IsRehashing-step i.rehashing at c.put_in_by_hash.new.self c.put_in_by_hash.new.ring.held
          (pointer_of_some c.next-pointer.result) (length-rehashing i.rehashing at c.requires.some)
          c.put_in_by_hash.ensures.first c.next-pointer.ensures.next;
      spares = c.put_in_by_hash.ensures.links.spares ∙ i.spares;
      nodes = c.put_in_by_hash.ensures.links.nodes ∙ i.nodes;
    }
