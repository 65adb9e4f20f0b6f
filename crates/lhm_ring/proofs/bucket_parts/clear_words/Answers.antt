use Rattle.lhm_ring.proofs.Names.{arith, bits_of, length-map, map, refl}
use Rattle.lhm_ring.proofs.indexes.BucketHeads.{get_or-cleared, get_or-everywhere}
use Rattle.lhm_ring.proofs.bucket_parts.clear_words.Goals as goal

pub words-preserved : goal.words-preserved
words-preserved c = record {
  cleared = get_or-cleared bits_of 0 c.words.words.items c.words.next (record { bits = 0 }) refl c.words.invariant.cleared;
  buckets = c.words.invariant.buckets;
  capacity = c.words.invariant.capacity;
  in_place = c.words.invariant.in_place;
}

pub returns-clause-empty : goal.returns-clause-empty
returns-clause-empty c =
    get_or-everywhere 0 (map bits_of c.words.words.items)
    (λ b l. c.words.invariant.cleared b (omega (arith, l, length-map c.words.words.items bits_of, c.len.ensures, c.words-test.false)))
