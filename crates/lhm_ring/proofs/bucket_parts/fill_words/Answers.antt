use Rattle.lhm_ring.proofs.Names.{List, Word, arith, bits_of, get_or, map, refl, subst, sym, ℕ, ◌∙◌, ◌≡◌}
use Rattle.lhm_ring.proofs.indexes.BucketHeads.{get_or-pushed}
use Rattle.lhm_ring.proofs.bucket_parts.fill_words.Goals as goal

pub words-preserved : goal.words-preserved
words-preserved c = record {
  empty = subst (λ (xs : List Word). (b : ℕ) → get_or (map bits_of xs) b 0 ≡ 0)
      (sym c.push_reserved.ensures.items) (get_or-pushed bits_of 0 c.words.words.items (record { bits = 0 }) refl c.words.invariant.empty);
  few = omega (arith, c.push_reserved.ensures.len, c.len.ensures, c.words-test.true);
  capacity = c.push_reserved.ensures.capacity ∙ c.words.invariant.capacity;
  in_place = c.push_reserved.ensures.in_place ∙ c.words.invariant.in_place;
}
