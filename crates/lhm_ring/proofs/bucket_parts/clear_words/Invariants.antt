use Rattle.lhm_ring.proofs.Names.{bits_of, get_or, map, vec_capacity, vec_len, vec_ptr, ℕ, ◌-◌, ◌<◌, ◌≡◌}
use Rattle.lhm_ring.proofs.bucket_parts.clear_words.Given as goal

abbrev pub invariant-words : goal.invariant-words
invariant-words l = record {
  cleared : (b : ℕ) → b < l.next → get_or (map bits_of l.words.items) b 0 ≡ 0;
  buckets : vec_len l.words ≡ vec_len l.fn.words;
  capacity : vec_capacity l.words ≡ vec_capacity l.fn.words;
  in_place : vec_ptr l.words ≡ vec_ptr l.fn.words;
}

abbrev pub decreases-words : goal.decreases-words
decreases-words l = vec_len l.words - l.next
