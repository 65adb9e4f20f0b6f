use Rattle.lhm_ring.proofs.Names.{bits_of, get_or, map, vec_capacity, vec_len, vec_ptr, ℕ, ◌-◌, ◌≡◌, ◌≤◌}
use Rattle.lhm_ring.proofs.bucket_parts.fill_words.Given as goal

abbrev pub invariant-words : goal.invariant-words
invariant-words l = record {
  empty : (b : ℕ) → get_or (map bits_of l.words.items) b 0 ≡ 0;
  few : vec_len l.words ≤ l.count;
  capacity : vec_capacity l.words ≡ vec_capacity l.fn.words;
  in_place : vec_ptr l.words ≡ vec_ptr l.fn.words;
}

abbrev pub decreases-words : goal.decreases-words
decreases-words l = l.count - vec_len l.words
