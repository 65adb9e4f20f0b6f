use Rattle.lhm_ring.proofs.Names.{None, get_or, leads_to, map, vec_capacity, vec_len, vec_ptr, ℕ, ◌-◌, ◌≡◌, ◌≤◌}
use Rattle.lhm_ring.proofs.bucket_parts.fill_heads.Given as goal

abbrev pub invariant-heads : goal.invariant-heads
invariant-heads l = record {
  empty : (b : ℕ) → get_or (map leads_to l.heads.items) b None ≡ None;
  few : vec_len l.heads ≤ l.count;
  capacity : vec_capacity l.heads ≡ vec_capacity l.fn.heads;
  in_place : vec_ptr l.heads ≡ vec_ptr l.fn.heads;
}

abbrev pub decreases-heads : goal.decreases-heads
decreases-heads l = l.count - vec_len l.heads
