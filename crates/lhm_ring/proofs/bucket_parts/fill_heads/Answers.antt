use Rattle.lhm_ring.proofs.Names.{Head, List, None, arith, get_or, leads_to, map, subst, sym, ℕ, ◌∙◌, ◌≡◌}
use Rattle.lhm_ring.proofs.indexes.BucketHeads.{get_or-pushed}
use Rattle.lhm_ring.proofs.bucket_parts.fill_heads.Goals as goal

pub heads-preserved : goal.heads-preserved
heads-preserved c = record {
  empty = subst (λ (xs : List Head). (b : ℕ) → get_or (map leads_to xs) b None ≡ None)
      (sym c.push_reserved.ensures.items) (get_or-pushed leads_to None c.heads.heads.items
      (record { link = c.none.result }) c.none.ensures c.heads.invariant.empty);
  few = omega (arith, c.push_reserved.ensures.len, c.len.ensures, c.heads-test.true);
  capacity = c.push_reserved.ensures.capacity ∙ c.heads.invariant.capacity;
  in_place = c.push_reserved.ensures.in_place ∙ c.heads.invariant.in_place;
}
