use Rattle.lhm_ring.proofs.Names.{IsBucketCount, and_mask, ap, arith, bit_and, leads_to, length, length-map, subst, sym, ℕ, ◌%◌, ◌-◌, ◌∙◌}
use Rattle.lhm_ring.proofs.{Names.◌≡◌, indexes.BucketCounts.IsPowerOfTwo-count}
use Rattle.lhm_ring.proofs.index.Index.bucket_of.Goals as goal

pub returns-clause-of_hash : goal.returns-clause-of_hash
returns-clause-of_hash g c =
    let i = c.self.inside in
    let n = length c.args.self.now.heads in
    let long = length-map i.heads.items leads_to in
    let seen = ap (λ z. length z.heads) c.self.view_is in
    let many : i.count ≡ n = omega (arith, c.self.invariant.heads_count, long, seen) in
    let p = IsPowerOfTwo-count n c.requires (subst IsBucketCount many c.self.invariant.power) in
    let P : ℕ → Type 0 = λ m. bit_and c.args.hash (m - 1) ≡ c.args.hash % m in
    ap (λ m. bit_and c.args.hash (m - 1)) many ∙ subst P (sym p.1) (and_mask c.args.hash p.0)
