-- How many units a chunk takes, and how many bytes these have.
use Rattle.lhm_ring.proofs.Names.{add-mul, ap, arith, capped, capped_is, capped_small, le-mul_of_pos_right, lt_of_le_of_lt, mul-zero, ◌≤◌}
use Rattle.lhm_ring.proofs.Names.{mul_assoc, one_below, subst, suc, suc-mul, sym, zero, zero-mul, ℕ, ◌*◌, ◌+◌, ◌/◌, ◌<◌, ◌^◌, ◌∙◌, ◌≡◌}

-- so many units have the bytes of a head and n nodes
pub units-times : (u s n : ℕ) → 16 / u * u ≡ 16 → s / u * u ≡ s → (16 / u + n * (s / u)) * u ≡ 16 + n * s
units-times u s n head node = add-mul (16 / u) (n * (s / u)) u ∙ ap (λ (z : ℕ). z + n * (s / u) * u) head
    ∙ ap (λ (z : ℕ). 16 + z) (mul_assoc n (s / u) u ∙ ap (λ (z : ℕ). n * z) node)

pub factor-small : (x y k : ℕ) → x * y ≡ k → 0 < k → y ≤ k
factor-small zero y k e some = let z = zero-mul y in omega (arith, e, some)
factor-small (suc x) y k e some = let z = suc-mul x y in omega (arith, e)

pub factor-some : (x y k : ℕ) → x * y ≡ k → 0 < k → 0 < y
factor-some zero y k e some = let z = zero-mul y in omega (arith, e, some)
factor-some (suc x) zero k e some = let z = mul-zero (suc x) in omega (arith, z, e, some)
factor-some (suc x) (suc y) k e some = omega arith

capped-small : (k : ℕ) → k < 2 ^ 63 → capped k ≡ k
capped-small k h = capped_is k (omega (arith, h))

-- sizes that are measured, which are at most `usize::MAX`, are those of a chunk
abbrev pub AreSizes : ℕ → ℕ → ℕ → Type 0
AreSizes u s n = (0 < n) × (16 / u * u ≡ 16) × (s / u * u ≡ s) × ((16 / u + n * (s / u)) * u < 2 ^ 63)

module _ (u s n h v t : ℕ) (some : 0 < n) (h-is : h ≡ 16) (v-is : v ≡ capped u) (t-is : t ≡ capped s) where
  pub AreSizes-measured : h / v * v ≡ h → t / v * v ≡ t → n * t + h < 2 ^ 63 → AreSizes u s n
  AreSizes-measured head node fits =
      let head' : 16 / v * v ≡ 16 = subst (λ (k : ℕ). k / v * v ≡ k) h-is head in
      let few = factor-small (16 / v) v 16 head' (omega arith) in
      let u-is : v ≡ u = v-is ∙ capped-small u (capped_small u (omega (arith, few, v-is))) in
      let less : n * t < 2 ^ 63 = omega (arith, fits) in
      let low = one_below n t (2 ^ 63) some less in
      let s-is : t ≡ s = t-is ∙ capped-small s (capped_small s (omega (arith, low, t-is))) in
      let first : 16 / u * u ≡ 16 = subst (λ (k : ℕ). 16 / k * k ≡ 16) u-is head' in
      let second : s / u * u ≡ s = subst (λ (k : ℕ). s / k * k ≡ s) u-is (subst (λ (k : ℕ). k / v * v ≡ k) s-is node) in
      let whole : 16 + n * s < 2 ^ 63 = subst (λ (k : ℕ). 16 + n * k < 2 ^ 63) s-is (omega (arith, fits, h-is)) in
      (some, first, second, subst (λ (k : ℕ). k < 2 ^ 63) (sym (units-times u s n first second)) whole)

  module _ (are : AreSizes u s n) where
    unit-is : v ≡ u
    unit-is =
        let few = factor-small (16 / u) u 16 are.1 (omega arith) in
        v-is ∙ capped-small u (omega (arith, few))

    node-is : t ≡ s
    node-is =
        let whole : 16 + n * s < 2 ^ 63 = subst (λ (k : ℕ). k < 2 ^ 63) (units-times u s n are.1 are.2) are.3 in
        t-is ∙ capped-small s (one_below n s (2 ^ 63) some (omega (arith, whole)))

    pub node-units : n * (t / v) ≡ n * (s / u)
    node-units = ap (λ (k : ℕ). n * (k / v)) node-is ∙ ap (λ (k : ℕ). n * (s / k)) unit-is

    pub all-units : h / v + n * (t / v) ≡ 16 / u + n * (s / u)
    all-units = ap (λ (k : ℕ). k / v + n * (t / v)) h-is ∙ ap (λ (k : ℕ). 16 / k + n * (t / v)) unit-is
        ∙ ap (λ (k : ℕ). 16 / u + k) node-units

    pub few-units : h / v + n * (t / v) < 2 ^ 63
    few-units =
        let x : ℕ = 16 / u + n * (s / u) in
        let more : x ≤ x * u = le-mul_of_pos_right x (factor-some (16 / u) u 16 are.1 (omega arith)) in
        subst (λ (k : ℕ). k < 2 ^ 63) (sym all-units) (lt_of_le_of_lt more are.3)
