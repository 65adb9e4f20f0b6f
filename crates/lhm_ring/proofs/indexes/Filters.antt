-- Filters: bits that are set and cleared, and the spots that they cover.
use Rattle.lhm_ring.proofs.Names.{Bool, CoversAll, Held, LacksKey, List, PutsIn, SetsBit, Spot, Word, ap, arith, bit_at, bit_or, bits_of}
use Rattle.lhm_ring.proofs.Names.{cases_eq, cond, count_by, entries, eq-eqb, eqb, eqb-false, false, get_or, get_or-map, get_or-set_other}
use Rattle.lhm_ring.proofs.Names.{get_or-set_same, inl, inr, is_in, length, length-map, length-set, map, map-set, may_contain, not, set}
use Rattle.lhm_ring.proofs.Names.{spot, spots, sym, true, w16, ℕ, ◌%◌, ◌*◌, ◌++◌, ◌+◌, ◌/◌, ◌<◌, ◌^◌, ◌∙◌, ◌≡◌, ◌≢◌}
use Rattle.lhm_ring.proofs.indexes.{Entries.count_by-entries, Spots.PutsIn-spots_of}
use Rattle.lhm_ring.proofs.lists.RearrangedCounts.{count_by-cons, count_by-none}
use Rattle.std.proofs.lemmas.Nat.Bits.{bit_at_set_other, bit_at_set_same}

-- the bit of the hash in a word
abbrev has_bit : ℕ → ℕ → Bool
has_bit word hash = eqb (bit_at word (hash / 2 ^ 60)) 1

-- one word is written
module _ (words : List ℕ) (b word hash : ℕ) where
  may_contain-set_same : hash % length words ≡ b → b < length words → may_contain (set words b word) hash ≡ has_bit word hash
  may_contain-set_same e l = grind (arith, length-set, get_or-set_same)

  pub may_contain-set_other : hash % length words ≢ b → may_contain (set words b word) hash ≡ may_contain words hash
  may_contain-set_other other = grind (arith, length-set, get_or-set_other)

-- the bit of a hash is set in the words that the buckets have
pub SetsBit-written : (items : List Word) (bucket hash : ℕ) {old : Word} → bucket ≡ hash % length (map bits_of items)
    → bucket < length (map bits_of items) → hash / 2 ^ 60 < 16 → old ≡ get_or items bucket old
    → SetsBit (map bits_of items)
    (map bits_of (set items bucket (record { bits = bit_or old.bits (1 * 2 ^ (hash / 2 ^ 60) % 2 ^ 16) }))) hash
SetsBit-written items bucket hash {old} is inside small read =
    let words : List ℕ = map bits_of items in
    let long = length-map items bits_of in
    let bits : old.bits ≡ get_or words bucket 0 = ap bits_of read ∙ sym (get_or-map bits_of items bucket old 0 (omega (arith, inside))) in
    rw (map-set bits_of items bucket _, bits) (record {
      set = may_contain-set_same words bucket _ hash (sym is) inside
          ∙ eq-eqb _ 1 (bit_at_set_same w16 (get_or words bucket 0) (hash / 2 ^ 60) small);
      others = λ other apart.
          elim (cases_eq (other % length words) bucket) [
            | inr away ↦ may_contain-set_other words bucket _ other away
            | inl here ↦
                may_contain-set_same words bucket _ other here inside
                ∙ ap (λ x. eqb x 1) (bit_at_set_other w16 (get_or words bucket 0) (hash / 2 ^ 60) small (other / 2 ^ 60)
                (λ bit. apart (λ i. ((here ∙ is) i, bit i))))
                ∙ ap (λ n. has_bit (get_or words n 0) other) (sym here)
          ];
      count = length-set words bucket _;
    })

-- what was set stays set
pub SetsBit-keeps : {old new : List ℕ} {hash : ℕ} → SetsBit old new hash → (other : ℕ) → may_contain old other ≡ true
    → may_contain new other ≡ true
SetsBit-keeps {old} {new} {hash} sets other may =
    elim (cases_eq (other % length old) (hash % length old)) [
      | inr away ↦ sets.others other (λ e. away (ap (λ p. p.0) e)) ∙ may
      | inl here ↦
          (elim (cases_eq (other / 2 ^ 60) (hash / 2 ^ 60)) [
            | inr away ↦ sets.others other (λ e. away (ap (λ p. p.1) e)) ∙ may
            | inl bit ↦
                let same = ap (λ n. other % n) sets.count ∙ here ∙ ap (λ n. hash % n) (sym sets.count) in
                rw (same, bit) sets.set
          ])
    ]

-- the spots whose bits are set
module _ (words : List ℕ) where
  abbrev misses : Spot → Bool
  misses x = not (may_contain words x.hash)

  module _ (s : Spot) (xs ys : List Spot) (p : PutsIn s xs ys) where
    one : cond {A = ℕ} (misses s) 1 0 + count_by misses xs ≡ count_by misses ys
    one = sym (count_by-cons misses s xs) ∙ p misses

    pub CoversAll-put : may_contain words s.hash ≡ true → CoversAll words xs → CoversAll words ys
    unfolding CoversAll
    CoversAll-put own c = grind (arith, one)

    pub CoversAll-others : CoversAll words ys → CoversAll words xs
    unfolding CoversAll
    CoversAll-others c = omega (arith, one)

    pub may_contain-covered : CoversAll words ys → may_contain words s.hash ≡ true
    unfolding CoversAll
    may_contain-covered c = grind (arith, one)

  module _ {K V : Type 0} where
    -- chain links alone changed
    pub CoversAll-entries : (old new : List (Held (K × V))) → entries new ≡ entries old
        → CoversAll words (spots old) → CoversAll words (spots new)
    unfolding CoversAll
    CoversAll-entries old new e c =
        let q : ℕ → Bool = λ h. not (may_contain words h) in
        sym (count_by-entries q new) ∙ ap (λ hs. count_by misses (spots hs)) e ∙ count_by-entries q old ∙ c

    -- no node has a hash whose bit is not set
    pub LacksKey-uncovered : (is_key : K → Bool) (hash : ℕ) (nodes : List (Held (K × V))) → CoversAll words (spots nodes)
        → may_contain words hash ≡ false → LacksKey is_key hash nodes
    LacksKey-uncovered is_key hash nodes c lacks before x after e =
        let own = may_contain-covered (spot x) (spots (before ++ after)) (spots nodes) (PutsIn-spots_of before x after e) c in
        grind arith

pub CoversAll-more : (old new : List ℕ) → ((hash : ℕ) → may_contain old hash ≡ true → may_contain new hash ≡ true) → (xs : List Spot)
    → CoversAll old xs → CoversAll new xs
unfolding CoversAll
CoversAll-more old new more xs c =
    count_by-none (misses old) (misses old) (misses new) (λ x e f. let m = more x.hash in grind arith) xs c c

-- the bits of a bucket without spots are cleared
pub CoversAll-cleared : (old new : List ℕ) (n b : ℕ) → ((hash : ℕ) → hash % n ≢ b → may_contain new hash ≡ may_contain old hash)
    → (xs : List Spot) → count_by (is_in n b) xs ≡ 0 → CoversAll old xs → CoversAll new xs
unfolding CoversAll
CoversAll-cleared old new n b same xs none c =
    count_by-none (misses old) (is_in n b) (misses new)
    (λ x e f. let m = same x.hash (eqb-false (x.hash % n) b f) in grind arith) xs c none
