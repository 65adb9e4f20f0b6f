-- The spots of nodes, and the node of a spot.
use Rattle.lhm_ring.proofs.Names.{Bool, Held, IsHeld, IsRearranged, List, None, OfNodeAt, Option, Ptr, PutsIn, Some, SplitAt, Spot, ap}
use Rattle.lhm_ring.proofs.Names.{arith, count_by, eq-eqb, eqb-true, false, filter, is_in, map-append, refl, same_ptr, spot, spots, sym}
use Rattle.lhm_ring.proofs.Names.{true, ℕ, ◌%◌, ◌&&◌, ◌++◌, ◌==◌, ◌∙◌, ◌∷◌, ◌≡◌}
use Rattle.lhm_ring.proofs.lists.Rearranged.{PutsIn-middle, SplitAround-IsRearranged, SplitAt-counted, count_by-own, filter-PutsIn}
use Rattle.lhm_ring.proofs.lists.RearrangedCounts.{count_by-filter, count_by-map}
use Rattle.lhm_ring.proofs.lists.{Apart.same_ptr-equal, Apart.same_ptr-reflexive, Splits.SplitAround}

-- nodes that are known by an equation: their spots, of all of them and of those of a bucket
module _ {K V : Type 0} {nodes : List (Held (K × V))} (before : List (Held (K × V))) (x : Held (K × V)) (after : List (Held (K × V)))
    (is : nodes ≡ before ++ x ∷ after) where
  pub PutsIn-spots_of : PutsIn (spot x) (spots (before ++ after)) (spots nodes)
  PutsIn-spots_of p =
      ap (λ ss. count_by p (spot x ∷ ss)) (map-append spot before after) ∙ PutsIn-middle (spots before) (spot x) (spots after) p
      ∙ ap (count_by p) (sym (ap spots is ∙ map-append spot before (x ∷ after)))

  pub PutsIn-bucket : (n : ℕ) {hash : ℕ} → hash ≡ x.hash
      → PutsIn (spot x) (filter (is_in n (hash % n)) (spots (before ++ after))) (filter (is_in n (hash % n)) (spots nodes))
  PutsIn-bucket n {hash} e =
      filter-PutsIn (is_in n (hash % n)) (spot x) (spots (before ++ after)) (spots nodes) PutsIn-spots_of
      (eq-eqb _ _ (ap (λ h. h % n) (sym e)))

pub PutsIn-spots : {K V : Type 0} (before : List (Held (K × V))) (x : Held (K × V)) (after : List (Held (K × V)))
    → PutsIn (spot x) (spots (before ++ after)) (spots (before ++ x ∷ after))
PutsIn-spots before x after = PutsIn-spots_of before x after refl

-- whether two spots are the same
abbrev same_link : Option Ptr → Option Ptr → Bool
same_link None None = true
same_link None (Some q) = false
same_link (Some p) None = false
same_link (Some p) (Some q) = same_ptr p q

abbrev same_spot : Spot → Spot → Bool
same_spot a b = same_ptr a.at b.at && ((a.hash == b.hash) && same_link a.link b.link)

same_spot-equal : (a b : Spot) → same_spot a b ≡ true → a ≡ b
same_spot-equal a b e = grind (arith, same_ptr-equal, eqb-true)

same_spot-reflexive : (a : Spot) → same_spot a a ≡ true
same_spot-reflexive a = grind (arith, same_ptr-reflexive, eq-eqb)

-- each of a list is in another that is the same in another order
pub SplitAround-rearranged : (xs : List Spot) (x : Spot) (ws zs : List Spot) → IsRearranged xs zs → PutsIn x ws zs → SplitAround xs x
SplitAround-rearranged = SplitAround-IsRearranged same_spot same_spot-equal same_spot-reflexive

-- a spot of a chain is a held node's
pub record OnNode {K V : Type 0} (n b : ℕ) (s : Spot) (nodes : List (Held (K × V))) : Type 0 where
  pub of : SplitAt spot nodes s
  pub passes : is_in n b s ≡ true

pub OnNode-rearranged : {K V : Type 0} (n b : ℕ) {chain : List Spot} (done : List Spot) (s : Spot) (rest : List Spot)
    (nodes : List (Held (K × V))) → IsRearranged chain (filter (is_in n b) (spots nodes)) → chain ≡ done ++ s ∷ rest → OnNode n b s nodes
OnNode-rearranged n b done s rest nodes h is =
    let hits : Spot → Bool = λ x. is_in n b x && same_spot s x in
    let i = SplitAt-counted (λ x. hits (spot x)) nodes (λ z. count_by-own same_spot same_spot-equal same_spot-reflexive s done rest
    (ap (count_by _) (sym is) ∙ h _ ∙ count_by-filter _ (is_in n b) (spots nodes) ∙ count_by-map hits spot nodes ∙ z)) in
    let hit = i.at_is in
    let same : spot i.node ≡ s = grind (arith, same_spot-equal) in
    record {
      of = record { before = i.before; node = i.node; after = i.after; is = i.is; at_is = same };
      passes = grind arith;
    }

abbrev pub IsHeld-spot : {K V : Type 0} {s : Spot} {nodes : List (Held (K × V))} {p : Ptr} → SplitAt spot nodes s → s.at ≡ p
    → IsHeld nodes p
IsHeld-spot k at = record { before = k.before; node = k.node; after = k.after; is = k.is; at_is = ap (λ v. v.at) k.at_is ∙ at }

-- what is true of the spot of the node at p
pub OfNodeAt-spot : {K V : Type 0} {s : Spot} {nodes : List (Held (K × V))} {p : Ptr} (Q : Spot → Type 0)
    → SplitAt spot nodes s → s.at ≡ p → OfNodeAt nodes p (λ x. Q (spot x)) → Q s
OfNodeAt-spot Q n at f = grind arith
