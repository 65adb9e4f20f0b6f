-- The size of the values of a list or an object.
use Rattle.std.proofs.Common.{◌≡◌, ℕ, ◌+◌, ◌-◌, ◌^◌, ◌≤◌, List, [], ◌∷◌, max, min, refl, ap, ◌∙◌, arith, Vec, Global}
use Rattle.std.specs.Map.{values_of}
use Rattle.uses.specs.Trees.{size, size_in}
use Rattle.uses.specs.Documents.{view, members_view}
use Rattle.uses.specs.declared.nested.Value.{Value, List as ListOf, Object}
use Rattle.uses.proofs.TreeViews.{Entry, Map, items_view, view-List, view-Object}

abbrev pub size_of : List Value → ℕ × ℕ
size_of [] = (0, 1)
size_of (v ∷ vs) = ((size (view v)).0 + (size_of vs).0, max ((size (view v)).1 + 1) (size_of vs).1)

size_in-items : (vs : List Value) → size_in (items_view vs) ≡ size_of vs
size_in-items [] = refl
size_in-items (v ∷ vs) = ap (λ n. ((size (view v)).0 + n.0, max ((size (view v)).1 + 1) n.1)) (size_in-items vs)

size_in-members : (pairs : List Entry) → size_in (members_view pairs) ≡ size_of (values_of pairs)
size_in-members [] = refl
size_in-members (pair ∷ pairs) = ap (λ n. ((size (view pair.1)).0 + n.0, max ((size (view pair.1)).1 + 1) n.1)) (size_in-members pairs)

pub size-List : (v : Vec Value Global) → size (view (ListOf v)) ≡ size_of v.items
size-List v = ap size (view-List v) ∙ size_in-items v.items

pub size-Object : (m : Map) → size (view (Object m)) ≡ size_of (values_of m.pairs)
size-Object m = ap size (view-Object m) ∙ size_in-members m.pairs

-- the size of all, up to the most, is what is added up so far with the rest
abbrev pub most : ℕ
most = 2 ^ 64 - 1

pub record IsSizeSoFar (all rest : List Value) (total : ℕ × ℕ) : Type 0 where
  leaves : min (total.0 + (size_of rest).0) most ≡ min (size_of all).0 most
  depth : min (max total.1 (size_of rest).1) most ≡ min (size_of all).1 most
  within : max total.0 total.1 ≤ most
  deep : 1 ≤ total.1

pub starts : (all : List Value) → IsSizeSoFar all all (0, 1)
starts all = record { leaves = omega arith; depth = omega (arith, deep all); within = omega arith; deep = omega arith }
  where
    deep : (vs : List Value) → 1 ≤ (size_of vs).1
    deep [] = omega arith
    deep (v ∷ vs) = omega arith

leaves-next : (total total_next child a rest : ℕ) → child ≡ min a most → total_next ≡ min (total + child) most
    → min (total_next + rest) most ≡ min (total + (a + rest)) most
leaves-next total total_next child a rest child_is next_is = grind arith

depth-next : (deep deep_next child a rest : ℕ) → child ≡ min a most → deep_next ≡ min (max deep (child + 1)) most
    → min (max deep_next rest) most ≡ min (max deep (max (a + 1) rest)) most
depth-next deep deep_next child a rest child_is next_is = grind arith

pub goes_on : (all rest : List Value) (v : Value) (total inner after : ℕ × ℕ) → IsSizeSoFar all (v ∷ rest) total
    → inner.0 ≡ min (size (view v)).0 most → inner.1 ≡ min (size (view v)).1 most
    → after.0 ≡ min (total.0 + inner.0) most → after.1 ≡ min (max total.1 (inner.1 + 1)) most → IsSizeSoFar all rest after
goes_on all rest v total inner after so leaves depth leaves_after depth_after = record {
  leaves = leaves-next total.0 after.0 inner.0 (size (view v)).0 (size_of rest).0 leaves leaves_after ∙ so.leaves;
  depth = depth-next total.1 after.1 inner.1 (size (view v)).1 (size_of rest).1 depth depth_after ∙ so.depth;
  within = omega (arith, leaves_after, depth_after);
  deep = omega (arith, so.deep, depth_after);
}

pub leaves-end : (all : List Value) (total : ℕ × ℕ) → IsSizeSoFar all [] total → total.0 ≡ min (size_of all).0 most
leaves-end all total so = omega (arith, so.leaves, so.within)

pub depth-end : (all : List Value) (total : ℕ × ℕ) → IsSizeSoFar all [] total → total.1 ≡ min (size_of all).1 most
depth-end all total so = omega (arith, so.depth, so.deep, so.within)
