-- For callers: sets of lemmas that an attribute names, as #[tactic(auto,
-- using(linked_hash_set::proofs::Callers::Rules::set_operations))]. At numbers a lemma is stated at
-- their equality; the first part of a conclusion shows `grind` the call to match.
use Rattle.std.proofs.Common.{◌≡◌, ℕ, true, not, ◌||◌, ◌&&◌, List, [], refl, nat_eq}
use Rattle.std.specs.Cmp.{nat_eq_equiv}
use Rattle.linked_hash_set.specs.Items.{contains}
use Rattle.linked_hash_set.specs.Operations.{difference, intersection, is_subset, union, symmetric_difference}
use Rattle.linked_hash_set.proofs.Callers.Operations.{contains-difference, contains-intersection, contains-is_subset, contains-union}
use Rattle.linked_hash_set.proofs.Callers.Unions.{IsUniting, IsUniting-start, IsUniting-end, IsUniting-contains}
use Rattle.linked_hash_set.proofs.Callers.{Operations.contains-symmetric_difference, Texts.contains-by_item}

module _ (xs ys : List ℕ) (q : ℕ) where
  pub contains-difference_number : (contains nat_eq (difference nat_eq xs ys) q ≡ contains nat_eq (difference nat_eq xs ys) q)
      × (contains nat_eq (difference nat_eq xs ys) q ≡ (contains nat_eq xs q && not (contains nat_eq ys q)))
  contains-difference_number = (refl, contains-difference nat_eq_equiv xs ys q)

  pub contains-intersection_number : (contains nat_eq (intersection nat_eq xs ys) q ≡ contains nat_eq (intersection nat_eq xs ys) q)
      × (contains nat_eq (intersection nat_eq xs ys) q ≡ (contains nat_eq xs q && contains nat_eq ys q))
  contains-intersection_number = (refl, contains-intersection nat_eq_equiv xs ys q)

  pub contains-union_number : (contains nat_eq (union nat_eq xs ys) q ≡ contains nat_eq (union nat_eq xs ys) q)
      × (contains nat_eq (union nat_eq xs ys) q ≡ (contains nat_eq xs q || contains nat_eq ys q))
  contains-union_number = (refl, contains-union nat_eq_equiv xs ys q)

  pub contains-symmetric_difference_number :
      (contains nat_eq (symmetric_difference nat_eq xs ys) q ≡ contains nat_eq (symmetric_difference nat_eq xs ys) q)
      × (contains nat_eq (symmetric_difference nat_eq xs ys) q
      ≡ ((contains nat_eq xs q && not (contains nat_eq ys q)) || (contains nat_eq ys q && not (contains nat_eq xs q))))
  contains-symmetric_difference_number = (refl, contains-symmetric_difference nat_eq_equiv xs ys q)

  pub contains-is_subset_number : (is_subset nat_eq xs ys ≡ is_subset nat_eq xs ys)
      × (is_subset nat_eq xs ys ≡ true → contains nat_eq xs q ≡ true → contains nat_eq ys q ≡ true)
  contains-is_subset_number = (refl, contains-is_subset nat_eq_equiv xs ys q)

-- a union that is made an item at a time
module _ {old other items left : List ℕ} (w : IsUniting nat_eq old other items left) where
  pub uniting-contains : left ≡ [] → (q : ℕ) → contains nat_eq items q ≡ (contains nat_eq old q || contains nat_eq other q)
  uniting-contains none q = IsUniting-contains nat_eq_equiv w none q

-- what is in a union, an intersection, a difference and a symmetric difference, and in a union that
-- is made an item at a time, at its start and end, at numbers
pub ruleset set_operations = (
  contains-difference_number,
  contains-intersection_number,
  contains-union_number,
  contains-symmetric_difference_number,
  contains-is_subset_number,
  IsUniting-start,
  IsUniting-end,
  uniting-contains,
)

-- which texts are in a set of strings after each call
pub ruleset text_items = (contains-by_item)
