-- A row of links: it is cut in two and put together.
use Rattle.lhm_ring.proofs.Names.{AreLinked, AreNeighbours, Cell, Links, List, Ptr, [], ◌++◌, ◌∷◌}
use Rattle.lhm_ring.proofs.lists.Last.{first_from, last_from}

module _ {B : Type 0} (cs : List (Cell Links B)) where
  pub AreLinked-cut : (x : Ptr) (xs ys : List Ptr) → AreLinked cs (x ∷ (xs ++ ys)) → AreLinked cs (x ∷ xs) × AreLinked cs ys
  AreLinked-cut x [] [] l = (tt, tt)
  AreLinked-cut x [] (y ∷ ys) l = (tt, l.1)
  AreLinked-cut x (w ∷ xs) ys l = let on = AreLinked-cut w xs ys l.1 in ((l.0, on.0), on.1)

  -- where a row to z is cut
  pub AreNeighbours-cut : (x : Ptr) (xs : List Ptr) (z : Ptr) (ys : List Ptr) → AreLinked cs (x ∷ (xs ++ (ys ++ z ∷ [])))
      → AreNeighbours cs (last_from x xs) (first_from z ys)
  AreNeighbours-cut x [] z [] l = l.0
  AreNeighbours-cut x [] z (y ∷ ys) l = l.0
  AreNeighbours-cut x (w ∷ xs) z ys l = AreNeighbours-cut w xs z ys l.1

  pub AreLinked-glued : (x : Ptr) (xs : List Ptr) (z : Ptr) (ys : List Ptr) → AreLinked cs (x ∷ xs)
      → AreNeighbours cs (last_from x xs) (first_from z ys) → AreLinked cs (ys ++ z ∷ []) → AreLinked cs (x ∷ (xs ++ (ys ++ z ∷ [])))
  AreLinked-glued x [] z [] l e m = (e, tt)
  AreLinked-glued x [] z (y ∷ ys) l e m = (e, m)
  AreLinked-glued x (w ∷ xs) z ys l e m = (l.0, AreLinked-glued w xs z ys l.1 e m)
