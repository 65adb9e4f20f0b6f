-- The index of a position, and a list of which one element moves.
use Rattle.std.specs.Prelude.{◌≡◌, ℕ, ◌+◌, ◌-◌, cond, nat_lt, List, [], ◌∷◌, ◌++◌, map, take, drop, remove, slice_get, Option, Some}
use Rattle.std.specs.Option.{option_to_list}
use denote.RawPtr.{Ptr}
use Rattle.lhm_ring.specs.Nodes.{same_ptr}
use Rattle.lhm_ring.specs.Ring.{Held}

module _ {B : Type 0} where
  -- the triple at the index i lies at p
  abbrev pub IsAt : List (Held B) → Ptr → ℕ → Type 0
  IsAt hs p i = slice_get (map (λ t. t.at) hs) i ≡ Some p

  -- the triple at the index j lies at the pointer, or for None there is no triple at j
  abbrev pub PlaceAt : List (Held B) → Option Ptr → ℕ → Type 0
  PlaceAt hs o j = slice_get (map (λ t. t.at) hs) j ≡ o

  -- how many triples come before the one at p: all, if none lies there
  abbrev pub index_of : Ptr → List (Held B) → ℕ
  index_of p [] = 0
  index_of p (t ∷ hs) = cond (same_ptr t.at p) 0 (index_of p hs + 1)

module _ {X : Type 0} where
  -- zs, with ys put in so that they begin at the index k, or at the back if there is none at k
  abbrev pub insert_at : ℕ → List X → List X → List X
  insert_at k ys zs = take k zs ++ (ys ++ drop k zs)

  -- the list, with the element at an index moved to the back, or to the front
  abbrev pub to_back_at : List X → ℕ → List X
  to_back_at xs i = remove xs i ++ option_to_list (slice_get xs i)

  abbrev pub to_front_at : List X → ℕ → List X
  to_front_at xs i = option_to_list (slice_get xs i) ++ remove xs i

  -- the list, with the element at the index i put before the one at j, or at the back if there is
  -- none at j
  abbrev pub to_before_at : List X → ℕ → ℕ → List X
  to_before_at xs i j =
      insert_at (j - cond (nat_lt i j) 1 0) (option_to_list (slice_get xs i)) (remove xs i)
