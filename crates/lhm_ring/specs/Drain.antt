-- The held nodes of a ring become spare, all at once, and a `Drain` yields what they held.
use Rattle.std.specs.Prelude.{◌≡◌, ℕ, ◌+◌, List, [], ◌∷◌, ◌++◌, length, Option, Some, None}
use Rattle.std.specs.List.{AllByRecursion}
use denote.RawPtr.{Ptr}
use Rattle.lhm_ring.specs.declared.links.Links.{Links}
use Rattle.lhm_ring.specs.declared.drain.Spliced.{Spliced}
use Rattle.lhm_ring.specs.declared.pointer.Link.{Link}
use Rattle.std.specs.Borrow.{GName}
use Rattle.lhm_ring.specs.ContentLoan.{cleared}
use Rattle.lhm_ring.specs.declared.drain.Drain.{Drain}
use Rattle.lhm_ring.specs.Nodes.{Cell, IsApart}
use Rattle.lhm_ring.specs.Links.{AreLinked, IsSpareList, next_at, prev_at, is_there, IsThere, contents, holders, IsOwned, IsSpan}
use Rattle.lhm_ring.specs.Ring.{triples}

-- the pointers ps, the last first, and then ss
abbrev pub onto : List Ptr → List Ptr → List Ptr
onto [] ss = ss
onto (p ∷ ps) ss = onto ps (p ∷ ss)

abbrev pub StartsAt : List Ptr → Ptr → Type 0
StartsAt [] f = Unit {0}
StartsAt (p ∷ ps) f = p ≡ f

module _ {B : Type 0} where
  -- the same nodes, except for their chain links
  pub record SameButLinks (cs ds : List (Cell Links B)) : Type 0 where
    pub next : (q : Ptr) → next_at ds q ≡ next_at cs q
    pub prev : (q : Ptr) → prev_at ds q ≡ prev_at cs q
    pub there : (q : Ptr) → is_there ds q ≡ is_there cs q
    pub count : length ds ≡ length cs
    pub order : holders ds ≡ holders cs
    pub held : triples (contents ds) ≡ triples (contents cs)

  -- the n nodes ps from f on, and the spare nodes ss, none of them among ps
  pub record IsRow (cs : List (Cell Links B)) (f : Ptr) (n : ℕ) (spare : Option Ptr)
      (ps ss : List Ptr) : Type 0 where
    pub long : length ps ≡ n
    pub linked : AreLinked cs ps
    pub starts : StartsAt ps f
    pub there : AllByRecursion (IsThere cs) ps
    pub apart : IsApart (ps ++ ss)
    pub chained : IsSpareList cs spare ss

  pub record HasRow (cs : List (Cell Links B)) (f : Ptr) (n : ℕ) (spare : Option Ptr) : Type 0 where
    pub pointers : List Ptr
    pub spare_pointers : List Ptr
    pub row : IsRow cs f n spare pointers spare_pointers

  -- in ds the nodes of the row are spare too, and s is the first spare one
  abbrev pub SparesRow : List (Cell Links B) → Ptr → ℕ → Option Ptr → List (Cell Links B)
      → Option Ptr → Type 0
  SparesRow cs f n spare ds s =
      (ps ss : List Ptr) → IsRow cs f n spare ps ss → SameButLinks cs ds × IsSpareList ds s (onto ps ss)

  -- the nodes are a ring of n held ones
  abbrev pub HasRing : List (Cell Links B) → Link → ℕ → Type 0
  HasRing cs spare n = (ps : List Ptr) × ((m : ℕ) × IsOwned cs ps spare n m)

  -- in ds all nodes of the ring are spare
  abbrev pub SplicesRing : List (Cell Links B) → Link → ℕ → List (Cell Links B) → Spliced → Type 0
  SplicesRing cs spare n ds s =
      (ps : List Ptr) (m : ℕ) → IsOwned cs ps spare n m → IsOwned (cleared ds) [] s.spare 0 (m + n)

  -- what the ring held is in the nodes ds, from s.first to s.last
  abbrev pub KeepsRow : List (Cell Links B) → Link → ℕ → List (Cell Links B) → Spliced → Type 0
  KeepsRow cs spare n ds s =
      (m : ℕ) → IsOwned cs (holders cs) spare n m
      → IsSpan ds (contents ds) s.first.ptr s.last.ptr n × (triples (contents ds) ≡ triples (contents cs))

module _ {K V : Type 0} where
  -- r is the first of xs and the others are ys, or there is none
  abbrev pub HandsOutFirst : List (ℕ × (K × V)) → Option (ℕ × K × V) → List (ℕ × (K × V)) → Type 0
  HandsOutFirst xs None ys = (xs ≡ []) × (ys ≡ [])
  HandsOutFirst xs (Some r) ys = xs ≡ (r.0, (r.1, r.2)) ∷ ys

  -- r is the last of xs and the others are ys, or there is none
  abbrev pub HandsOutLast : List (ℕ × (K × V)) → Option (ℕ × K × V) → List (ℕ × (K × V)) → Type 0
  HandsOutLast xs None ys = (xs ≡ []) × (ys ≡ [])
  HandsOutLast xs (Some r) ys = xs ≡ ys ++ (r.0, (r.1, r.2)) ∷ []

module _ {K V : Type 0} where
  -- the name of the borrow that ends with it
  abbrev pub drain_name : Drain K V → GName
  drain_name d = d.anchor.ghost_name

  -- what is still to be yielded
  abbrev pub drain_rest : Drain K V → List (ℕ × (K × V))
  drain_rest d = d.remaining

  abbrev pub DrainSteps : Drain K V → Option (ℕ × K × V) → Drain K V → Type 0
  DrainSteps d r e = HandsOutFirst (drain_rest d) r (drain_rest e) × (drain_name e ≡ drain_name d)

  abbrev pub DrainStepsBack : Drain K V → Option (ℕ × K × V) → Drain K V → Type 0
  DrainStepsBack d r e =
      HandsOutLast (drain_rest d) r (drain_rest e) × (drain_name e ≡ drain_name d)
