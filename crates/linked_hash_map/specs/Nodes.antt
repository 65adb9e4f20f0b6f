-- How a map keeps its pairs: in a table, each with the hash of its key.
use Rattle.std.specs.Prelude.{◌≡◌, ℕ, ◌+◌, ◌<◌, ◌≤◌, Bool, cond, List, [], map, length, take, drop, reverse, Option, Some, None, ⊤}
use Rattle.std.specs.List.{IsDistinct, AllByRecursion}
use denote.RawPtr.{Ptr}
use Rattle.linked_hash_map.specs.LinkedMap.{LinkedMap, CursorState, linked_map, cursor_state, nowhere}
use Rattle.linked_hash_map.specs.declared.map.Mode.{Mode}
use Rattle.linked_hash_map.specs.declared.map.TheConstants.{LIMIT}
use Rattle.linked_hash_map.specs.declared.map.cursor.State.{State}
use Rattle.linked_hash_map.specs.declared.map.LinkedHashMap.TheInside.{Inside}
use Rattle.lhm_ring.specs.Pointer.{target}
use Rattle.linked_hash_map.specs.Pairs.{find}
use Rattle.lhm_ring.specs.Positions.{index_of}
use Rattle.lhm_ring.specs.Ring.{Held, held}
use Rattle.lhm_ring.specs.Search.{HasKey}
use Rattle.lhm_ring.specs.Table.{TableState}

-- where a cursor and an entry stand: the next pair to visit, how many are left, and an entry's pair
pub record VisitState : Type 0 where
  pub bookmark : Option Ptr
  pub unvisited : ℕ
  pub current : Option Ptr

module _ {B : Type 0} where
  -- the index of the next pair to visit, and 0 if there is none
  abbrev pub bookmark_at : Option Ptr → List (Held B) → ℕ
  bookmark_at None hs = 0
  bookmark_at (Some p) hs = index_of p hs

  -- the index of the pair that an entry stands for
  abbrev pub current_at : Option Ptr → List (Held B) → ℕ
  current_at None hs = nowhere
  current_at (Some p) hs = index_of p hs

  -- where a cursor and an entry stand among these nodes
  abbrev pub cursor_at : VisitState → List (Held B) → CursorState
  cursor_at visit hs =
      cursor_state (bookmark_at visit.bookmark hs) visit.unvisited (current_at visit.current hs)

  -- if there is a pointer, a node lies there
  abbrev pub Lies : Option Ptr → List (Held B) → Type 0
  Lies None hs = ⊤
  Lies (Some p) hs = index_of p hs < length hs

-- where a cursor or an entry stands: nowhere, and with nothing to visit, if there is neither
abbrev pub bookmark_of : State → Option Ptr
bookmark_of visit = cond visit.active (target visit.bookmark) None

abbrev pub unvisited_of : State → ℕ
unvisited_of visit = cond visit.active visit.unvisited 0

abbrev pub current_of : State → Option Ptr
current_of visit = cond visit.active (target visit.current) None

abbrev pub visit_of : State → VisitState
visit_of visit =
    record {
      bookmark = bookmark_of visit;
      unvisited = unvisited_of visit;
      current = current_of visit;
    }

-- what a map has beside its table: the hasher, where a cursor and an entry stand, and the mode
pub record Beside (S : Type 0) : Type 0 where
  pub hasher : S
  pub visit : VisitState
  pub mode : Mode

module _ {K V : Type 0} where
  -- the pairs in the nodes, in order
  abbrev pub pairs_of : List (Held (K × V)) → List (K × V)
  pairs_of = map (λ t. t.pair)

  -- the pairs in the nodes from the one at a pointer on, to the back or to the front, nothing if
  -- there is no pointer
  abbrev pub pairs_from : Option Ptr → List (Held (K × V)) → List (K × V)
  pairs_from None hs = []
  pairs_from (Some p) hs = drop (index_of p hs) (pairs_of hs)

  abbrev pub pairs_back_from : Option Ptr → List (Held (K × V)) → List (K × V)
  pairs_back_from None hs = []
  pairs_back_from (Some p) hs = reverse (take (index_of p hs + 1) (pairs_of hs))

  -- a node without its link and its value
  abbrev pub bare_node : Held (K × V) → Held K
  bare_node t = held t.at t.hash None t.pair.0

  abbrev pub bare : List (Held (K × V)) → List (Held K)
  bare = map bare_node

  -- the node at p has this key, and the hash, and a lookup of the key finds its pair
  pub record IsLocated {A : Type 0} (eq : A → K → Bool) (key : A) (hash : ℕ)
      (hs : List (Held (K × V))) (p : Ptr) : Type 0 where
    pub has : HasKey (eq key) hash hs p
    pub pair : find eq (pairs_of hs) key ≡ Some has.held.node.pair

  abbrev pub beside : {S H : Type 0} → Inside K V S H → Beside S
  beside m = record { hasher = m.hasher; visit = visit_of m.state; mode = m.state.mode }

  -- what a contract sees of a map that keeps its pairs in this table
  abbrev pub map_of : {S : Type 0} → TableState (K × V) → Beside S → LinkedMap K V S
  map_of s b =
      linked_map (pairs_of s.held) s.capacity b.hasher (cursor_at b.visit (bare s.held))
      s.rechained b.mode

-- the nodes of a map, without their values: no two keys are the same, each stands with its hash,
-- they are within the capacity and that within the limit; there is a bookmark as long as pairs are
-- unvisited, and these are there from it on; the pair that an entry stands for is there
pub record IsKept {K : Type 0} (eq : K → K → Bool) (hash : K → ℕ) (us : List (Held K))
    (capacity : ℕ) (visit : VisitState) : Type 0 where
  pub distinct : IsDistinct eq (map (λ u. u.pair) us)
  pub hashed : AllByRecursion (λ u. u.hash ≡ hash u.pair) us
  pub within : length us ≤ capacity
  pub limit : capacity ≤ LIMIT
  pub bookmarked : visit.bookmark ≡ None → visit.unvisited ≡ 0
  pub ended : visit.unvisited ≡ 0 → visit.bookmark ≡ None
  pub in_reach : bookmark_at visit.bookmark us + visit.unvisited ≤ length us
  pub current_lies : Lies visit.current us
