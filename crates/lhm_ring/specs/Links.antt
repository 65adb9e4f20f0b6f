-- A ring of nodes: how the links lead, and when the fields of a `Ring` are right. The nodes are a
-- ring with one more at null, which holds nothing: the first node comes right after it, and it
-- right after the last.
use Rattle.std.specs.Prelude.{◌≡◌, ℕ, suc, zero, ◌+◌, ◌≤◌, ◌^◌, Bool, true, false, cond, List, [], ◌∷◌, ◌++◌, length, Option, Some, None}
use Rattle.std.specs.Prelude.{◌-◌, ◌*◌, ◌/◌, min, max, nat_le, ◌==◌, if◌then◌else◌, map, take}
use Rattle.std.proofs.Common.{refl}
use Rattle.std.specs.List.{AllByRecursion}
use denote.RawPtr.{Ptr, null_ptr}
use Rattle.lhm_ring.specs.declared.pointer.Link.{Link}
use Rattle.lhm_ring.specs.declared.links.Links.{Links}
use Rattle.lhm_ring.specs.declared.links.Ends.{Ends}
use Rattle.lhm_ring.specs.Nodes.{Cell, cell, same_ptr, links_at, with_links, IsApart, is_block, Chunk}
use Rattle.lhm_ring.specs.Ring.{Held, last_of}
use Rattle.lhm_ring.specs.Pointer.{target}

-- the links, with the chain link o, or with the next node o, or with the node before
abbrev pub chaining_to : Link → Links → Links
chaining_to o l = record l { link = o }

abbrev pub leading_on : Link → Links → Links
leading_on o l = record l { next = o }

abbrev pub leading_back : Link → Links → Links
leading_back o l = record l { prev = o }

-- a link that leads nowhere
abbrev pub nowhere : Link
nowhere = record { ptr = null_ptr; comparable = refl }

-- the ends of a ring, as the links of the node at null
abbrev pub ends_links : Ends → Links
ends_links e = record { prev = e.last; next = e.first; link = nowhere; hash = 0 }

-- what links say of their node: where it leads, and whether it is there at all
abbrev pub next_of : Option Links → Ptr
next_of None = null_ptr
next_of (Some l) = l.next.ptr

abbrev pub prev_of : Option Links → Ptr
prev_of None = null_ptr
prev_of (Some l) = l.prev.ptr

abbrev pub link_of : Option Links → Option Ptr
link_of None = None
link_of (Some l) = target l.link

abbrev pub has_links : Option Links → Bool
has_links None = false
has_links (Some l) = true

module _ {B : Type 0} where
  -- the nodes cs, and at null one that holds nothing, between the last and the first
  abbrev pub ring_cells : Ends → List (Cell Links B) → List (Cell Links B)
  ring_cells e cs = cell null_ptr (ends_links e) None ∷ cs

  abbrev pub next_at : List (Cell Links B) → Ptr → Ptr
  next_at cs p = next_of (links_at cs p)

  abbrev pub prev_at : List (Cell Links B) → Ptr → Ptr
  prev_at cs p = prev_of (links_at cs p)

  -- where the chain link of the node at p leads
  abbrev pub link_at : List (Cell Links B) → Ptr → Option Ptr
  link_at cs p = link_of (links_at cs p)

  abbrev pub is_there : List (Cell Links B) → Ptr → Bool
  is_there cs p = has_links (links_at cs p)

  abbrev pub IsThere : List (Cell Links B) → Ptr → Type 0
  IsThere cs p = is_there cs p ≡ true

  -- the hash, the chain link, the key and the value at p
  abbrev pub content_of : Ptr → Option Links → Option B → Option (Held B)
  content_of p None b = None
  content_of p (Some l) None = None
  content_of p (Some l) (Some b) =
      Some (record { at = p; hash = l.hash; link = link_of (Some l); pair = b })

  -- in ds the chain link of the node at p is o, and nothing else differs
  abbrev pub ChainsTo : List (Cell Links B) → Ptr → Link → List (Cell Links B) → Type 0
  ChainsTo cs p o ds = (l : Links) → links_at cs p ≡ Some l → ds ≡ with_links p (chaining_to o l) cs

  -- the same of the next node, and of the node before
  abbrev pub LeadsOn : List (Cell Links B) → Ptr → Link → List (Cell Links B) → Type 0
  LeadsOn cs p o ds = (l : Links) → links_at cs p ≡ Some l → ds ≡ with_links p (leading_on o l) cs

  abbrev pub LeadsBack : List (Cell Links B) → Ptr → Link → List (Cell Links B) → Type 0
  LeadsBack cs p o ds =
      (l : Links) → links_at cs p ≡ Some l → ds ≡ with_links p (leading_back o l) cs

  -- b comes right after a
  abbrev pub AreNeighbours : List (Cell Links B) → Ptr → Ptr → Type 0
  AreNeighbours cs a b = (next_at cs a ≡ b) × (prev_at cs b ≡ a)

  -- each comes right after the one before
  abbrev pub AreLinked : List (Cell Links B) → List Ptr → Type 0
  AreLinked cs [] = Unit {0}
  AreLinked cs (x ∷ []) = Unit {0}
  AreLinked cs (x ∷ y ∷ r) = AreNeighbours cs x y × AreLinked cs (y ∷ r)

  -- the spare nodes, from the first on
  abbrev pub IsSpareList : List (Cell Links B) → Option Ptr → List Ptr → Type 0
  IsSpareList cs h [] = h ≡ None
  IsSpareList cs h (p ∷ ps) = (h ≡ Some p) × IsSpareList cs (link_at cs p) ps

  -- the nodes: the one at null, the held ones ps in order, and the spare ones ss
  pub record IsRing (cs : List (Cell Links B)) (ps : List Ptr) (spare : Option Ptr) (ss : List Ptr)
      : Type 0 where
    pub linked : AreLinked cs (null_ptr ∷ (ps ++ null_ptr ∷ []))
    pub chained : IsSpareList cs spare ss
    pub there : AllByRecursion (IsThere cs) (null_ptr ∷ (ps ++ ss))
    pub apart : IsApart (null_ptr ∷ (ps ++ ss))
    pub count : length cs ≡ suc (length ps + length ss)

  abbrev pub one_of : Option (Held B) → List (Held B)
  one_of None = []
  one_of (Some x) = x ∷ []

  -- what the nodes hold, in the order in which they are listed
  unfoldable pub contents : List (Cell Links B) → List (Held B)
  contents [] = []
  contents (c ∷ cs) = one_of (content_of c.at (Some c.links) c.body) ++ contents cs

  -- where the nodes lie that hold something, in the same order
  abbrev pub holders : List (Cell Links B) → List Ptr
  holders cs = map (λ t. t.at) (contents cs)

  -- the same nodes, except that b comes right after a
  pub record IsJoined (cs ds : List (Cell Links B)) (a b : Ptr) : Type 0 where
    pub next : (q : Ptr) → next_at ds q ≡ cond (same_ptr a q) b (next_at cs q)
    pub prev : (q : Ptr) → prev_at ds q ≡ cond (same_ptr b q) a (prev_at cs q)
    pub link : (q : Ptr) → link_at ds q ≡ link_at cs q
    pub there : (q : Ptr) → is_there ds q ≡ is_there cs q
    pub count : length ds ≡ length cs
    pub held : contents ds ≡ contents cs

module _ {B : Type 0} where
  -- hs begins at f and ends at b
  abbrev pub HasEnds : List (Held B) → Ptr → Ptr → Type 0
  HasEnds [] f b = Unit {0}
  HasEnds (t ∷ hs) f b = (t.at ≡ f) × (last_of t hs ≡ b)

  -- what is held from p on
  unfoldable pub from_at : Ptr → List (Held B) → List (Held B)
  from_at p [] = []
  from_at p (t ∷ hs) = cond (same_ptr t.at p) (t ∷ hs) (from_at p hs)

  -- the first n of what nodes hold from p on
  abbrev pub span : List (Cell Links B) → ℕ → Ptr → List (Held B)
  span cs n p = take n (from_at p (contents cs))

  -- the nodes are a ring of n held and at least m spare ones, and the held ones lie at ps, in order
  pub record IsOwned (cs : List (Cell Links B)) (ps : List Ptr) (spare : Link) (n m : ℕ)
      : Type 0 where
    -- where the spare ones lie, from the first on
    pub spare_pointers : List Ptr
    pub ring : IsRing cs ps (target spare) spare_pointers
    pub held_count : length ps ≡ n
    -- there may be more spare nodes than are counted
    pub enough_spares : m ≤ length spare_pointers
    pub bounded : n + m ≤ 2 ^ 59

  -- hs are n in number, each right after the one before, from f to b
  pub record IsSpan (cs : List (Cell Links B)) (hs : List (Held B)) (f b : Ptr) (n : ℕ)
      : Type 0 where
    pub count : length hs ≡ n
    pub linked : AreLinked cs (map (λ t. t.at) hs)
    pub ends : HasEnds hs f b

  -- a part of what nodes hold is such
  pub record HasSpan (cs : List (Cell Links B)) (f b : Ptr) (n : ℕ) : Type 0 where
    pub before : List (Held B)
    pub part : List (Held B)
    pub after : List (Held B)
    pub is : contents cs ≡ before ++ (part ++ after)
    pub span : IsSpan cs part f b n

module _ {B : Type 0} where
  -- ds has n nodes more than cs, the first of them f, and the last with a link to s. The one on top
  -- lies at the pointer and has the links, and below are the others
  unfoldable pub IsStacked : List (Cell Links B) → Link → ℕ → List (Cell Links B) → Link → Type 0
  IsStacked cs s zero ds f = (ds ≡ cs) × (f ≡ s)
  IsStacked cs s (suc n) ds f = record {
    pointer : Ptr;
    below : List (Cell Links B);
    links : Links;
    top_is : target f ≡ Some pointer;
    nodes_are : ds ≡ cell pointer links None ∷ below;
    stacked : IsStacked cs s n below links.link;
  }

-- the heads lead through all chunks, from p to null
unfoldable pub IsChain : List Chunk → Ptr → Type 0
IsChain [] p = p ≡ null_ptr
IsChain (c ∷ cs) p = (p ≡ c.at) × (is_block c.at ≡ true) × IsChain cs c.next

-- how many places all of them have
unfoldable pub place_count : List Chunk → ℕ
place_count [] = 0
place_count (c ∷ cs) = c.count + place_count cs

-- all places are nodes, of which the ring has made this many, and its chunks are listed from newest
pub record IsLaid (unused : List Ptr) (chunks : List Chunk) (newest : Ptr) (made : ℕ) : Type 0 where
  pub none_unused : unused ≡ []
  pub all_listed : IsChain chunks newest
  pub all_made : made ≡ place_count chunks

-- how many nodes there are after a growth to the number needed: if there were fewer, at least
-- `least` more than there were
abbrev pub nodes_grown : ℕ → ℕ → ℕ → ℕ
nodes_grown nodes needed least = if nat_le needed nodes then nodes else max needed (nodes + least)

-- how many nodes the next chunk has, if one is missing: two, or from 16 nodes on half as many as
-- there are
abbrev pub next_chunk : ℕ → ℕ
next_chunk nodes = if nat_le 16 nodes then nodes / 2 else 2

-- how many more nodes a growth by one makes at least: those of the next chunk, at most 64, and so
-- that there are at most `most`
abbrev pub least_more : ℕ → ℕ → ℕ → ℕ
least_more count nodes most =
    if count == 1 then min (next_chunk nodes) (min (most - nodes) 64) else 0

-- how many nodes the chunks of a table with n buckets have at most: as many, but two with one
abbrev pub most_nodes : ℕ → ℕ
most_nodes n = min (2 * n) (max 2 n)
