-- The nodes that a ring owns, the chunks that they are cut from, and what is owned with them.
use Rattle.std.specs.Prelude.{◌≡◌, Bool, true, false, ◌&&◌, ◌==◌, cond, nat_lt, ◌^◌, List, [], ◌∷◌, map, Option, Some, None, ℕ, zero, suc}
use Rattle.std.specs.Prelude.{◌*◌, ◌++◌, ◌+◌, ◌/◌, ◌<◌, ◌⊎◌}
use Rattle.std.specs.List.{IsDistinct, IsDistinct-prop, AllByRecursion, AllByRecursion-prop}
use mathlib.Core.Bool.{Bool-set}
use denote.RawPtr.{Ptr, block_ptr, null_ptr, ptr_val, room_for, ◌+ₚ◌, lies_at}
use Rattle.std.specs.Allocator.{array_of}
use Rattle.std.specs.Mem.{type_size}
use mir.Syntax.{Ty, ty_array, ty_struct, tcons, tnil, w64}
use mir.Val.{Val, vstruct, vcons, vnil, vint}
use base.Fml.{Fml, fsep, flt, Lft, ftrue, ffalse, feq, fat, fex, fwand}
use denote.RattleType.{RattleType}
use base.Fraction.{full_share}
use mir.Raw.{raw}
use prog.Memory.{size, align, up}
use denote.Memory.{lone}
use denote.Sharing.{nothing, beside}
use denote.Struct.Lending.{lent_at}
use Rattle.std.specs.contracts.impls.GlobalAllocator.TheImpl.{ghosts}
use Rattle.lhm_ring.specs.contracts.nodes.Node.{the_row as node}
use Rattle.lhm_ring.specs.contracts.nodes.ChunkHead.{the_row as head}
use Rattle.lhm_ring.specs.contracts.nodes.ChunkUnit.{the_row as unit}

-- a node: where it lies, its links, and what it holds
pub record Cell (L B : Type 0) : Type 0 where
  pub at : Ptr
  pub links : L
  pub body : Option B

-- whether two pointers are the same
abbrev pub same_ptr : Ptr → Ptr → Bool
same_ptr (block_ptr b o) (block_ptr c p) = (b == c) && (o == p)
same_ptr (block_ptr b o) null_ptr = false
same_ptr null_ptr (block_ptr c p) = false
same_ptr null_ptr null_ptr = true

-- no pointer comes twice
abbrev pub IsApart : List Ptr → Type 0
IsApart = IsDistinct same_ptr

pub IsApart-prop : (ps : List Ptr) → IsProp (IsApart ps)
IsApart-prop = IsDistinct-prop same_ptr

-- whether p lies near enough to the start of its block to be compared with null
abbrev pub is_block : Ptr → Bool
is_block (block_ptr b o) = nat_lt o (2 ^ 63)
is_block null_ptr = false

abbrev pub is_null : Ptr → Bool
is_null (block_ptr b o) = false
is_null null_ptr = true

-- the same, or null: p may be compared with null
abbrev pub is_null_or_block : Ptr → Bool
is_null_or_block (block_ptr b o) = nat_lt o (2 ^ 63)
is_null_or_block null_ptr = true

-- all of them may be compared with null
abbrev pub AreBlocks : List Ptr → Type 0
AreBlocks = AllByRecursion (λ p. is_block p ≡ true)

pub AreBlocks-prop : (ps : List Ptr) → IsProp (AreBlocks ps)
AreBlocks-prop = AllByRecursion-prop _ (λ p. Bool-set _ _)

-- o has the key k, or the value v
abbrev pub IsKey : {K V : Type 0} → K → Option (K × V) → Type 0
IsKey {V = V} k o = (v : V) × (o ≡ Some (k, v))

abbrev pub IsValue : {K V : Type 0} → V → Option (K × V) → Type 0
IsValue {K = K} v o = (k : K) × (o ≡ Some (k, v))

module _ {L B : Type 0} where
  abbrev pub cell : Ptr → L → Option B → Cell L B
  cell p l b = record { at = p; links = l; body = b }

  abbrev pub pointers : List (Cell L B) → List Ptr
  pointers = map (λ c. c.at)

  -- the node at p
  unfoldable pub cell_at : List (Cell L B) → Ptr → Option (Cell L B)
  cell_at [] p = None
  cell_at (c ∷ cs) p = cond (same_ptr c.at p) (Some c) (cell_at cs p)

  abbrev pub links_of : Option (Cell L B) → Option L
  links_of None = None
  links_of (Some c) = Some c.links

  abbrev pub body_of : Option (Cell L B) → Option B
  body_of None = None
  body_of (Some c) = c.body

  abbrev pub links_at : List (Cell L B) → Ptr → Option L
  links_at cs p = links_of (cell_at cs p)

  abbrev pub body_at : List (Cell L B) → Ptr → Option B
  body_at cs p = body_of (cell_at cs p)

  -- a node lies at p
  abbrev pub IsAt : List (Cell L B) → Ptr → Type 0
  IsAt cs p = (l : L) × (links_at cs p ≡ Some l)

  -- a node lies at p and holds something
  abbrev pub Holds : List (Cell L B) → Ptr → Type 0
  Holds cs p = (b : B) × (body_at cs p ≡ Some b)

  -- P holds of the node at p, with what is listed before it and after it
  abbrev pub AtCell : List (Cell L B) → Ptr
      → (List (Cell L B) → Cell L B → List (Cell L B) → Type 0) → Type 0
  AtCell cs p P =
      (xs : List (Cell L B)) (c : Cell L B) (ys : List (Cell L B)) → cs ≡ xs ++ c ∷ ys → c.at ≡ p
      → P xs c ys

  -- the pointer of the first, or null if there is none
  abbrev pub first_place : List (Cell L B) → Ptr
  first_place [] = null_ptr
  first_place (c ∷ cs) = c.at

  -- P holds of what is listed before the node at q and of what is listed from it on, or for null of
  -- all and of nothing
  abbrev pub BeforeCell : List (Cell L B) → Ptr → (List (Cell L B) → List (Cell L B) → Type 0)
      → Type 0
  BeforeCell cs q P =
      (us : List (Cell L B)) (vs : List (Cell L B)) → cs ≡ us ++ vs → q ≡ first_place vs → P us vs

  -- q is null, or the pointer of another node than that at p
  abbrev pub IsPlaceFor : List (Cell L B) → Ptr → Ptr → Type 0
  IsPlaceFor cs p q = (q ≡ null_ptr) ⊎ (IsAt cs q × (same_ptr p q ≡ false))

  -- the nodes, with the one at p changed
  unfoldable pub change : Ptr → (Cell L B → Cell L B) → List (Cell L B) → List (Cell L B)
  change p f [] = []
  change p f (c ∷ cs) = cond (same_ptr c.at p) (f c ∷ cs) (c ∷ change p f cs)

  abbrev pub with_links : Ptr → L → List (Cell L B) → List (Cell L B)
  with_links p l = change p (λ c. cell c.at l c.body)

  abbrev pub with_body : Ptr → Option B → List (Cell L B) → List (Cell L B)
  with_body p b = change p (λ c. cell c.at c.links b)

  pub pointers-change : (p : Ptr) (f : Cell L B → Cell L B) → ((c : Cell L B) → (f c).at ≡ c.at)
      → (cs : List (Cell L B)) → pointers (change p f cs) ≡ pointers cs
  unfolding change
  pointers-change p f same [] = λ i. []
  pointers-change p f same (c ∷ cs) =
      elim (same_ptr c.at p)
      as (λ y. pointers (cond y (f c ∷ cs) (c ∷ change p f cs)) ≡ c.at ∷ pointers cs) [
        | true ↦ λ i. same c i ∷ pointers cs
        | false ↦ λ i. c.at ∷ pointers-change p f same cs i
      ]

-- where n places of s bytes from p on lie
unfoldable pub row : Ptr → ℕ → ℕ → List Ptr
row p s zero = []
row p s (suc n) = p ∷ row (p +ₚ s) s n

-- a chunk: where its head lies, where the chunk before it lies, and how many places it has
pub record Chunk : Type 0 where
  pub at : Ptr
  pub next : Ptr
  pub count : ℕ

abbrev pub chunk : Ptr → Ptr → ℕ → Chunk
chunk p q n = record { at = p; next = q; count = n }

-- where the places of all chunks lie, behind the heads
unfoldable pub places : ℕ → List Chunk → List Ptr
places s [] = []
places s (c ∷ cs) = row (c.at +ₚ 16) s c.count ++ places s cs

-- a block for n values of R, with nothing in it, and the right to free it: they take fewer than
-- 2 ^ 63 bytes
abbrev pub block_owns : (R : RattleType) → (Ty → Ptr → Fml) → Ptr → ℕ → Fml
block_owns R token p n =
    fsep (flt (n * type_size R) (2 ^ 63))
    (fsep (token (array_of R n) p) (room_for (array_of R n) p))

-- the right to free a block that `Global` gave, whatever its handle
abbrev pub chunk_token : Ty → Ptr → Fml
chunk_token = ghosts.dealloc_token (record { memory = record { seal = tt } })

-- the head of a chunk, as the machine sees it: where the chunk before lies, and the number of places
abbrev pub head_type : Ty
head_type = lone head.mir

abbrev pub head_val : Ptr → ℕ → Val
head_val q n = vstruct (vcons (vstruct (vcons (ptr_val q) vnil)) (vcons (vint w64 n) vnil))

abbrev pub head_owns : Ptr → Ptr → ℕ → Fml
head_owns (block_ptr b o) q n = fat full_share head_type b o (head_val q n)
head_owns null_ptr q n = ffalse

module _ (L K V : RattleType) where
  -- the type of `Node`, as the machine sees it
  abbrev pub node_type : Ty
  node_type =
      ty_struct [] (tcons (raw (lone L.mir))
      (tcons (raw (lone K.mir)) (tcons (raw (lone V.mir)) tnil)))

  abbrev pub links_offset : ℕ
  links_offset = up (align (lone L.mir)) 0

  abbrev pub key_offset : ℕ
  key_offset = up (align (lone K.mir)) (links_offset + size (lone L.mir))

  abbrev pub value_offset : ℕ
  value_offset = up (align (lone V.mir)) (key_offset + size (lone K.mir))

  abbrev pub links_address : Ptr → Ptr
  links_address p = p +ₚ links_offset

  abbrev pub key_address : Ptr → Ptr
  key_address p = p +ₚ key_offset

  abbrev pub value_address : Ptr → Ptr
  value_address p = p +ₚ value_offset

  -- the three fields, uninitialised
  abbrev pub fields_own : Ptr → Fml
  fields_own p =
      fsep (room_for (raw (lone L.mir)) (links_address p))
      (fsep (room_for (raw (lone K.mir)) (key_address p)) (room_for (raw (lone V.mir)) (value_address p)))

  -- that the three empty fields make the whole place
  abbrev pub deed_owns : Ptr → Fml
  deed_owns p = fwand (fields_own p) (room_for node_type p)

  abbrev pub node_bytes : ℕ
  node_bytes = size node_type

  -- the memory of the places that are no nodes yet
  abbrev pub places_own : List Ptr → Fml
  places_own [] = ftrue
  places_own (p ∷ ps) = fsep (room_for node_type p) (places_own ps)

  -- the size of what the block of a chunk is measured in
  abbrev pub unit_bytes : ℕ
  unit_bytes = type_size (unit L K V)

  -- how many units a chunk of n nodes takes
  abbrev pub chunk_units : ℕ → ℕ
  chunk_units n = 16 / unit_bytes + n * (type_size (node L K V) / unit_bytes)

  -- a chunk may have n places: a head and a node take some units each, with no byte left, and its
  -- block has fewer than 2 ^ 63 bytes
  abbrev pub IsChunk : ℕ → Type 0
  IsChunk n =
      (0 < n) × (16 / unit_bytes * unit_bytes ≡ 16)
      × (type_size (node L K V) / unit_bytes * unit_bytes ≡ type_size (node L K V))
      × (chunk_units n * unit_bytes < 2 ^ 63)

  -- U is as large and as aligned as what the block of a chunk is measured in
  abbrev pub IsUnit : RattleType → Type 0
  IsUnit U = raw (lone U.mir) ≡ raw (lone (unit L K V).mir)

  -- the type of the block of such a chunk
  abbrev pub chunk_type : ℕ → Ty
  chunk_type n = array_of (unit L K V) (chunk_units n)

  -- its memory, uninitialised: that of the head, and that of the places
  abbrev pub parts_own : ℕ → Ptr → Fml
  parts_own n p = fsep (room_for (raw head_type) p) (room_for (ty_array node_type n) (p +ₚ 16))

  -- the head of a chunk, the right to free its block, and that its parts make the block
  abbrev pub chunk_owns : Chunk → Fml
  chunk_owns c = fex (IsChunk c.count × (c.count < 2 ^ 64)) (λ _.
      fsep (head_owns c.at c.next c.count)
      (fsep (chunk_token (chunk_type c.count) c.at)
      (fwand (parts_own c.count c.at) (room_for (chunk_type c.count) c.at))))

  abbrev pub chunks_own : List Chunk → Fml
  chunks_own [] = ftrue
  chunks_own (c ∷ cs) = fsep (chunk_owns c) (chunks_own cs)

  -- what is owned beside the nodes, which take s bytes each: the unused places, and the chunks
  abbrev pub land_owns : ℕ → List Ptr → List Chunk → Fml
  land_owns s us cs = fsep (feq ℕ s node_bytes) (fsep (places_own us) (chunks_own cs))

  -- a key and a value, or the memory for both, uninitialised
  abbrev pub body_owns : Ptr → Option (K.Denot × V.Denot) → Fml
  body_owns p None =
      fsep (room_for (raw (lone K.mir)) (key_address p)) (room_for (raw (lone V.mir)) (value_address p))
  body_owns p (Some x) =
      fsep (lies_at K full_share (key_address p) x.0) (lies_at V full_share (value_address p) x.1)

  abbrev pub cell_owns : Cell L.Denot (K.Denot × V.Denot) → Fml
  cell_owns c =
      fsep (lies_at L full_share (links_address c.at) c.links)
      (fsep (body_owns c.at c.body) (deed_owns c.at))

  -- the nodes, and `others` beside them
  abbrev pub cells_own : Fml → List (Cell L.Denot (K.Denot × V.Denot)) → Fml
  cells_own others [] = others
  cells_own others (c ∷ cs) = fsep (cell_owns c) (cells_own others cs)

  abbrev pub body_lent : Ptr → Option (K.Denot × V.Denot) → Lft → Fml
  body_lent p None = nothing
  body_lent p (Some x) = beside (lent_at K (key_address p) x.0) (lent_at V (value_address p) x.1)

  abbrev pub cell_lent : Cell L.Denot (K.Denot × V.Denot) → Lft → Fml
  cell_lent c = beside (lent_at L (links_address c.at) c.links) (body_lent c.at c.body)

  abbrev pub cells_lent : List (Cell L.Denot (K.Denot × V.Denot)) → Lft → Fml
  cells_lent [] = nothing
  cells_lent (c ∷ cs) = beside (cell_lent c) (cells_lent cs)
