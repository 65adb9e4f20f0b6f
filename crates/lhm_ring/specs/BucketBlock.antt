-- The block of an index's buckets, and what is owned with it.
use Rattle.std.specs.Prelude.{ℕ, ◌+◌, ◌*◌, ◌/◌, ◌^◌, List, length}
use Rattle.std.specs.Allocator.{array_of}
use Rattle.std.specs.Vec.Ownership.{owns_if, has_block, lodged, vec_shares}
use base.Fml.{Fml, Lft, fsep, flt, fwand}
use denote.RattleType.{RattleType}
use denote.RawPtr.{Ptr, room_for, ◌+ₚ◌}
use Rattle.lhm_ring.specs.contracts.bucket_block.Head.{the_row as head}
use Rattle.lhm_ring.specs.contracts.bucket_block.Word.{the_row as word}
use Rattle.lhm_ring.specs.Nodes.{chunk_token}

-- the address behind n heads from p on
abbrev pub behind : Ptr → ℕ → Ptr
behind p n = p +ₚ (n * 8)

-- the elements xs at p, and their memory
abbrev pub elements_own : (R : RattleType) → Ptr → List R.Denot → Fml
elements_own R p xs = lodged R p (length xs) (length xs) xs

-- what a `&` to them lends
abbrev pub elements_lent : (R : RattleType) → Ptr → List R.Denot → Lft → Fml
elements_lent R p xs = vec_shares R p (length xs) (length xs) xs

-- how many heads the block of n buckets has room for: each four buckets take as much as five heads
abbrev pub block_heads : ℕ → ℕ
block_heads n = 5 * ((n + 3) / 4)

-- memory for n heads and as many words, uninitialised
abbrev pub parts_own : Ptr → ℕ → Fml
parts_own p n = fsep (room_for (array_of head n) p) (room_for (array_of word n) (behind p n))

-- the right to free a block of k heads, and that memory for n heads and n words makes the whole
abbrev pub block_dealloc : Ptr → ℕ → ℕ → Fml
block_dealloc p n k =
    fsep (flt (k * 8) (2 ^ 63))
    (fsep (chunk_token (array_of head k) p)
    (fwand (parts_own p n) (room_for (array_of head k) p)))

-- the same of the block of n buckets, if there are any
abbrev pub dealloc_owns : Ptr → ℕ → Fml
dealloc_owns p n = owns_if (has_block n) (block_dealloc p n (block_heads n))
