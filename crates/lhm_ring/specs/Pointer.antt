-- Where a link leads, and where a position is.
use Rattle.std.specs.Prelude.{Option, Some, None}
use denote.RawPtr.{Ptr, block_ptr, null_ptr}
use Rattle.lhm_ring.specs.declared.pointer.Link.{Link}
use Rattle.lhm_ring.specs.declared.pointer.Position.{Position}

-- p, if it is not null
abbrev pub led_to : Ptr → Option Ptr
led_to (block_ptr b o) = Some (block_ptr b o)
led_to null_ptr = None

-- the pointer that a link leads to, or None
abbrev pub target : Link → Option Ptr
target l = led_to l.ptr

module _ {K V : Type 0} where
  abbrev pub pointer_of : Position K V → Ptr
  pointer_of p = p.pointer.ptr

  -- where a position is, if there is one
  abbrev pub pointer_of_some : Option (Position K V) → Option Ptr
  pointer_of_some None = None
  pointer_of_some (Some p) = Some (pointer_of p)
