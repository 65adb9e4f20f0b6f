-- A node that a mode moves to the back, or leaves in its place.
use Rattle.std.specs.Prelude.{◌≡◌, ◌+◌, List, length}
use denote.RawPtr.{Ptr}
use Rattle.linked_hash_map.specs.declared.map.Mode.{Mode}
use Rattle.linked_hash_map.specs.declared.map.Mode.TheVariants.{Touch, Keep}
use Rattle.lhm_ring.specs.Positions.{index_of, to_back_at}
use Rattle.lhm_ring.specs.Ring.{Held}

-- ks are the nodes hs: in Touch with the one at p behind the others, in Keep as they were
abbrev pub IsTouched : {B : Type 0} → Mode → Ptr → List (Held B) → List (Held B) → Type 0
IsTouched Touch p hs ks =
    (ks ≡ to_back_at hs (index_of p hs)) × (index_of p ks + 1 ≡ length hs)
IsTouched Keep p hs ks = ks ≡ hs
