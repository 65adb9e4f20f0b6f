-- The node at an end: its index.
use Rattle.linked_hash_map.proofs.Names.{List, None, Option, Some, [], arith, length, length-append, map, subst, sym, ◌-◌, ◌<◌, ◌≡◌}
use Rattle.linked_hash_map.proofs.Names.{same_ptr-reflexive, First, Last, IsAt-last_at, index_of-held, IsApart, IsAt, index_of, Held}
use Rattle.linked_hash_map.proofs.Names.{IsHeld, first_at, last_at, bare, pairs_of, first, last, Ptr}
use Rattle.linked_hash_map.proofs.nodes.CutNodes.{index_of-append}
use Rattle.linked_hash_map.proofs.nodes.HeldPairs.{index_of-bare, length-bare, length-pairs_of}

pub IsAt-last : {K V : Type 0} (hs : List (Held (K × V))) {p : Ptr} → Some p ≡ last_at hs → IsAt hs p (length (pairs_of hs) - 1)
IsAt-last hs {p} is = subst (λ n. IsAt hs p (n - 1)) (sym (length-pairs_of hs)) (IsAt-last_at hs is)

module _ {K V : Type 0} {hs : List (Held (K × V))} {p : Ptr} where
  -- its index is the first, or the last
  pub index_of-first : First hs p → index_of p (bare hs) ≡ 0
  index_of-first f = grind (arith, index_of-bare, same_ptr-reflexive)

  pub index_of-last : IsApart (map (λ t. t.at) hs) → Last hs p → index_of p (bare hs) ≡ length (pairs_of hs) - 1
  index_of-last apart l = grind (arith, length-append, length-pairs_of, index_of-bare, index_of-append)

  pub index_of-bare_within : IsHeld hs p → index_of p (bare hs) < length (bare hs)
  index_of-bare_within held = grind (arith, index_of-held, index_of-bare, length-bare)

  pub index_of-pairs_within : IsHeld hs p → index_of p (bare hs) < length (pairs_of hs)
  index_of-pairs_within held = grind (arith, index_of-held, index_of-bare, length-pairs_of)

-- with no node there is none
pub none-first : {K V : Type 0} (hs : List (Held (K × V))) {o : Option Ptr} → o ≡ None → o ≡ first_at hs → first (pairs_of hs) ≡ None
none-first hs none is = grind arith

pub none-last : {K V : Type 0} (hs : List (Held (K × V))) {o : Option Ptr} → o ≡ None → o ≡ last_at hs → last (pairs_of hs) ≡ None
none-last hs none is = grind arith

pub pairs_of-none_first : {K V : Type 0} (hs : List (Held (K × V))) {o : Option Ptr} → o ≡ None → o ≡ first_at hs → pairs_of hs ≡ []
pairs_of-none_first hs none is = grind arith

pub pairs_of-none_last : {K V : Type 0} (hs : List (Held (K × V))) {o : Option Ptr} → o ≡ None → o ≡ last_at hs → pairs_of hs ≡ []
pairs_of-none_last hs none is = grind arith
