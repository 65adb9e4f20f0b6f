-- What callers see of a table, and what `retain` leaves of it.
use Rattle.std.specs.Prelude.{◌≡◌, ℕ, ◌+◌, ◌≤◌, ◌^◌, Bool, List, ◌∷◌, ◌++◌, length, cond, []}
use denote.RawPtr.{Ptr}
use Rattle.lhm_ring.specs.Ring.{State, Held, AtHeld, change_at, revalued, IsHeld}
use Rattle.lhm_ring.specs.Search.{HasKey}
use Rattle.lhm_ring.specs.Index.{entries, IsIndexed}
use Rattle.lhm_ring.specs.Buckets.{BucketState}
use Rattle.lhm_ring.specs.Links.{most_nodes}

-- the pairs in order, each with its position and its hash and with no chain link; the capacity; how
-- many nodes rehashes have moved; and how many nodes the chunks have
pub record TableState (B : Type 0) : Type 0 where
  pub held : List (Held B)
  pub capacity : ℕ
  pub rechained : ℕ
  pub made : ℕ

-- the capacity, the count of moved nodes and that of all nodes stay
pub record KeepsCounts {B : Type 0} (old new : TableState B) : Type 0 where
  pub capacity : new.capacity ≡ old.capacity
  pub rechained : new.rechained ≡ old.rechained
  pub made : new.made ≡ old.made

-- a table with this ring and this count
abbrev pub table_of : {K V : Type 0} → State (K × V) → ℕ → TableState (K × V)
table_of s rechained =
    record {
      held = entries s.held;
      capacity = length s.held + s.spares;
      rechained = rechained;
      made = s.nodes;
    }

-- the index is that of the ring, the count is at most the number of buckets, the capacity is at most
-- that of a ring, and the chunks have at most as many nodes as there are buckets, but two with one
pub record IsTable {K V : Type 0} (i : BucketState) (s : State (K × V)) (rechained : ℕ) : Type 0 where
  pub indexed : IsIndexed i s
  pub few : rechained ≤ length i.heads
  pub limit : length s.held + s.spares ≤ 2 ^ 59
  pub nodes_within : s.nodes ≤ most_nodes (length i.heads)

-- a value written at p changes one pair, and no other
abbrev pub WritesOnly : {K V : Type 0} → List (Held (K × V)) → Ptr → Type 0
WritesOnly {K} {V} hs p =
    AtHeld hs p (λ xs t ys. (w : V) → change_at p (revalued w) hs ≡ xs ++ revalued w t ∷ ys)

-- the pair at p, which has the hash and the key, was removed
pub record Removes {K V : Type 0} (is_key : K → Bool) (hash : ℕ)
    (old new : List (Held (K × V))) (removed : K × V) : Type 0 where
  pub at : Ptr
  pub has : HasKey is_key hash old at
  pub others : AtHeld old at (λ xs t ys. new ≡ xs ++ ys)
  pub pair_is : AtHeld old at (λ xs t ys. removed ≡ t.pair)

-- a pair is held at p, and f may be called at it
pub record TakesAt {F K V : Type 0} (Q : F → K → V → Type 0) (f : F) (hs : List (Held (K × V)))
    (p : Ptr) : Type 0 where
  pub held : IsHeld hs p
  pub takes : Q f held.node.pair.0 held.node.pair.1

module _ {F K V : Type 0} (T : F → K → V → Bool → V → F → Type 0) where
  -- f was called at the pair at p, returned b, and left the value w there
  abbrev pub CallsAt : F → List (Held (K × V)) → Ptr → Bool → V → F → Type 0
  CallsAt f hs p b w f' = AtHeld hs p (λ xs t ys. T f t.pair.0 t.pair.1 b w f')

  -- and the pair stayed with that value, or was removed
  pub record RetainsAt (f : F) (hs : List (Held (K × V))) (p : Ptr) (new : List (Held (K × V)))
      (f' : F) : Type 0 where
    pub returned : Bool
    pub value : V
    pub called : CallsAt f hs p returned value f'
    pub new_is : AtHeld hs p (λ xs t ys. new ≡ xs ++ cond returned (revalued value t ∷ ys) ys)

  -- f was called at each pair in turn, and kept has those at which it returned `true`, with the
  -- values that it left there. Of the first pair: what the call returned, the value and the closure
  -- that it left, and the rest, which is what is kept of the pairs after it
  abbrev pub RetainsHeld : F → List (Held (K × V)) → List (Held (K × V)) → Type 0
  RetainsHeld f [] kept = kept ≡ []
  RetainsHeld f (t ∷ hs) kept = record {
    returned : Bool;
    value : V;
    closure : F;
    rest : List (Held (K × V));
    called : T f t.pair.0 t.pair.1 returned value closure;
    retained : RetainsHeld closure hs rest;
    kept_is : kept ≡ cond returned (revalued value t ∷ rest) rest;
  }
