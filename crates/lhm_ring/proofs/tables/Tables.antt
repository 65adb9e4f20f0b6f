-- A table: what it shows of the nodes of its ring, which stand there without their links.
use Rattle.lhm_ring.proofs.Names.{AtHeld, BucketState, ChangesLinks, ChangesOnly, Held, HoldsOthers, IfSome, Indexes, IsApart, IsHeld}
use Rattle.lhm_ring.proofs.Names.{IsTable, KeepsCounts, List, None, OnErr, OnOk, Option, Position, Ptr, PutsIn, Result, State, TableState}
use Rattle.lhm_ring.proofs.Names.{WritesOnly, [], ap, arith, buckets, change_at, cond, entries, eq-eqb, last_at, least_more, length}
use Rattle.lhm_ring.proofs.Names.{length-append, length-map, linked_to, made_raised, map, max, most_nodes, ne_eqb, nodes_grown, pointer_of}
use Rattle.lhm_ring.proofs.Names.{rechained_raised, refl, rekeyed, revalued, spot, spots, state, subst, sym, table_of, triples, with_value}
use Rattle.lhm_ring.proofs.Names.{ℕ, ◌++◌, ◌+◌, ◌-◌, ◌<◌, ◌^◌, ◌∙◌, ◌∷◌, ◌≡◌, ◌≤◌}
use Rattle.lhm_ring.proofs.indexes.BucketCounts.{buckets-at_least, buckets-below, buckets-raised, made_raised-higher, rechained-within}
use Rattle.lhm_ring.proofs.indexes.Entries.{AtHeld-entries, IsHeld-entries, entries-append, entries-change_at, last_at-entries}
use Rattle.lhm_ring.proofs.indexes.Entries.{length-entries, length-same_entries, pointers-entries, triples-entries}
use Rattle.lhm_ring.proofs.indexes.{IndexMoves.spots-rekeyed, IndexMoves.spots-value, Spots.PutsIn-spots}
use Rattle.lhm_ring.proofs.tables.IndexedRing.{IsIndexed-moved, IsIndexed-same_spots, IsIndexed-value}
use Rattle.lhm_ring.{proofs.tables.Positions.MovedTo, proofs.tables.Positions.length-moved_to, specs.TableAfterLoan.with_value as write}

pub KeepsCounts-trans : {B : Type 0} {l m n : TableState B} → KeepsCounts l m → KeepsCounts m n → KeepsCounts l n
KeepsCounts-trans f g = grind arith

-- a table that is seen as m
module _ {K V : Type 0} {i : BucketState} {s : State (K × V)} {r : ℕ} (table : IsTable i s r) {m : TableState (K × V)}
    (seen : table_of s r ≡ m) where
  pub IsHeld-table : {p : Ptr} → IsHeld m.held p → IsHeld s.held p
  IsHeld-table {p} h = IsHeld-entries s.held p (subst (λ (z : TableState (K × V)). IsHeld z.held p) (sym seen) h)

  pub IfSome-table : (o : Option (Position K V)) → IfSome o (λ at. IsHeld m.held (pointer_of at))
      → IfSome o (λ at. IsHeld s.held (pointer_of at))
  IfSome-table o h = grind (arith, IsHeld-table)

  -- what holds at a position of nodes with the entries of the table
  pub AtHeld-same_entries : (ks : List (Held (K × V))) → entries ks ≡ entries s.held
      → {p : Ptr} (P : List (Held (K × V)) → Held (K × V) → List (Held (K × V)) → Type 0)
      → AtHeld ks p (λ xs t ys. P (entries xs) (linked_to None t) (entries ys)) → AtHeld m.held p P
  AtHeld-same_entries ks same {p} P h = subst (λ (hs : List (Held (K × V))). AtHeld hs p P)
      (same ∙ ap (λ (z : TableState (K × V)). z.held) seen) (AtHeld-entries ks p P h)

  pub AtHeld-table : {p : Ptr} (P : List (Held (K × V)) → Held (K × V) → List (Held (K × V)) → Type 0)
      → AtHeld s.held p (λ xs t ys. P (entries xs) (linked_to None t) (entries ys)) → AtHeld m.held p P
  AtHeld-table P h = AtHeld-same_entries s.held refl P h

  pub AtHeld-table_previous : {p : Ptr} {o : Option Ptr} → AtHeld s.held p (λ xs t ys. o ≡ last_at xs)
      → AtHeld m.held p (λ xs t ys. o ≡ last_at xs)
  AtHeld-table_previous {o = o} before = AtHeld-table (λ xs t ys. o ≡ last_at xs)
      (λ xs t ys e at. before xs t ys e at ∙ sym (last_at-entries xs))

  pub IsApart-table : IsApart (map (λ t. t.at) s.held) → IsApart (map (λ t. t.at) m.held)
  IsApart-table h = subst IsApart (sym (pointers-entries s.held) ∙ ap (λ (z : TableState (K × V)). map (λ t. t.at) z.held) seen) h

  pub length-table : length s.held ≡ length m.held
  length-table = sym (length-entries s.held) ∙ ap (λ (z : TableState (K × V)). length z.held) seen

  pub triples-table : triples s.held ≡ triples m.held
  triples-table = sym (triples-entries s.held) ∙ ap (λ (z : TableState (K × V)). triples z.held) seen

  pub length-capacity : length s.held + s.spares ≡ m.capacity
  length-capacity = ap (λ (z : TableState (K × V)). z.capacity) seen

  pub heads-table : length i.heads ≡ buckets m.capacity
  heads-table = table.indexed.count ∙ ap buckets length-capacity

  pub rechained_raised-moves : (d : ℕ) → length i.heads < d → rechained_raised m.rechained (length m.held) m.capacity d
      ≡ m.rechained + length m.held
  rechained_raised-moves d few = ap (λ b. cond b m.rechained (m.rechained + length m.held))
      (ne_eqb (buckets m.capacity) (buckets d) (λ e. absurd (omega (arith, few, heads-table, e, buckets-at_least d))))

  pub spares-table : length m.held < m.capacity → 0 < s.spares
  spares-table room = omega (arith, length-table, length-capacity, room)

  pub KeepsCounts-table : (t : State (K × V)) → length t.held + t.spares ≡ length s.held + s.spares → t.nodes ≡ s.nodes
      → KeepsCounts m (table_of t r)
  KeepsCounts-table t same made = grind (arith, length-capacity)

  -- a pair was moved
  pub KeepsCounts-moved : {t : State (K × V)} {p : Ptr} {h : IsHeld s.held p} → MovedTo h t.held
      → t.spares ≡ s.spares → t.nodes ≡ s.nodes → KeepsCounts m (table_of t r)
  KeepsCounts-moved {t} moved spares made = KeepsCounts-table t (omega (arith, length-moved_to moved, spares)) made

  -- a value was written at p
  pub table_of-value : (p : Ptr) (w : V) → table_of (with_value s p w) r ≡ write m p w
  table_of-value p w = let same = ap length (spots-value p w s.held) in grind (arith, length-map, entries-change_at)

  pub WritesOnly-table : {p : Ptr} → ChangesOnly s.held p → WritesOnly m.held p
  WritesOnly-table {p} alone = AtHeld-table (λ xs t ys. (w : V) → change_at p (revalued w) m.held ≡ xs ++ revalued w t ∷ ys)
      (λ xs t ys e at w.
      ap (λ (z : TableState (K × V)). change_at p (revalued w) z.held) (sym seen) ∙ sym (entries-change_at p w s.held)
      ∙ ap entries (alone xs t ys e at (revalued w)) ∙ entries-append xs (revalued w t ∷ ys))

  -- all that was held is out
  pub table_of-drained : table_of (state [] (s.spares + length s.held) s.nodes) r ≡ record m { held = [] }
  table_of-drained = grind arith

-- as many buckets do for a higher capacity that is not above their count
buckets-stay : (c d : ℕ) → c < d → d ≤ buckets c → buckets c ≡ buckets d
buckets-stay c d up enough = grind (arith, buckets-raised, buckets-below)

-- what a growth of the ring by some spare nodes leaves, if the chunks may have so many nodes
pub record IsRingGrown {E B : Type 0} (s t : State B) (more most : ℕ) (result : Result (Unit {0}) E) : Type 0 where
  pub held : OnOk result (t.held ≡ s.held)
  pub spares : OnOk result (t.spares ≡ s.spares + more)
  pub nodes : OnOk result (s.nodes ≤ most → length s.held + s.spares + more ≤ most → t.nodes ≤ most)
  pub refused : OnErr result (t ≡ s)

module _ {K V : Type 0} {i : BucketState} {s : State (K × V)} {r : ℕ} (table : IsTable i s r) where
  -- the same pairs in order, except for chain links
  pub IsTable-rechained : {i' : BucketState} {t : State (K × V)} {q : ℕ} → entries t.held ≡ entries s.held
      → length s.held + t.spares ≤ 2 ^ 59 → Indexes i' (spots t.held) → length i'.heads ≡ buckets (length s.held + t.spares)
      → q ≤ length i'.heads → t.nodes ≤ most_nodes (length i'.heads) → IsTable i' t q
  IsTable-rechained same within indexes count few made = grind (arith, length-same_entries)

  -- a value was written
  pub IsTable-value : (p : Ptr) (w : V) → IsTable i (with_value s p w) r
  IsTable-value p w = grind (arith, length-map, spots-value, IsIndexed-value)

  -- a key was written
  module _ (t : State (K × V)) {p : Ptr} (k : K) (h : IsHeld s.held p)
      (is : AtHeld s.held p (λ xs x ys. t.held ≡ xs ++ rekeyed k x ∷ ys)) where
    spots_rekeyed : spots t.held ≡ spots s.held
    spots_rekeyed = grind (arith, spots-rekeyed)

    pub length-rekeyed : length t.held ≡ length s.held
    length-rekeyed = let same = ap length spots_rekeyed in grind (arith, length-map)

    pub IsTable-rekeyed : t.spares ≡ s.spares → t.nodes ≡ s.nodes → IsTable i t r
    IsTable-rekeyed spares made = grind (arith, length-rekeyed, IsIndexed-same_spots, spots_rekeyed)

  -- a pair was moved
  pub IsTable-moved : {t : State (K × V)} {p : Ptr} {h : IsHeld s.held p} (m : MovedTo h t.held)
      → t.spares ≡ s.spares → t.nodes ≡ s.nodes → IsTable i t r
  IsTable-moved {t} {h = h} m spares made =
      let long = length-moved_to m in
      let puts = subst (λ (v : List (Held (K × V)) × List (Held (K × V))). PutsIn (spot h.node) (spots v.0) (spots v.1))
      (λ j. (sym m.cut j, sym m.is j)) (PutsIn-spots m.before h.node m.after) in
      record {
        indexed = IsIndexed-moved i s t table.indexed spares h puts long;
        few = table.few;
        limit = omega (arith, long, spares, table.limit);
        nodes_within = omega (arith, made, table.nodes_within);
      }

  -- the node at p was removed from its chain, and then from the ring
  module _ {i' : BucketState} {t w : State (K × V)} {p : Ptr}
      (links : ChangesLinks s t) (lacks : HoldsOthers i' t.held p) (others : AtHeld t.held p (λ xs x ys. w.held ≡ xs ++ ys))
      (more : w.spares ≡ t.spares + 1) (stay : w.nodes ≡ t.nodes) where
    pub length-with_spares : length s.held + s.spares ≡ length w.held + w.spares
    length-with_spares =
        let h = lacks.held in let out = ap length (others h.before h.node h.after h.is h.at_is) in let of_held = ap length h.is in
        grind (arith, length-append, length-same_entries)

    pub IsTable-removed : length i'.heads ≡ length i.heads → IsTable i' w r
    IsTable-removed count = grind (arith, length-with_spares)

  -- the capacity rises, and the buckets do for it: no node is rehashed
  module _ (d : ℕ) (up : length s.held + s.spares < d) (enough : d ≤ length i.heads) where
    buckets-same : buckets (length s.held + s.spares) ≡ buckets d
    buckets-same = buckets-stay (length s.held + s.spares) d up (omega (arith, enough, table.indexed.count))

    pub rechained_raised-stays : (len : ℕ) → rechained_raised r len (length s.held + s.spares) d ≡ r
    rechained_raised-stays len = ap (λ b. cond b r (r + len)) (eq-eqb (buckets (length s.held + s.spares)) (buckets d) buckets-same)

    pub made_raised-stays : made_raised s.nodes (length s.held + s.spares) d
        ≡ nodes_grown s.nodes d (least_more (d - (length s.held + s.spares)) s.nodes (max 2 (length i.heads)))
    made_raised-stays = grind (arith, made_raised-higher, buckets-same)

    pub IsTable-grown : {E : Type 0} {t : State (K × V)} {more most : ℕ} (result : Result (Unit {0}) E) → most ≡ max 2 (length i.heads)
        → IsRingGrown s t more most result → d ≡ length s.held + s.spares + more → d ≤ 2 ^ 59 → IsTable i t r
    IsTable-grown result wide grown all within = grind (arith, IsTable-rechained, buckets-same)

  -- it rises above the number of buckets: each node can be rehashed
  module _ (d : ℕ) (up : length s.held + s.spares < d) (few : length i.heads < d) where
    pub rechained-fits : r + length s.held ≤ buckets d
    rechained-fits = rechained-within r (length s.held) (length s.held + s.spares) d
        (omega (arith, table.few, table.indexed.count)) (omega arith) (omega (arith, up))
        (λ e. absurd (omega (arith, few, table.indexed.count, e, buckets-at_least d)))

    -- the ring grew by some spare nodes, and each node was rehashed
    pub IsTable-raised : {i' : BucketState} {t w : State (K × V)} {most moved : ℕ} (more : ℕ) → t.held ≡ s.held → t.spares ≡ s.spares + more
        → (s.nodes ≤ most → length s.held + s.spares + more ≤ most → t.nodes ≤ most) → ChangesLinks t w → Indexes i' (spots w.held)
        → length i'.heads ≡ buckets d → d ≡ length s.held + s.spares + more → d ≤ 2 ^ 59 → most ≡ max 2 (buckets d) → moved ≡ length t.held
        → IsTable i' w (r + moved)
    IsTable-raised more same spares made links indexed wide all within most moved =
        grind (arith, buckets-at_least, IsTable-rechained, rechained-fits)
