-- The former of `Table`: how a table splits into the values of its pairs and the rest, so that a type
-- can refer to itself through it. The values are in the order of the list. Nothing here has to be
-- believed: the checker compares it with the struct.
use Rattle.std.specs.Prelude.{◌≡◌, ℕ, None, List, [], ◌∷◌, ◌+◌, ◌≤◌, ◌^◌, map, length}
use mathlib.Core.Path.{refl, sym, ap, ◌∙◌}
use mathlib.Core.Equiv.{Iso, iso_to_equiv}
use mathlib.Core.Former.{Former, this, const, pair, list, via}
use lib.ListN.{length-map}
use base.Stored.{Coded-set}
use denote.RattleType.{RattleType}
use denote.HoleLaws.{Alike}
use denote.HolePlaces.{struct_places, laid}
use denote.Hole.Fix.{over}
use Rattle.lhm_ring.specs.Placed.{by_same}
use Rattle.lhm_ring.specs.Ring.{State, Held, linked_to, state}
use Rattle.lhm_ring.specs.Index.{spot, spots, entries, Spot, Indexes}
use Rattle.lhm_ring.specs.Buckets.{BucketState, buckets}
use Rattle.lhm_ring.specs.Links.{most_nodes}
use Rattle.lhm_ring.specs.Table.{TableState, IsTable}
use Rattle.lhm_ring.specs.declared.table.Table.TheInside.{Inside}
use Rattle.lhm_ring.specs.declared.table.Table.TheView.{view, invariant}
use Rattle.lhm_ring.specs.contracts.table.Table as C
use Rattle.lhm_ring.specs.contracts.table.Table.TheInside as I
use Rattle.lhm_ring.specs.formers.index.Index as index
use Rattle.lhm_ring.specs.formers.ring.Ring as ring

abbrev pub the_former : Former {0} → Type 0 → Former {0}
the_former g K = via (pair (list (ring.held_former g K)) (const (ℕ × (ℕ × ℕ)))) (λ X. TableState (K × g.Of X))
    (λ X t. (t.held, (t.capacity, (t.rechained, t.made))))
    (λ X v. record { held = v.0; capacity = v.1.0; rechained = v.1.1.0; made = v.1.1.1 }) (λ X s. refl) (λ X v. refl)

-- `IsTable`, by what it reads, which is no value
abbrev IsTableOf : BucketState → ℕ → ℕ → ℕ → List Spot → ℕ → Type 0
IsTableOf i spares nodes rechained ss n =
    Indexes i ss × ((length i.heads ≡ buckets (n + spares)) × ((rechained ≤ length i.heads)
    × ((n + spares ≤ 2 ^ 59) × (nodes ≤ most_nodes (length i.heads)))))

IsTable-of : {K X : Type 0} (i : BucketState) (s : State (K × X)) (r : ℕ)
    → IsTable i s r ≡ IsTableOf i s.spares s.nodes r (spots s.held) (length s.held)
IsTable-of i s r =
    let read : Iso (IsTable i s r) (IsTableOf i s.spares s.nodes r (spots s.held) (length s.held)) = record {
      fun = λ t. (t.indexed.indexes, (t.indexed.count, (t.few, (t.limit, t.nodes_within))));
      inv = λ u. record {
        indexed = record { indexes = u.0; count = u.1.0 };
        few = u.1.1.0;
        limit = u.1.1.1.0;
        nodes_within = u.1.1.1.1;
      };
      rinv = λ u. refl;
      linv = λ t. refl;
    } in
    λ k. V k (IsTable i s r) (IsTableOf i s.spares s.nodes r (spots s.held) (length s.held)) (iso_to_equiv read)

module _ (K : Type 0) {X Y : Type 0} (h : X → Y) where
  abbrev over_held : Held (K × X) → Held (K × Y)
  over_held = (ring.held_former this K).map X Y h

  spots-over : (hs : List (Held (K × X))) → spots (map over_held hs) ≡ spots hs
  spots-over [] = refl
  spots-over (t ∷ hs) = ap (λ ss. spot t ∷ ss) (spots-over hs)

  entries-over : (hs : List (Held (K × X))) → entries (map over_held hs) ≡ map over_held (entries hs)
  entries-over [] = refl
  entries-over (t ∷ hs) = ap (λ us. over_held (linked_to None t) ∷ us) (entries-over hs)

  -- ts, each with the chain link of the one in us
  abbrev relinked : List (Held (K × X)) → List (Held (K × Y)) → List (Held (K × X))
  relinked [] us = []
  relinked (t ∷ ts) [] = []
  relinked (t ∷ ts) (u ∷ us) = linked_to u.link t ∷ relinked ts us

  relinked-over : (ts : List (Held (K × X))) (us : List (Held (K × Y))) → entries us ≡ map over_held ts
      → map over_held (relinked ts us) ≡ us
  relinked-over [] [] e = refl
  relinked-over [] (u ∷ us) e = absurd (cc)
  relinked-over (t ∷ ts) [] e = absurd (cc)
  relinked-over (t ∷ ts) (u ∷ us) e =
      let first : linked_to None u ≡ over_held t = cc in let rest : entries us ≡ map over_held ts = cc in
      λ i. linked_to u.link (sym first i) ∷ relinked-over ts us rest i

  entries-relinked : (ts : List (Held (K × X))) (us : List (Held (K × Y))) → entries us ≡ map over_held ts
      → entries (relinked ts us) ≡ ts
  entries-relinked [] us e = refl
  entries-relinked (t ∷ ts) [] e = absurd (cc)
  entries-relinked (t ∷ ts) (u ∷ us) e =
      let first : linked_to None u ≡ over_held t = cc in let rest : entries us ≡ map over_held ts = cc in
      λ i. linked_to (first i).link t ∷ entries-relinked ts us rest i

  relinked-own : (ts : List (Held (K × X))) → relinked (entries ts) (map over_held ts) ≡ ts
  relinked-own [] = refl
  relinked-own (t ∷ ts) = ap (λ us. t ∷ us) (relinked-own ts)

  length-relinked : (ts : List (Held (K × X))) (us : List (Held (K × Y))) → entries us ≡ map over_held ts
      → length (relinked ts us) ≡ length us
  length-relinked ts us e = sym (length-map (relinked ts us) over_held) ∙ ap length (relinked-over ts us e)

  abbrev mapped : Inside K X → Inside K Y
  mapped t = record { ring = (ring.the_former this K).map X Y h t.ring; index = t.index; rechained = t.rechained }

  abbrev with_held : Inside K Y → List (Held (K × X)) → Inside K X
  with_held b hs = record { ring = state hs b.ring.spares b.ring.nodes; index = b.index; rechained = b.rechained }

  -- the fields, rebuilt from the mapped fields and what the table shows
  abbrev again : TableState (K × X) → Inside K Y → Inside K X
  again d b = with_held b (relinked d.held b.ring.held)

  natural : (t : Inside K X) → view K Y (mapped t) ≡ (the_former this K).map X Y h (view K X t)
  natural t = λ i. record {
    held = entries-over t.ring.held i;
    capacity = length-map t.ring.held over_held i + t.ring.spares;
    rechained = t.rechained;
    made = t.ring.nodes;
  }

  kept : (t : Inside K X) → invariant K Y (mapped t) ≡ invariant K X t
  kept t = IsTable-of t.index (mapped t).ring t.rechained
      ∙ (λ i. IsTableOf t.index t.ring.spares t.ring.nodes t.rechained (spots-over t.ring.held i)
      (length-map t.ring.held over_held i))
      ∙ sym (IsTable-of t.index t.ring t.rechained)

  module _ (d : TableState (K × X)) (b : Inside K Y) (p : view K Y b ≡ (the_former this K).map X Y h d) where
    shown : entries b.ring.held ≡ map over_held d.held
    shown = ap (λ s. s.held) p

    its_map : mapped (again d b) ≡ b
    its_map = λ i. record {
      ring = state (relinked-over d.held b.ring.held shown i) b.ring.spares b.ring.nodes;
      index = b.index;
      rechained = b.rechained;
    }

    its_view : view K X (again d b) ≡ d
    its_view = λ i. record {
      held = entries-relinked d.held b.ring.held shown i;
      capacity = (ap (λ n. n + b.ring.spares) (length-relinked d.held b.ring.held shown) ∙ ap (λ s. s.capacity) p) i;
      rechained = (p i).rechained;
      made = (p i).made;
    }

  back : (t : Inside K X) → again (view K X t) (mapped t) ≡ t
  back t = λ i. record {
    ring = state (relinked-own t.ring.held i) t.ring.spares t.ring.nodes;
    index = t.index;
    rechained = t.rechained;
  }

module _ (K R R' : RattleType) (h : R.Denot → R'.Denot) where
  pub the_places : Alike R R' h → Alike (C.the_row K R) (C.the_row K R') ((the_former this K.Denot).map R.Denot R'.Denot h)
  the_places a = by_same (Inside K.Denot R.Denot) (Inside K.Denot R'.Denot) (TableState (K.Denot × R.Denot))
      (TableState (K.Denot × R'.Denot)) (mapped K.Denot h) ((the_former this K.Denot).map R.Denot R'.Denot h)
      (view K.Denot R.Denot) (view K.Denot R'.Denot) (C.the_row K R).coded (C.the_row K R').coded (natural K.Denot h)
      (Coded-set (I.the_row K R').coded) (invariant K.Denot R.Denot) (invariant K.Denot R'.Denot) (kept K.Denot h)
      (again K.Denot h) (its_map K.Denot h) (its_view K.Denot h) (back K.Denot h) (over (I.the_row K R)) (over (I.the_row K R'))
      (struct_places (I.the_type K R) (I.the_type K R') ((ring.the_former this K.Denot).map R.Denot R'.Denot h, (λ n. n, (λ n. n, tt)))
      (mapped K.Denot h) (λ d. refl) refl
      (laid _ _ _ (ring.the_places K R R' h a), (laid _ _ _ (index.the_places K R R' h a), ((refl, (λ n. refl, λ n. refl)), tt))))
