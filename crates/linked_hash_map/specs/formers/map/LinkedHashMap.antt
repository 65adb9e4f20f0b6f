-- The former of `LinkedHashMap`: how a map splits into its values and the rest, so that a type, as
-- a document of named documents, can refer to itself through them; and how comparisons and the hash
-- reach the values. Nothing here has to be believed: the checker compares it with the struct.
use Rattle.std.specs.Prelude.{◌≡◌, ℕ, List, [], ◌∷◌, map, max, ◌++◌}
use Rattle.std.specs.List.{flat_map}
use Rattle.std.specs.Map.{values_of}
use mathlib.Core.Path.{refl, sym, ap, ◌∙◌}
use mathlib.Core.Former.{Former, Count, Row, this, const, pair, list, via, children, list_count, list_put}
use base.Stored.{Coded-set, Gv, code_map, coded×, coded_list, gcons}
use denote.RattleType.{RattleType}
use denote.HoleLaws.{Alike}
use denote.HolePlaces.{Recodes, struct_places, laid}
use denote.Hole.Carrier.{listed}
use denote.Hole.Fix.{over}
use denote.Param.Nested.{deepest}
use denote.Param.Weighed.{Weighed, most, none_max, List-puts, w_pair, w_const}
use Rattle.std.specs.Cmp.Derive.Mapped.{pointwise-map, lex_map, slice_partial_cmp-map}
use Rattle.std.specs.declared.cmp.PartialEq as eq
use Rattle.std.specs.declared.hash.Hash as hash
use Rattle.std.specs.declared.hash.Hasher as hasher
use Rattle.std.specs.declared.hash.BuildHasher as builder
use Rattle.lhm_ring.specs.Placed.{by_same}
use Rattle.lhm_ring.specs.Ring.{Held, held}
use Rattle.lhm_ring.specs.formers.ring.Ring as ring
use Rattle.lhm_ring.specs.formers.table.Table as table
use Rattle.linked_hash_map.specs.declared.map.LinkedHashMap.TheInside.{Inside}
use Rattle.linked_hash_map.specs.declared.map.LinkedHashMap.TheView.{view, invariant}
use Rattle.linked_hash_map.specs.declared.map.Mode.{Mode}
use Rattle.linked_hash_map.specs.declared.map.Mode.TheVariants.{Touch}
use Rattle.linked_hash_map.specs.contracts.map.LinkedHashMap as C
use Rattle.linked_hash_map.specs.contracts.map.LinkedHashMap.TheInside as I
use Rattle.linked_hash_map.specs.Hashers.{hash_by}
use Rattle.linked_hash_map.specs.LinkedMap.{LinkedMap, CursorState, linked_map, no_cursor}
use Rattle.linked_hash_map.specs.Nodes.{IsKept, bare, bare_node, beside, cursor_at, pairs_of, visit_of}

-- a pair, by its value
abbrev pub entry : Former {0} → Type 0 → Former {0}
entry g K = pair (const K) g

abbrev pub on_value : {K X Y : Type 0} → (X → Y) → K × X → K × Y
on_value h p = (p.0, h p.1)

abbrev pub the_former : Former {0} → Type 0 → Type 0 → Type 0 → Former {0}
the_former g K S T = via (pair (list (entry g K)) (const (ℕ × (S × (CursorState × (ℕ × Mode))))))
    (λ X. LinkedMap K (g.Of X) S) (λ X m. (m.pairs, (m.capacity, (m.hasher, (m.cursor, (m.rechained, m.mode))))))
    (λ X v. linked_map v.0 v.1.0 v.1.1.0 v.1.1.1.0 v.1.1.1.1.0 v.1.1.1.1.1) (λ X m. refl) (λ X v. refl)

-- the largest measure of a value
most-values : {K Y : Type 0} (f : Y → ℕ) (es : List (K × Y)) → most (λ p. max 0 (f p.1)) es ≡ most f (values_of es)
most-values f [] = refl
most-values f (e ∷ es) = λ i. max (sym (none_max (f e.1)) i) (most-values f es i)

pub deepest-pairs : {g : Former {0}} (w : Weighed g) (K X : Type 0) (μ : X → ℕ) (es : List (K × g.Of X)) (n : Count) (t : Row X n)
    → deepest μ (list_count (entry g K) (map ((entry g K).shape X) es) n) (list_put (entry g K) X es n t)
    ≡ max (most (w.weight X μ) (values_of es)) (deepest μ n t)
deepest-pairs w K X μ es n t = List-puts (w_pair (w_const K) w) X μ es n t
    ∙ ap (λ a. max a (deepest μ n t)) (most-values (w.weight X μ) es)

abbrev pub the_weighed : {g : Former {0}} → Weighed g → (K S T : Type 0) → Weighed (the_former g K S T)
the_weighed w K S T = record {
  weight = λ X μ m. most (w.weight X μ) (values_of m.pairs);
  puts = λ X μ m. deepest-pairs w K X μ m.pairs;
}

pub the_empty : (K S T : Type 0) → K → S → T → LinkedMap K ⊥ S
the_empty K S T k s t = linked_map [] 0 s no_cursor 0 Touch

-- the values in the order of the list
abbrev pub the_items : (K S T X : Type 0) → LinkedMap K X S → List X
the_items K S T X m = values_of m.pairs

pub listed-pairs : (K X : Type 0) (es : List (K × X)) → listed _ (children (list (entry this K)) X es) ≡ values_of es
listed-pairs K X [] = refl
listed-pairs K X (e ∷ es) = ap (λ l. e.1 ∷ l) (listed-pairs K X es)

pub the_items_listed : (K S T X : Type 0) (m : LinkedMap K X S)
    → listed _ (children (the_former this K S T) X m) ≡ the_items K S T X m
the_items_listed K S T X m = listed-pairs K X m.pairs

module _ {K X Y : Type 0} (h : X → Y) where
  abbrev over_held : Held (K × X) → Held (K × Y)
  over_held = (ring.held_former this K).map X Y h

  pairs_of-over : (hs : List (Held (K × X))) → pairs_of (map over_held hs) ≡ map (on_value h) (pairs_of hs)
  pairs_of-over [] = refl
  pairs_of-over (t ∷ hs) = ap (λ l. on_value h t.pair ∷ l) (pairs_of-over hs)

  bare-over : (hs : List (Held (K × X))) → bare (map over_held hs) ≡ bare hs
  bare-over [] = refl
  bare-over (t ∷ hs) = ap (λ l. bare_node t ∷ l) (bare-over hs)

  -- the nodes us, with the pairs ps
  abbrev with_pairs : List (K × X) → List (Held (K × Y)) → List (Held (K × X))
  with_pairs [] us = []
  with_pairs (p ∷ ps) [] = []
  with_pairs (p ∷ ps) (u ∷ us) = held u.at u.hash u.link p ∷ with_pairs ps us

  with_pairs-over : (ps : List (K × X)) (us : List (Held (K × Y))) → pairs_of us ≡ map (on_value h) ps
      → map over_held (with_pairs ps us) ≡ us
  with_pairs-over [] [] e = refl
  with_pairs-over [] (u ∷ us) e = absurd (cc)
  with_pairs-over (p ∷ ps) [] e = absurd (cc)
  with_pairs-over (p ∷ ps) (u ∷ us) e =
      let first : u.pair ≡ on_value h p = cc in let rest : pairs_of us ≡ map (on_value h) ps = cc in
      λ i. held u.at u.hash u.link (sym first i) ∷ with_pairs-over ps us rest i

  pairs_of-with_pairs : (ps : List (K × X)) (us : List (Held (K × Y))) → pairs_of us ≡ map (on_value h) ps
      → pairs_of (with_pairs ps us) ≡ ps
  pairs_of-with_pairs [] us e = refl
  pairs_of-with_pairs (p ∷ ps) [] e = absurd (cc)
  pairs_of-with_pairs (p ∷ ps) (u ∷ us) e =
      let rest : pairs_of us ≡ map (on_value h) ps = cc in ap (λ l. p ∷ l) (pairs_of-with_pairs ps us rest)

  with_pairs-own : (hs : List (Held (K × X))) → with_pairs (pairs_of hs) (map over_held hs) ≡ hs
  with_pairs-own [] = refl
  with_pairs-own (t ∷ hs) = ap (λ l. t ∷ l) (with_pairs-own hs)

module _ (K S T : RattleType) (G : eq.Ghosts K.Denot) (H : hash.Ghosts K.Denot) (B : builder.Ghosts S.Denot T.Denot)
    (W : hasher.Ghosts T.Denot) (R R' : RattleType) (h : R.Denot → R'.Denot) where
  abbrev Fields : Type 0 → Type 0
  Fields X = Inside K.Denot X S.Denot T.Denot

  abbrev seen : (X : Type 0) → Fields X → LinkedMap K.Denot X S.Denot
  seen X = view K.Denot X S.Denot T.Denot G H B W

  abbrev kept : (X : Type 0) → Fields X → Type 0
  kept X = invariant K.Denot X S.Denot T.Denot G H B W

  abbrev along : LinkedMap K.Denot R.Denot S.Denot → LinkedMap K.Denot R'.Denot S.Denot
  along = (the_former this K.Denot S.Denot T.Denot).map R.Denot R'.Denot h

  abbrev mapped : Fields R.Denot → Fields R'.Denot
  mapped m = record {
    table = (table.the_former this K.Denot).map R.Denot R'.Denot h m.table;
    hasher = m.hasher;
    state = m.state;
  }

  abbrev with_held : {X Y : Type 0} → Fields Y → List (Held (K.Denot × X)) → Fields X
  with_held b hs = record {
    table = record { held = hs; capacity = b.table.capacity; rechained = b.table.rechained; made = b.table.made };
    hasher = b.hasher;
    state = b.state;
  }

  -- the fields, rebuilt from the mapped fields and what the map shows
  abbrev again : LinkedMap K.Denot R.Denot S.Denot → Fields R'.Denot → Fields R.Denot
  again d b = with_held b (with_pairs h d.pairs b.table.held)

  natural : (m : Fields R.Denot) → seen R'.Denot (mapped m) ≡ along (seen R.Denot m)
  natural m = λ i. linked_map (pairs_of-over h m.table.held i) m.table.capacity m.hasher
      (cursor_at (beside m).visit (bare-over h m.table.held i)) m.table.rechained m.state.mode

  kept-over : (m : Fields R.Denot) → kept R'.Denot (mapped m) ≡ kept R.Denot m
  kept-over m = ap (λ us. IsKept G.eq (hash_by W.finish W.write B.build_hasher H.hash_input m.hasher) us m.table.capacity
      (visit_of m.state)) (bare-over h m.table.held)

  module _ (d : LinkedMap K.Denot R.Denot S.Denot) (b : Fields R'.Denot) (p : seen R'.Denot b ≡ along d) where
    shown : pairs_of b.table.held ≡ map (on_value h) d.pairs
    shown = ap (λ m. m.pairs) p

    its_map : mapped (again d b) ≡ b
    its_map = ap (with_held b) (with_pairs-over h d.pairs b.table.held shown)

    same_bare : bare (again d b).table.held ≡ bare b.table.held
    same_bare = sym (bare-over h (again d b).table.held) ∙ ap bare (with_pairs-over h d.pairs b.table.held shown)

    its_view : seen R.Denot (again d b) ≡ d
    its_view = λ i. linked_map (pairs_of-with_pairs h d.pairs b.table.held shown i) (p i).capacity (p i).hasher
        ((ap (cursor_at (beside b).visit) same_bare ∙ ap (λ m. m.cursor) p) i) (p i).rechained (p i).mode

  back : (m : Fields R.Denot) → again (seen R.Denot m) (mapped m) ≡ m
  back m = ap (with_held m) (with_pairs-own h m.table.held)

  pub the_places : Alike R R' h → Alike (C.the_row K R S T G H B W) (C.the_row K R' S T G H B W) along
  the_places a = by_same (Fields R.Denot) (Fields R'.Denot) (LinkedMap K.Denot R.Denot S.Denot) (LinkedMap K.Denot R'.Denot S.Denot)
      mapped along (seen R.Denot) (seen R'.Denot) (C.the_row K R S T G H B W).coded (C.the_row K R' S T G H B W).coded natural
      (Coded-set (I.the_row K R' S T G H B W).coded) (kept R.Denot) (kept R'.Denot) kept-over again its_map its_view back
      (over (I.the_row K R S T G H B W)) (over (I.the_row K R' S T G H B W))
      (struct_places (I.the_type K R S T G H B W) (I.the_type K R' S T G H B W)
      ((table.the_former this K.Denot).map R.Denot R'.Denot h, (λ n. n, (λ n. n, tt))) mapped (λ d. refl) refl
      (laid _ _ _ (table.the_places K R R' h a), ((refl, (λ n. refl, λ n. refl)), ((refl, (λ n. refl, λ n. refl)), tt))))

pub gcons-same : {a b c : Gv} → a ≡ b → gcons a c ≡ gcons b c
gcons-same {c = c} e = λ i. gcons (e i) c

pub code-pairs : (K R R' : RattleType) (h : R.Denot → R'.Denot) → Recodes R R' h → (es : List (K.Denot × R.Denot))
    → (coded_list (coded× K.coded R'.coded)).code (map (on_value h) es) ≡ (coded_list (coded× K.coded R.coded)).code es
code-pairs K R R' h e es = sym (code_map (coded× K.coded R.coded).code (coded× K.coded R'.coded).code (on_value h)
    (λ x i. gcons (K.coded.code x.0) (sym (e x.1) i)) es)

pub the_codes_placed : (K S T : RattleType) (G : eq.Ghosts K.Denot) (H : hash.Ghosts K.Denot) (B : builder.Ghosts S.Denot T.Denot)
    (W : hasher.Ghosts T.Denot) (R R' : RattleType) (h : R.Denot → R'.Denot) → Recodes R R' h
    → Recodes (C.the_row K R S T G H B W) (C.the_row K R' S T G H B W) ((the_former this K.Denot S.Denot T.Denot).map R.Denot R'.Denot h)
the_codes_placed K S T G H B W R R' h e m = gcons-same (code-pairs K R R' h e m.pairs)

pub ruleset naturals = (pointwise-map, lex_map, slice_partial_cmp-map)

flat_map-pairs : {K X Y A : Type 0} (h : X → Y) (f : K × Y → List A) (es : List (K × X))
    → flat_map f (map (on_value h) es) ≡ flat_map (λ p. f (on_value h p)) es
flat_map-pairs h f [] = refl
flat_map-pairs h f (e ∷ es) = ap (λ l. f (on_value h e) ++ l) (flat_map-pairs h f es)

pub the_hash_input_natural : (K S T X Y : Type 0) (h : X → Y) (G : eq.Ghosts K) (H : hash.Ghosts K) (V : hash.Ghosts Y)
    (V' : eq.Ghosts Y) (B : builder.Ghosts S T) (W : hasher.Ghosts T) (m : LinkedMap K X S)
    → flat_map (λ p. H.hash_input p.0 ++ V.hash_input p.1) ((the_former this K S T).map X Y h m).pairs
    ≡ flat_map (λ p. H.hash_input p.0 ++ V.hash_input (h p.1)) m.pairs
the_hash_input_natural K S T X Y h G H V V' B W m = flat_map-pairs h (λ p. H.hash_input p.0 ++ V.hash_input p.1) m.pairs
