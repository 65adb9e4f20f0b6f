-- The former of `LruCache`: how a cache splits into its values and the rest, so that a type can refer
-- to itself through them. The values are in the order of the map. Nothing here has to be believed:
-- the checker compares it with the struct.
use Rattle.std.specs.Prelude.{◌≡◌, ℕ, ◌≤◌, ◌+◌, List, [], ◌∷◌, map, length}
use Rattle.std.specs.List.{IsDistinct, IsDistinct-prop}
use Rattle.std.specs.Map.{keys_of, values_of}
use mathlib.Core.Path.{refl, sym, ap, subst, ◌∙◌}
use mathlib.Core.Former.{Former, this, const, pair, list, via, children}
use native.Mathlib.Bridge.{le_prop}
use lib.ListN.{length-map}
use base.Stored.{Coded-set}
use denote.RattleType.{RattleType}
use denote.HoleLaws.{Alike}
use denote.HolePlaces.{Recodes, struct_places, laid}
use denote.Hole.Carrier.{listed}
use denote.Hole.Fix.{over}
use denote.Model.Placed.{view_places}
use denote.Param.Weighed.{Weighed, most}
use Rattle.std.specs.declared.cmp.PartialEq as eq
use Rattle.std.specs.declared.hash.Hash as hash
use Rattle.std.specs.declared.hash.Hasher as hasher
use Rattle.std.specs.declared.hash.BuildHasher as builder
use Rattle.linked_hash_map.specs.contracts.map.Mode as mode
use Rattle.linked_hash_map.specs.LinkedMap.{LinkedMap}
use Rattle.linked_hash_map.specs.declared.map.TheConstants.{LIMIT}
use Rattle.linked_hash_map.specs.formers.map.LinkedHashMap as linked
use Rattle.lru_cache.specs.Cache.{Cache, cache, IsKept}
use Rattle.lru_cache.specs.declared.cache.LruCache.TheInside.{Inside}
use Rattle.lru_cache.specs.declared.cache.LruCache.TheView.{view, invariant}
use Rattle.lru_cache.specs.contracts.cache.LruCache as C
use Rattle.lru_cache.specs.contracts.cache.LruCache.TheInside as I

abbrev pub the_former : Former {0} → Type 0 → Type 0 → Type 0 → Former {0}
the_former g K S T = via (pair (list (linked.entry g K)) (const (ℕ × (ℕ × S)))) (λ X. Cache K (g.Of X) S)
    (λ X c. (c.pairs, (c.limit, (c.room, c.hasher)))) (λ X v. cache v.0 v.1.0 v.1.1.0 v.1.1.1) (λ X c. refl) (λ X v. refl)

abbrev pub the_weighed : {g : Former {0}} → Weighed g → (K S T : Type 0) → Weighed (the_former g K S T)
the_weighed w K S T = record {
  weight = λ X μ c. most (w.weight X μ) (values_of c.pairs);
  puts = λ X μ c. linked.deepest-pairs w K X μ c.pairs;
}

pub the_empty : (K S T : Type 0) → K → S → T → Cache K ⊥ S
the_empty K S T k s t = cache [] 0 0 s

-- the values, that of the least recently used pair first
abbrev pub the_items : (K S T X : Type 0) → Cache K X S → List X
the_items K S T X c = values_of c.pairs

pub the_items_listed : (K S T X : Type 0) (c : Cache K X S)
    → listed _ (children (the_former this K S T) X c) ≡ the_items K S T X c
the_items_listed K S T X c = linked.listed-pairs K X c.pairs

abbrev fields : Type 0 → Type 0 → Type 0 → Former {0}
fields K S T = via (pair (linked.the_former this K S T) (const ℕ)) (λ X. Inside K X S T) (λ X c. (c.map, c.limit))
    (λ X v. record { map = v.0; limit = v.1 }) (λ X c. refl) (λ X v. refl)

keys_of-over : {K X Y : Type 0} (h : X → Y) (es : List (K × X)) → keys_of (map (linked.on_value h) es) ≡ keys_of es
keys_of-over h [] = refl
keys_of-over h (e ∷ es) = ap (λ l. e.0 ∷ l) (keys_of-over h es)

module _ (K S T : RattleType) (G : eq.Ghosts K.Denot) (H : hash.Ghosts K.Denot) (B : builder.Ghosts S.Denot T.Denot)
    (W : hasher.Ghosts T.Denot) where
  IsKept-prop : {X : Type 0} (m : LinkedMap K.Denot X S.Denot) (n : ℕ) → IsProp (IsKept G.eq m n)
  IsKept-prop m n x y = λ i. record {
    valid = record {
      distinct = IsDistinct-prop G.eq (keys_of m.pairs) x.valid.distinct y.valid.distinct i;
      within = le_prop x.valid.within y.valid.within i;
      limit = le_prop x.valid.limit y.valid.limit i;
      reach = le_prop x.valid.reach y.valid.reach i;
    };
    mode = Coded-set mode.the_row.coded _ _ x.mode y.mode i;
    within = le_prop x.within y.within i;
  }

  -- `IsKept` says nothing of the values
  IsKept-same : {X Y : Type 0} (m : LinkedMap K.Denot X S.Denot) (m' : LinkedMap K.Denot Y S.Denot) (n : ℕ)
      → keys_of m.pairs ≡ keys_of m'.pairs → length m.pairs ≡ length m'.pairs → m.capacity ≡ m'.capacity
      → m.cursor ≡ m'.cursor → m.mode ≡ m'.mode → IsKept G.eq m n → IsKept G.eq m' n
  IsKept-same m m' n keys long room cursor mode k = record {
    valid = record {
      distinct = subst (IsDistinct G.eq) keys k.valid.distinct;
      within = coe 0 1 (i. long i ≤ room i) k.valid.within;
      limit = coe 0 1 (i. room i ≤ LIMIT) k.valid.limit;
      reach = coe 0 1 (i. (cursor i).bookmark + (cursor i).unvisited ≤ long i) k.valid.reach;
    };
    mode = sym mode ∙ k.mode;
    within = subst (λ z. z ≤ n) long k.within;
  }

  module _ (R R' : RattleType) (h : R.Denot → R'.Denot) where
    abbrev along : Cache K.Denot R.Denot S.Denot → Cache K.Denot R'.Denot S.Denot
    along = (the_former this K.Denot S.Denot T.Denot).map R.Denot R'.Denot h

    abbrev on_map : LinkedMap K.Denot R.Denot S.Denot → LinkedMap K.Denot R'.Denot S.Denot
    on_map = (linked.the_former this K.Denot S.Denot T.Denot).map R.Denot R'.Denot h

    IsKept-over : (m : LinkedMap K.Denot R.Denot S.Denot) (n : ℕ) → IsKept G.eq m n → IsKept G.eq (on_map m) n
    IsKept-over m n = IsKept-same m (on_map m) n (sym (keys_of-over h m.pairs)) (sym (length-map m.pairs (linked.on_value h)))
        refl refl refl

    IsKept-under : (m : LinkedMap K.Denot R.Denot S.Denot) (n : ℕ) → IsKept G.eq (on_map m) n → IsKept G.eq m n
    IsKept-under m n = IsKept-same (on_map m) m n (keys_of-over h m.pairs) (length-map m.pairs (linked.on_value h)) refl refl refl

    pub the_places : Alike R R' h → Alike (C.the_row K R S T G H B W) (C.the_row K R' S T G H B W) along
    the_places a = view_places (fields K.Denot S.Denot T.Denot) (the_former this K.Denot S.Denot T.Denot)
        (λ X. view K.Denot X S.Denot T.Denot G H B W) (λ X Y k u. refl) (λ X u. refl) R.Denot R'.Denot h
        (C.the_row K R S T G H B W).coded (C.the_row K R' S T G H B W).coded
        (invariant K.Denot R.Denot S.Denot T.Denot G H B W) (invariant K.Denot R'.Denot S.Denot T.Denot G H B W)
        (λ u. IsKept-prop u.map u.limit) (λ u. IsKept-prop u.map u.limit)
        (λ u. IsKept-over u.map u.limit) (λ u. IsKept-under u.map u.limit)
        (over (I.the_row K R S T G H B W)) (over (I.the_row K R' S T G H B W))
        (struct_places (I.the_type K R S T G H B W) (I.the_type K R' S T G H B W) (on_map, (λ n. n, tt)) _ (λ d. refl) refl
        (laid _ _ _ (linked.the_places K S T G H B W R R' h a), ((refl, (λ n. refl, λ n. refl)), tt)))

    pub the_codes_placed : Recodes R R' h → Recodes (C.the_row K R S T G H B W) (C.the_row K R' S T G H B W) along
    the_codes_placed e c = linked.gcons-same (linked.code-pairs K R R' h e c.pairs)
