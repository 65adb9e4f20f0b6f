-- Positions and indexes: what lies at an index, and where a position is once a triple moved.
use Rattle.lhm_ring.proofs.lists.Apart.{IsFresh, IsFresh-middle, same_ptr-equal, same_ptr-reflexive, same_ptr-symmetric}
use Rattle.lhm_ring.proofs.rings.Ends.{First-first_at, Last-last_at, none-last_at}
use Rattle.lhm_ring.proofs.{Names.append_assoc, indexes.Entries.pointers-entries, lists.Options.Some-injective, lists.Options.none_some}
use Rattle.lhm_ring.specs.Positions.{IsAt, PlaceAt, index_of, insert_at, to_back_at, to_before_at, to_front_at}
use Rattle.lhm_ring.specs.Ring.{AtHeld, BeforeHeld, Held, IsHeld, first_at, last_at, last_of}
use Rattle.lhm_ring.specs.{Index.entries, Nodes.IsApart, Nodes.same_ptr, Pointer.pointer_of_some, declared.pointer.Position.Position}
use Rattle.std.proofs.Common.{List, None, Option, Some, [], ap, append-nil, arith, cond, drop, false, length, length-append, map, refl}
use Rattle.std.proofs.Common.{remove, slice_get, suc, sym, take, true, zero, ℕ, ◌++◌, ◌+◌, ◌-◌, ◌<◌, ◌∙◌, ◌∷◌, ◌≡◌, ◌≢◌, ◌≤◌}
use Rattle.std.proofs.lemmas.Bool.{ltb-false, ltb-true}
use Rattle.std.proofs.lemmas.List.Sorted.{IsPermutation-append_comm, IsPermutation-cons, IsPermutation-refl, IsPermutation-trans}
use Rattle.std.proofs.lemmas.List.{drop-map, drop_more, length-map, map-append, take-append-drop, take-map, take_more}
use Rattle.std.proofs.lemmas.Option.{get_or_from_slice_get, slice_get-map, slice_get_cases, slice_get_past, slice_get_within}
use Rattle.std.specs.{Option.IsSome, Option.option_to_list, Prelude.IfSome, Prelude.nat_lt}
use Rattle.std.{proofs.Math.Seq.drop-append-add, specs.List.Sorted.IsPermutation}
use denote.RawPtr.{Ptr}

-- the element right after the first ones, and the list without it
pub slice_get-append : {X : Type 0} (xs : List X) (x : X) (ys : List X) → slice_get (xs ++ x ∷ ys) (length xs) ≡ Some x
slice_get-append [] x ys = refl
slice_get-append (y ∷ xs) x ys = slice_get-append xs x ys

pub remove-append : {X : Type 0} (xs : List X) (x : X) (ys : List X) → remove (xs ++ x ∷ ys) (length xs) ≡ xs ++ ys
remove-append [] x ys = refl
remove-append (y ∷ xs) x ys = ap (λ l. y ∷ l) (remove-append xs x ys)

-- up to an element and from it on
module _ {X : Type 0} (xs : List X) (i : ℕ) {x : X} (there : slice_get xs i ≡ Some x) where
  pub drop-from : drop i xs ≡ x ∷ drop (i + 1) xs
  drop-from = drop_more xs i x (slice_get_within xs i x there) ∙ ap (λ y. y ∷ drop (i + 1) xs) (get_or_from_slice_get xs i x x there)

  pub take-through : take (i + 1) xs ≡ take i xs ++ x ∷ []
  take-through = take_more xs i x (slice_get_within xs i x there) ∙ ap (λ y. take i xs ++ y ∷ []) (get_or_from_slice_get xs i x x there)

-- before the first element is at the front
pub to_before_at-first : {X : Type 0} (xs : List X) (i : ℕ) → to_before_at xs i 0 ≡ to_front_at xs i
to_before_at-first xs i = grind arith

-- where the others are once one is out, and the list once it is back
module _ {X : Type 0} where
  slice_get-remove : (xs : List X) (i j : ℕ) → slice_get (remove xs i) j ≡ slice_get xs (cond (nat_lt j i) j (suc j))
  slice_get-remove [] zero j = refl
  slice_get-remove [] (suc i) j = grind arith
  slice_get-remove (x ∷ xs) zero j = grind arith
  slice_get-remove (x ∷ xs) (suc i) zero = grind arith
  slice_get-remove (x ∷ xs) (suc i) (suc j) = grind (arith, slice_get-remove xs i j)

  insert_at-remove : (xs : List X) (i : ℕ) → insert_at i (option_to_list (slice_get xs i)) (remove xs i) ≡ xs
  insert_at-remove [] zero = refl
  insert_at-remove [] (suc i) = refl
  insert_at-remove (x ∷ xs) zero = refl
  insert_at-remove (x ∷ xs) (suc i) = ap (λ ys. x ∷ ys) (insert_at-remove xs i)

-- a function of each element
module _ {X Y : Type 0} (f : X → Y) where
  pub map-remove : (xs : List X) (i : ℕ) → map f (remove xs i) ≡ remove (map f xs) i
  map-remove xs i = grind (arith, map-append, take-map, drop-map)

  map-at : (xs : List X) (i : ℕ) → map f (option_to_list (slice_get xs i)) ≡ option_to_list (slice_get (map f xs) i)
  map-at xs i = grind (arith, slice_get-map)

  pub map-to_back_at : (xs : List X) (i : ℕ) → map f (to_back_at xs i) ≡ to_back_at (map f xs) i
  map-to_back_at xs i = grind (arith, map-append, map-remove, map-at)

  pub map-to_front_at : (xs : List X) (i : ℕ) → map f (to_front_at xs i) ≡ to_front_at (map f xs) i
  map-to_front_at xs i = grind (arith, map-append, map-at, map-remove)

  map-insert_at : (k : ℕ) (ys zs : List X) → map f (insert_at k ys zs) ≡ insert_at k (map f ys) (map f zs)
  map-insert_at k ys zs = grind (arith, map-append, take-map, drop-map)

  pub map-to_before_at : (xs : List X) (i j : ℕ) → map f (to_before_at xs i j) ≡ to_before_at (map f xs) i j
  map-to_before_at xs i j = grind (arith, map-insert_at, map-at, map-remove)

module _ {X : Type 0} where
  pub IsPermutation-to_back_at : (xs : List X) (i : ℕ) → IsPermutation xs (to_back_at xs i)
  IsPermutation-to_back_at [] zero = IsPermutation-refl []
  IsPermutation-to_back_at [] (suc i) = IsPermutation-refl []
  IsPermutation-to_back_at (x ∷ xs) zero = IsPermutation-append_comm (x ∷ []) xs
  IsPermutation-to_back_at (x ∷ xs) (suc i) = IsPermutation-cons x xs (to_back_at xs i) (IsPermutation-to_back_at xs i)

  pub IsPermutation-to_front_at : (xs : List X) (i : ℕ) → IsPermutation xs (to_front_at xs i)
  IsPermutation-to_front_at xs i = IsPermutation-trans xs (to_back_at xs i) (to_front_at xs i) (IsPermutation-to_back_at xs i)
      (IsPermutation-append_comm (remove xs i) (option_to_list (slice_get xs i)))

module _ {B : Type 0} where
  pub IsAt-append : (xs : List (Held B)) (t : Held B) (ys : List (Held B)) → IsAt (xs ++ t ∷ ys) t.at (length xs)
  IsAt-append [] t ys = refl
  IsAt-append (x ∷ xs) t ys = IsAt-append xs t ys

  pub IsAt-split : {hs : List (Held B)} {p : Ptr} (xs : List (Held B)) (t : Held B) (ys : List (Held B)) → hs ≡ xs ++ t ∷ ys
      → t.at ≡ p → IsAt hs p (length xs)
  IsAt-split xs t ys is at = grind (arith, IsAt-append)

  -- the triple at the index of a position
  pub record CutAt (hs : List (Held B)) (p : Ptr) (i : ℕ) : Type 0 where
    pub held : IsHeld hs p
    pub long : length held.before ≡ i

  pub CutAt-IsAt : (hs : List (Held B)) (p : Ptr) (i : ℕ) → IsAt hs p i → CutAt hs p i
  CutAt-IsAt [] p i at = absurd (grind arith)
  CutAt-IsAt (t ∷ hs) p zero at = record {
    held = record { before = []; node = t; after = hs; is = refl; at_is = Some-injective t.at p at };
    long = refl;
  }
  CutAt-IsAt (t ∷ hs) p (suc i) at =
      let r = CutAt-IsAt hs p i at in let h = r.held in
      record {
        held = record { before = t ∷ h.before; node = h.node; after = h.after; is = ap (λ l. t ∷ l) h.is; at_is = h.at_is };
        long = ap suc r.long;
      }

  -- `index_of` has the first index of a position that has one
  pub IsAt-index_of : (p : Ptr) (hs : List (Held B)) → index_of p hs < length hs → IsAt hs p (index_of p hs)
  IsAt-index_of p [] h = absurd (omega (arith, h))
  IsAt-index_of p (t ∷ hs) h = grind (arith, same_ptr-equal, IsAt-index_of p hs)

  pub IsAt-within : (hs : List (Held B)) (i : ℕ) {p : Ptr} → IsAt hs p i → i < length hs
  IsAt-within hs i at = omega (arith, slice_get_within (map (λ t. t.at) hs) i _ at, length-map hs (λ t. t.at))

  pub PlaceAt-within : (hs : List (Held B)) (i : ℕ) → i < length hs → PlaceAt hs None i → ⊥
  PlaceAt-within hs i below none = let long = length-map hs (λ t. t.at) in grind (arith, slice_get_cases)

  -- at the ends
  pub PlaceAt-first_at : (hs : List (Held B)) → PlaceAt hs (first_at hs) 0
  PlaceAt-first_at hs = grind arith

  pub IsAt-first_at : (hs : List (Held B)) {p : Ptr} → Some p ≡ first_at hs → IsAt hs p 0
  IsAt-first_at hs is = grind arith

  IsAt-last_of : (t : Held B) (hs : List (Held B)) → IsAt (t ∷ hs) (last_of t hs) (length hs)
  IsAt-last_of t [] = refl
  IsAt-last_of t (u ∷ hs) = IsAt-last_of u hs

  pub IsAt-last_at : (hs : List (Held B)) {p : Ptr} → Some p ≡ last_at hs → IsAt hs p (length hs - 1)
  IsAt-last_at [] is = absurd (none_some _ (sym is))
  IsAt-last_at (t ∷ hs) is = grind (arith, IsAt-last_of t hs)

  pub index_of-within : (p : Ptr) (xs : List (Held B)) (t : Held B) (ys : List (Held B)) → t.at ≡ p
      → index_of p (xs ++ t ∷ ys) < length (xs ++ t ∷ ys)
  index_of-within p [] t ys at = grind (arith, same_ptr-reflexive)
  index_of-within p (x ∷ xs) t ys at = grind (arith, index_of-within p xs t ys at)

  pub index_of-held : {hs : List (Held B)} {p : Ptr} → IsHeld hs p → index_of p hs < length hs
  index_of-held h = grind (arith, index_of-within)

  pub first_at-drop : (hs : List (Held B)) (k : ℕ) → first_at (drop k hs) ≡ slice_get (map (λ t. t.at) hs) k
  first_at-drop [] zero = refl
  first_at-drop [] (suc k) = refl
  first_at-drop (t ∷ hs) zero = refl
  first_at-drop (t ∷ hs) (suc k) = first_at-drop hs k

  -- behind a triple is the next index
  pub slice_get-behind : {hs : List (Held B)} (xs : List (Held B)) (t : Held B) (ys : List (Held B)) → hs ≡ xs ++ t ∷ ys
      → slice_get (map (λ u. u.at) hs) (length xs + 1) ≡ first_at ys
  slice_get-behind xs t ys is = grind (arith, first_at-drop, drop-append-add xs (t ∷ ys) 1)

  pub AtHeld-next : {hs : List (Held B)} {p : Ptr} {o : Option Ptr} → ((i : ℕ) → IsAt hs p i → PlaceAt hs o (i + 1))
      → AtHeld hs p (λ xs t ys. o ≡ first_at ys)
  AtHeld-next next xs t ys is at = sym (next (length xs) (IsAt-split xs t ys is at)) ∙ slice_get-behind xs t ys is

  -- what is made of the list at an index of p, by what is made of it at p
  module _ (hs : List (Held B)) {p : Ptr} (i : ℕ) (at : IsAt hs p i) where
    pub cut_at : CutAt hs p i
    cut_at = CutAt-IsAt hs p i at

    pub slice_get-at : slice_get hs i ≡ Some cut_at.held.node
    slice_get-at = grind (arith, cut_at, slice_get-append)

    pub slice_get-pair : {b : B} → AtHeld hs p (λ xs t ys. b ≡ t.pair) → slice_get (map (λ t. t.pair) hs) i ≡ Some b
    slice_get-pair is = grind (arith, cut_at, slice_get-map, slice_get-at)

    pub PlaceAt-next : {o : Option Ptr} → AtHeld hs p (λ xs t ys. o ≡ first_at ys) → PlaceAt hs o (i + 1)
    PlaceAt-next next = grind (arith, cut_at, slice_get-behind)

    pub remove-at : {ws : List (Held B)} → AtHeld hs p (λ xs t ys. ws ≡ xs ++ ys) → ws ≡ remove hs i
    remove-at others = grind (arith, cut_at, remove-append)

    pub to_back_at-at : {ws : List (Held B)} → AtHeld hs p (λ xs t ys. ws ≡ (xs ++ ys) ++ t ∷ []) → ws ≡ to_back_at hs i
    to_back_at-at last = grind (arith, cut_at, remove-append, slice_get-at)

    -- where it is put among the others
    module _ {ws : List (Held B)} {o : Option Ptr} (j : ℕ) (place : PlaceAt hs o j)
        (moved : AtHeld hs p (λ xs t ys. BeforeHeld (xs ++ ys) o (λ us vs. ws ≡ us ++ t ∷ vs)))
        (stays : o ≡ Some p → ws ≡ hs) where
      put_at-others : (k : ℕ) → cond (nat_lt k i) k (suc k) ≡ j → ws ≡ insert_at k (option_to_list (slice_get hs i)) (remove hs i)
      put_at-others k is = grind (arith, cut_at, remove-append, take-append-drop, first_at-drop, slice_get-at, map-remove, slice_get-remove)

      put_before : (k : ℕ) → k ≡ j → k ≤ i → ws ≡ insert_at k (option_to_list (slice_get hs i)) (remove hs i)
      put_before k is le = (elim (nat_lt k i) as (λ y. nat_lt k i ≡ y → ws ≡ insert_at k (option_to_list (slice_get hs i)) (remove hs i)) [
        | true ↦ λ e. put_at-others k (grind arith)
        | false ↦ λ e. let same : i ≡ k = omega (arith, le, ltb-false k i e) in grind (arith, insert_at-remove)
      ]) refl

      pub to_before_at-at : ws ≡ to_before_at hs i j
      to_before_at-at = (elim (nat_lt i j) as (λ y. nat_lt i j ≡ y
          → ws ≡ insert_at (j - cond y 1 0) (option_to_list (slice_get hs i)) (remove hs i)) [
            | true ↦ λ e. let less = ltb-true i j e in put_at-others (j - 1) (grind arith)
            | false ↦ λ e. put_before (j - 0) (omega arith) (omega (arith, ltb-false i j e))
          ]) refl

    -- once it moved to the front, it has the first index, and each of another index is behind it
    pub index_of-front : index_of p (to_front_at hs i) ≡ 0
    index_of-front = grind (arith, slice_get-at, cut_at, same_ptr-reflexive)

    pub index_of-behind_front : (q : Ptr) → index_of p hs ≢ index_of q hs → index_of q (to_front_at hs i) ≡ index_of q (remove hs i) + 1
    index_of-behind_front q others =
        let differ : same_ptr p q ≡ false = grind (arith, same_ptr-equal) in
        (λ j. index_of q (option_to_list (slice_get-at j) ++ remove hs i))
        ∙ ap (λ y. cond y 0 (index_of q (remove hs i) + 1)) (ap (λ r. same_ptr r q) cut_at.held.at_is ∙ differ)

  -- the triple at which the second of two parts begins, and the one at which the first of them ends
  module _ {hs : List (Held B)} (xs ys : List (Held B)) (is : hs ≡ xs ++ ys) {o : Option Ptr} {p : Ptr} where
    module _ (first : o ≡ first_at ys) (e : o ≡ Some p) where
      pub IsHeld-first_at : IsHeld hs p
      IsHeld-first_at = let f = First-first_at ys first e in
          record { before = xs; node = f.node; after = f.after; is = is ∙ ap (λ zs. xs ++ zs) f.is; at_is = f.at_is }

      pub AtHeld-first_at : {z : Option Ptr} → AtHeld hs p (λ us t vs. z ≡ last_at us) → z ≡ last_at xs
      AtHeld-first_at h = let f = First-first_at ys first e in h xs f.node f.after (is ∙ ap (λ zs. xs ++ zs) f.is) f.at_is

    module _ (last : o ≡ last_at xs) (e : o ≡ Some p) where
      last_cut : hs ≡ (Last-last_at xs last e).before ++ (Last-last_at xs last e).node ∷ ys
      last_cut = let l = Last-last_at xs last e in is ∙ ap (λ zs. zs ++ ys) l.is ∙ append_assoc l.before (l.node ∷ []) ys

      pub IsHeld-last_at : IsHeld hs p
      IsHeld-last_at = let l = Last-last_at xs last e in
          record { before = l.before; node = l.node; after = ys; is = last_cut; at_is = l.at_is }

      pub AtHeld-last_at : {z : Option Ptr} → AtHeld hs p (λ us t vs. z ≡ first_at vs) → z ≡ first_at ys
      AtHeld-last_at h = let l = Last-last_at xs last e in h l.before l.node ys last_cut l.at_is

  -- a triple that is put among the others
  pub record MovedTo {hs : List (Held B)} {p : Ptr} (h : IsHeld hs p) (ks : List (Held B)) : Type 0 where
    pub before : List (Held B)
    pub after : List (Held B)
    pub cut : h.before ++ h.after ≡ before ++ after
    pub is : ks ≡ before ++ h.node ∷ after

  pub length-moved_to : {hs ks : List (Held B)} {p : Ptr} {h : IsHeld hs p} → MovedTo h ks → length ks ≡ length hs
  length-moved_to {h = h} m = let cut = ap length m.cut in grind (arith, length-append)

  pub MovedTo-back : {hs ks : List (Held B)} {p : Ptr} (h : IsHeld hs p) → AtHeld hs p (λ xs t ys. ks ≡ (xs ++ ys) ++ t ∷ []) → MovedTo h ks
  MovedTo-back h last = grind (arith, append-nil)

  pub MovedTo-to_before_at : {hs ks : List (Held B)} {p : Ptr} (h : IsHeld hs p) (j : ℕ) → ks ≡ to_before_at hs (length h.before) j
      → MovedTo h ks
  MovedTo-to_before_at h j is = grind (arith, take-append-drop, slice_get-append, remove-append)

  -- a place has an index
  abbrev pub place_index : (hs : List (Held B)) (o : Option Ptr) → IfSome o (IsHeld hs) → ℕ
  place_index hs None h = length hs
  place_index hs (Some q) h = length h.before

  pub PlaceAt-place_index : (hs : List (Held B)) (o : Option Ptr) (h : IfSome o (IsHeld hs)) → PlaceAt hs o (place_index hs o h)
  PlaceAt-place_index hs o h = grind (arith, slice_get_past (map (λ t. t.at) hs) (length hs), length-map hs (λ t. t.at), IsAt-split)

  pub moved_to : {hs ks : List (Held B)} {p : Ptr} (h : IsHeld hs p) {o : Option Ptr} → IfSome o (IsHeld hs)
      → AtHeld hs p (λ xs t ys. BeforeHeld (xs ++ ys) o (λ us vs. ks ≡ us ++ t ∷ vs)) → (o ≡ Some p → ks ≡ hs) → MovedTo h ks
  moved_to {hs} h {o} there moved stays =
      let j = place_index hs o there in
      MovedTo-to_before_at h j (to_before_at-at hs (length h.before) (IsAt-split h.before h.node h.after h.is h.at_is) j
      (PlaceAt-place_index hs o there) moved stays)

  -- among other positions the last has the last index
  pub index_of-last : (p : Ptr) (hs : List (Held B)) (t : Held B) → t.at ≡ p
      → IsFresh p (map (λ u. u.at) hs) → index_of p (hs ++ t ∷ []) ≡ length hs
  index_of-last p [] t at fresh = grind (arith, same_ptr-reflexive)
  index_of-last p (x ∷ hs) t at fresh = grind (arith, same_ptr-symmetric, index_of-last p hs t at fresh.1)

  -- and so has one that moved to the back
  pub index_of-to_back : {hs ks : List (Held B)} {p : Ptr} → IsApart (map (λ t. t.at) hs) → (h : IsHeld hs p)
      → AtHeld hs p (λ xs t ys. ks ≡ (xs ++ ys) ++ t ∷ []) → index_of p ks + 1 ≡ length hs
  index_of-to_back apart h last = grind (arith, map-append, IsFresh-middle, index_of-last, length-append)

  -- where other positions are once one is out
  module _ (p : Ptr) where
    pub index_of-later : (hs : List (Held B)) (i : ℕ) → i < index_of p hs → index_of p (remove hs i) + 1 ≡ index_of p hs
    index_of-later [] i h = absurd (omega (arith, h))
    index_of-later (t ∷ hs) zero h = grind arith
    index_of-later (t ∷ hs) (suc i) h = grind (arith, index_of-later hs i)

    pub index_of-earlier : (hs : List (Held B)) (i : ℕ) → index_of p hs < i → index_of p (remove hs i) ≡ index_of p hs
    index_of-earlier [] zero h = refl
    index_of-earlier [] (suc i) h = refl
    index_of-earlier (t ∷ hs) zero h = absurd (omega (arith, h))
    index_of-earlier (t ∷ hs) (suc i) h = grind (arith, index_of-earlier hs i)

-- at an index of a triple there is a position
pub IsSome-place : {K V : Type 0} (hs : List (Held (K × V))) (o : Option (Position K V)) (i : ℕ) → i < length hs
    → PlaceAt hs (pointer_of_some o) i → IsSome o
IsSome-place hs o i below place = grind (arith, PlaceAt-within)

pub IsSome-first_at : {K V : Type 0} (xs ys : List (Held (K × V))) (o : Option (Position K V)) {n : ℕ}
    → pointer_of_some o ≡ first_at (xs ++ ys) → n ≡ length xs → 0 < n → IsSome o
IsSome-first_at [] ys o is count some = absurd (omega (arith, count, some))
IsSome-first_at (x ∷ xs) ys o is count some = grind arith

pub IsSome-last_at : {K V : Type 0} (xs ys : List (Held (K × V))) (o : Option (Position K V)) {n : ℕ}
    → pointer_of_some o ≡ last_at (xs ++ ys) → n ≡ length ys → 0 < n → IsSome o
IsSome-last_at xs ys o is count some = let long = length-append xs ys in grind (arith, none-last_at)

-- without chain links
module _ {K V : Type 0} where
  pub PlaceAt-entries : (hs : List (Held (K × V))) {es : List (Held (K × V))} {o : Option Ptr} (i : ℕ) → entries hs ≡ es → PlaceAt es o i
      → PlaceAt hs o i
  PlaceAt-entries hs i same at = ap (λ ps. slice_get ps i) (sym (pointers-entries hs) ∙ ap (map (λ t. t.at)) same) ∙ at

  pub index_of-entries : (p : Ptr) (hs : List (Held (K × V))) → index_of p (entries hs) ≡ index_of p hs
  index_of-entries p [] = refl
  index_of-entries p (t ∷ hs) = ap (λ n. cond (same_ptr t.at p) 0 (n + 1)) (index_of-entries p hs)
