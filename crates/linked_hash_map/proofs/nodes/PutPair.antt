-- The pair at a position, once it is moved by a mode and its value is written.
use Rattle.linked_hash_map.proofs.Names.{Bool, List, None, Some, [], ap, arith, inr, length, option_map, option_to_list, refl, remove}
use Rattle.linked_hash_map.proofs.Names.{slice_get, subst, sym, ℕ, ◌++◌, ◌+◌, ◌<◌, ◌∙◌, ◌∷◌, ◌≡◌, IsAt-index_of, IsAt, index_of, to_back_at}
use Rattle.linked_hash_map.proofs.Names.{AtHeld, Held, change_at, revalued, HasKey, WritesOnly, IsIndex, set_value_at, IsKept, VisitState}
use Rattle.linked_hash_map.proofs.Names.{bare, pairs_of, put, value_at, IsTouched, Mode, Keep, Touch, length-remove, IsEquivalence}
use Rattle.linked_hash_map.proofs.nodes.{Current.IsKept-visited, FoundKeys.index_of-HasKey, Kept.IsKept-same, Kept.no_visit}
use Rattle.linked_hash_map.proofs.nodes.HeldPairs.{bare-change, index_of-bare, length-bare, length-pairs_of, length-same}
use Rattle.linked_hash_map.proofs.nodes.MovedNode.{IsKept-moved, behind-moved, length-moved, pairs-moved, to_visit-moved}
use Rattle.linked_hash_map.proofs.nodes.Outside.{IsCurrent, IsElsewhere, to_visit-bare, to_visit_at, to_visit_of}
use Rattle.linked_hash_map.proofs.pairs.Indexes.{is_some-index, set_value-index, set_value_at-pushed, slice_get-pushed}
use Rattle.linked_hash_map.proofs.{Names.IsDistinct, Names.keys_of, Names.Ptr, nodes.CutNodes.pairs_of-written, nodes.CutNodes.part-at}
use Rattle.linked_hash_map.proofs.{nodes.CutNodes.slice_get-at, pairs.Calls.set_or_push-present, pairs.Indexes.slice_get-set_value_at}
use Rattle.linked_hash_map.proofs.{pairs.Indexes.to_back-index, pairs.Indexes.value_at-slice_get}

-- hs are the nodes before, and ks those after
module _ {K V : Type 0} (hs ks : List (Held (K × V))) (p : Ptr) (lies : index_of p hs < length hs) where
  pushed : ks ≡ to_back_at hs (index_of p hs) → (pair : K × V) → slice_get (pairs_of hs) (index_of p hs) ≡ Some pair
      → pairs_of ks ≡ remove (pairs_of hs) (index_of p hs) ++ pair ∷ []
  pushed moved pair there = pairs-moved hs _ moved ∙ ap (λ o. remove (pairs_of hs) (index_of p hs) ++ option_to_list o) there

  at_end : index_of p ks + 1 ≡ length hs → index_of p ks ≡ length (remove (pairs_of hs) (index_of p hs))
  at_end last = grind (arith, length-pairs_of, length-remove)

  at_by : (mode : Mode) → IsTouched mode p hs ks → IsAt ks p (index_of p ks)
  at_by mode moved = grind (arith, length-moved, IsAt-index_of)

  length_by : (mode : Mode) → IsTouched mode p hs ks → length ks ≡ length hs
  length_by mode moved = grind (arith, length-moved)

  slice_get_by : (mode : Mode) → IsTouched mode p hs ks → (pair : K × V) → slice_get (pairs_of hs) (index_of p hs) ≡ Some pair
      → slice_get (pairs_of ks) (index_of p ks) ≡ Some pair
  slice_get_by Touch moved pair there =
      slice_get-pushed (remove (pairs_of hs) (index_of p hs)) (pairs_of ks) pair (index_of p ks)
      (pushed moved.0 pair there) (at_end moved.1)
  slice_get_by Keep same pair there = grind arith

-- ks are the nodes hs once the one at p, which is among them, is moved by a mode
pub record IsTouchedAt {K V : Type 0} (p : Ptr) (mode : Mode) (hs ks : List (Held (K × V))) : Type 0 where
  pub lies : index_of p hs < length hs
  pub touched : IsTouched mode p hs ks

-- one that a lookup finds, moved to the back
pub IsTouchedAt-back : {K V : Type 0} {is_key : K → Bool} {hash : ℕ} {hs ks : List (Held (K × V))} {p : Ptr} → HasKey is_key hash hs p
    → ((i : ℕ) → IsAt hs p i → ks ≡ to_back_at hs i) → index_of p ks + 1 ≡ length hs → IsTouchedAt p Touch hs ks
IsTouchedAt-back {hs = hs} {p = p} has moved last =
    let lies = index_of-HasKey has in record { lies = lies; touched = (moved _ (IsAt-index_of p hs lies), last) }

module _ {K V : Type 0} {p : Ptr} {mode : Mode} {hs ks : List (Held (K × V))}
    (moved : IsTouchedAt p mode hs ks) where
  pub touched_at : IsAt ks p (index_of p ks)
  touched_at = at_by hs ks p moved.lies mode moved.touched

  pub slice_get-touched : (pair : K × V) → slice_get (pairs_of hs) (index_of p hs) ≡ Some pair
      → slice_get (pairs_of ks) (index_of p ks) ≡ Some pair
  slice_get-touched = slice_get_by hs ks p moved.lies mode moved.touched

  -- the value that is read is that of the pair
  pub value-touched : {v : V} → AtHeld ks p (λ xs t ys. v ≡ t.pair.1)
      → option_map (λ pair. pair.1) (slice_get (pairs_of hs) (index_of p hs)) ≡ Some v
  value-touched at =
      let here = slice_get-at hs _ (IsAt-index_of p hs moved.lies) in
      ap (option_map (λ pair. pair.1)) (here ∙ sym (slice_get-touched _ here)) ∙ part-at ks _ touched_at (λ pair. pair.1) at

  pub length-put : (w : V) → length (pairs_of (change_at p (revalued w) ks)) ≡ length (pairs_of hs)
  length-put w = grind (arith, length-pairs_of, length-same, bare-change, length_by)

  module _ (alone : WritesOnly ks p) (w : V) where
    set-touched : pairs_of (change_at p (revalued w) ks) ≡ set_value_at (pairs_of ks) (index_of p ks) w
    set-touched = pairs_of-written ks _ touched_at alone w

    -- the pair has the value that is written
    pub pair-touched : (pair : K × V) → slice_get (pairs_of hs) (index_of p hs) ≡ Some pair
        → slice_get (pairs_of (change_at p (revalued w) ks)) (index_of p (change_at p (revalued w) ks)) ≡ Some (pair.0, w)
    pair-touched pair there =
        let ls = change_at p (revalued w) ks in
        ap (slice_get (pairs_of ls)) (sym (index_of-bare p ls) ∙ ap (index_of p) (bare-change p w ks) ∙ index_of-bare p ks)
        ∙ ap (λ ps. slice_get ps (index_of p ks)) set-touched
        ∙ slice_get-set_value_at (pairs_of ks) (index_of p ks) w pair (slice_get-touched pair there)

-- the pair of a key
module _ {K V : Type 0} {eq : K → K → Bool} (laws : IsEquivalence eq) {p : Ptr}
    {hs ks : List (Held (K × V))} {k : K} (index : IsIndex eq (pairs_of hs) k (index_of p hs))
    (distinct : IsDistinct eq (keys_of (pairs_of hs))) where
  pub pairs-put : {mode : Mode} → IsTouchedAt p mode hs ks → WritesOnly ks p → (w : V)
      → pairs_of (change_at p (revalued w) ks) ≡ put eq mode (pairs_of hs) k w
  pairs-put {mode} moved alone w = by_mode mode moved
    where
      by_mode : (m : Mode) → IsTouchedAt p m hs ks
          → pairs_of (change_at p (revalued w) ks) ≡ put eq m (pairs_of hs) k w
      by_mode Touch at =
          set-touched at alone w
          ∙ set_value_at-pushed (remove (pairs_of hs) (index_of p hs)) (pairs_of ks) index.pair (index_of p ks)
          (pushed hs ks p at.lies at.touched.0 index.pair index.there) (at_end hs ks p at.lies at.touched.1) w
          ∙ sym (to_back-index laws distinct index index.there w)
      by_mode Keep at =
          set-touched at alone w
          ∙ ap (λ (ns : List (Held (K × V))). set_value_at (pairs_of ns) (index_of p ns) w) at.touched
          ∙ sym (set_value-index laws distinct index w)
          ∙ sym (set_or_push-present eq (pairs_of hs) k w (is_some-index laws distinct index))

  pub value_at-touched : {mode : Mode} → IsTouchedAt p mode hs ks → {v : V}
      → AtHeld ks p (λ xs t ys. v ≡ t.pair.1) → Some v ≡ value_at eq (pairs_of hs) k
  value_at-touched moved at = sym (value_at-slice_get laws distinct index ∙ value-touched moved at)

-- the current pair, which is none of those to visit
module _ {K V : Type 0} {eq : K → K → Bool} (laws : IsEquivalence eq) {hash : K → ℕ}
    {hs ks : List (Held (K × V))} {capacity : ℕ} {visit : VisitState} {p : Ptr}
    (kept : IsKept eq hash (bare hs) capacity visit) (now : IsCurrent visit hs p) where
  pub IsKept-touched : {mode : Mode} → IsTouchedAt p mode hs ks → {n : ℕ} → n ≡ capacity → IsKept eq hash (bare ks) n visit
  IsKept-touched {mode = Touch} moved = IsKept-moved hs _ moved.touched.0 moved.lies kept now.elsewhere laws now.is moved.touched.1
  IsKept-touched {mode = Keep} moved = λ capacity. IsKept-same (ap bare moved.touched) capacity kept

  pub to_visit-touched : {mode : Mode} → IsTouchedAt p mode hs ks → to_visit_of visit ks ≡ to_visit_of visit hs
  to_visit-touched {mode = Touch} moved = to_visit-moved hs _ moved.touched.0 moved.lies kept now.elsewhere
  to_visit-touched {mode = Keep} moved = ap (to_visit_of visit) moved.touched

  pub elsewhere-touched : {mode : Mode} → IsTouchedAt p mode hs ks → IsElsewhere (index_of p ks) visit (bare ks)
  elsewhere-touched {mode = Touch} moved =
      let behind = behind-moved hs _ moved.touched.0 moved.lies kept now.elsewhere in inr (omega (arith, behind, moved.touched.1))
  elsewhere-touched {mode = Keep} moved =
      subst (λ (ns : List (Held (K × V))). IsElsewhere (index_of p ns) visit (bare ns)) (sym moved.touched) now.elsewhere

  -- once its value is written too
  module _ {mode : Mode} (moved : IsTouchedAt p mode hs ks) where
    pub IsKept-put_current : {n : ℕ} → n ≡ capacity → (w : V) → IsKept eq hash (bare (change_at p (revalued w) ks)) n visit
    IsKept-put_current same w = IsKept-same (bare-change p w ks) refl (IsKept-touched moved same)

    pub to_visit-put : (w : V) → to_visit_of visit (change_at p (revalued w) ks) ≡ to_visit_of visit hs
    to_visit-put w = sym (to_visit-bare visit (change_at p (revalued w) ks))
        ∙ ap (to_visit_at visit) (bare-change p w ks) ∙ to_visit-bare visit ks ∙ to_visit-touched moved

    pub elsewhere-put : (w : V) → IsElsewhere (index_of p (change_at p (revalued w) ks)) visit (bare (change_at p (revalued w) ks))
    elsewhere-put w = grind (arith, index_of-bare, bare-change, elsewhere-touched)

-- with nothing to visit, and no current pair
pub IsKept-put : {K V : Type 0} {eq : K → K → Bool} → IsEquivalence eq → {hash : K → ℕ} {p : Ptr}
    {mode : Mode} {hs ks : List (Held (K × V))} → IsTouchedAt p mode hs ks → {capacity : ℕ}
    {visit : VisitState} → IsKept eq hash (bare hs) capacity visit → {n : ℕ} → n ≡ capacity
    → (w : V) → IsKept eq hash (bare (change_at p (revalued w) ks)) n no_visit
IsKept-put laws {p = p} {hs = hs} moved kept same w =
    let at = index_of-bare p hs in let long = length-bare hs in
    IsKept-visited (IsKept-put_current laws (IsKept-visited kept (Some p) (omega (arith, at, long, moved.lies)))
    (record { is = refl; lies = moved.lies; elsewhere = inr (omega arith) }) moved same w) None tt
