-- The former of `Index`, which holds no value, so that a type can refer to itself through a `Table`.
-- Nothing here has to be believed: the checker compares it with the struct.
use mathlib.Core.Path.{refl}
use mathlib.Core.Former.{Former, const}
use base.Stored.{Coded-set}
use denote.RattleType.{RattleType}
use denote.HoleLaws.{Alike}
use denote.HolePlaces.{struct_places}
use denote.Hole.Fix.{over}
use Rattle.lhm_ring.specs.Placed.{by_same, unmoved, all_stay}
use Rattle.lhm_ring.specs.Buckets.{BucketState}
use Rattle.lhm_ring.specs.declared.index.Index.TheInside.{Inside}
use Rattle.lhm_ring.specs.declared.index.Index.TheView.{view, invariant}
use Rattle.lhm_ring.specs.contracts.index.Index as C
use Rattle.lhm_ring.specs.contracts.index.Index.TheInside as I

abbrev pub the_former : Former {0} → Type 0 → Former {0}
the_former g K = const BucketState

-- the same fields, beside other values
abbrev beside_others : {K X Y : Type 0} → Inside K X → Inside K Y
beside_others d = record {
  count = d.count;
  words_ptr = d.words_ptr;
  heads_ptr = d.heads_ptr;
  heads = d.heads;
  words = d.words;
  dealloc = d.dealloc;
  alloc = d.alloc;
  marker = d.marker;
}

module _ (K R R' : RattleType) (h : R.Denot → R'.Denot) where
  pub the_places : Alike R R' h → Alike (C.the_row K R) (C.the_row K R') (λ d. d)
  the_places a = by_same (Inside K.Denot R.Denot) (Inside K.Denot R'.Denot) BucketState BucketState beside_others (λ d. d)
      (view K.Denot R.Denot) (view K.Denot R'.Denot) (C.the_row K R).coded (C.the_row K R').coded (λ d. refl)
      (Coded-set (I.the_row K R').coded) (invariant K.Denot R.Denot) (invariant K.Denot R'.Denot) (λ d. refl)
      (λ c b. beside_others b) (λ d b p. refl) (λ d b p. p) (λ d. refl) (over (I.the_row K R)) (over (I.the_row K R'))
      (struct_places (I.the_type K R) (I.the_type K R') (unmoved (I.the_type K R).parts) beside_others (λ d. refl) refl
      (all_stay (I.the_type K R).parts))
