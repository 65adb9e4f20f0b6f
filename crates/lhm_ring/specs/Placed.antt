-- A type with a view holds what its fields hold, whatever the order in which the view shows it.
--     by_same      the fields are rebuilt from the mapped fields and the view, and `holds` of the
--                  mapped fields is the same type
--     all_stay     fields that are not mapped are alike
use mathlib.Core.Path.{◌≡◌, PathP, sym, ap, subst, ◌∙◌, fun_ext}
use mathlib.Core.HLevel.{is_prop→PathP}
use mathlib.Core.Equiv.{Iso}
use mathlib.Core.List.{List, [], ◌∷◌}
use base.Stored.{Coded, Coded-set}
use base.Fml.{ftrue, fsep}
use denote.Hole.Fix.{Over, whole}
use denote.Hole.{as_row}
use denote.HoleLaws.{Alike}
use denote.HolePlaces.{Maps, Alikes, stays}
use denote.Struct.Field.{Field}
use denote.Model.{View}
use denote.Model.Placed.{some_Along}

-- all fields but the first
abbrev pub others : List Field → List Field
others [] = []
others (F ∷ Fs) = Fs

abbrev pub unmoved : (Fs : List Field) → Maps Fs Fs
unmoved [] = tt
unmoved (F ∷ Fs) = (λ n. n, unmoved Fs)

pub all_stay : (Fs : List Field) → Alikes Fs Fs (unmoved Fs)
all_stay [] = tt
all_stay (F ∷ Fs) = (stays (as_row F), all_stay Fs)

-- `m` maps the fields, `k` what the views show of them
module _ (A B C D : Type 0) (m : A → B) (k : C → D) (view : A → C) (view' : B → D) (c : Coded C) (c' : Coded D)
    (natural : (a : A) → view' (m a) ≡ k (view a)) (set : IsSet B) (holds : A → Type 0) (holds' : B → Type 0)
    (same : (a : A) → holds' (m a) ≡ holds a) (refill : C → B → A) (its_map : (d : C) (b : B) → view' b ≡ k d → m (refill d b) ≡ b)
    (its_view : (d : C) (b : B) → view' b ≡ k d → view (refill d b) ≡ d) (back : (a : A) → refill (view a) (m a) ≡ a) where
  abbrev under : A → Type 0
  under a = holds' (m a)

  over_back : (d : C) (a : A) (e : refill d (m a) ≡ a) (z : m (refill d (m a)) ≡ m a) (h : under a)
      → PathP (λ i. under (e i)) (coe 1 0 (j. holds' (z j)) h) h
  over_back d a e z h =
      subst (λ (w : m (refill d (m a)) ≡ m a). PathP (λ i. under (e i)) (coe 1 0 (j. holds' (w j)) h) h)
      (set _ _ (ap m e) z) (λ i. coe 1 i (j. under (e j)) h)

  -- fields that the view shows as `d`, and mapped fields that it shows as `k d`
  abbrev moved : (d : C) → Iso ((a : A) × ((view a ≡ d) × under a)) ((b : B) × ((view' b ≡ k d) × holds' b))
  moved d = record {
    fun = λ x. (m x.0, (natural x.0 ∙ ap k x.1.0, x.1.1));
    inv = λ y.
        let b : B = y.0 in let p = y.1.0 in
        (refill d b, (its_view d b p, coe 1 0 (j. holds' (its_map d b p j)) y.1.1));
    rinv = λ y i.
        let b : B = y.0 in let p = y.1.0 in let e = its_map d b p in (
          e i,
          (
            is_prop→PathP (λ j. view' (e j) ≡ k d) (λ j. Coded-set c' _ _) (natural _ ∙ ap k (its_view d b p)) p i,
            coe 1 i (j. holds' (e j)) y.1.1,
          ),
        );
    linv = λ x.
        let a : A = x.0 in let p = natural a ∙ ap k x.1.0 in
        let e : refill d (m a) ≡ a = ap (λ b. refill b (m a)) (sym x.1.0) ∙ back a in
        λ i. (
          e i,
          (
            is_prop→PathP (λ j. view (e j) ≡ d) (λ j. Coded-set c _ _) (its_view d (m a) p) x.1.0 i,
            over_back d a e (its_map d (m a) p) x.1.1 i,
          ),
        );
  }

  placed : (F : Over A) (G : Over B) → Alike (whole A F) (whole B G) m
      → Alike (View (whole A F) C c view under) (View (whole B G) D c' view' holds') k
  placed F G a = record {
    mir_same = a.mir_same;
    own_same = λ d i vs. some_Along (moved d) (λ x. fsep (F.own_val x.0 vs) ftrue) (λ y. fsep (G.own_val y.0 vs) ftrue)
        (λ x j. fsep (a.own_same x.0 j vs) ftrue) i;
    shr_same = λ d i b o κ. some_Along (moved d) (λ x. fsep (F.shr_at x.0 b o κ) ftrue) (λ y. fsep (G.shr_at y.0 b o κ) ftrue)
        (λ x j. fsep (a.shr_same x.0 j b o κ) ftrue) i;
  }

  pub by_same : (F : Over A) (G : Over B) → Alike (whole A F) (whole B G) m
      → Alike (View (whole A F) C c view holds) (View (whole B G) D c' view' holds') k
  by_same F G a =
      subst (λ (p : A → Type 0). Alike (View (whole A F) C c view p) (View (whole B G) D c' view' holds') k) (fun_ext same) (placed F G a)
