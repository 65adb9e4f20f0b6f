-- A node that is neither held nor spare: how it comes out of a ring, and back.
use Rattle.lhm_ring.proofs.Names.{AllByRecursion, AreLinked, AreNeighbours, Cell, IsApart, IsJoined, IsRing, IsSpareList, IsThere, Links}
use Rattle.lhm_ring.proofs.Names.{List, Option, Ptr, Some, [], ap, append_assoc, arith, false, length, length-append, link_at, next_at}
use Rattle.lhm_ring.proofs.Names.{null_ptr, prev_at, refl, same_ptr, subst, suc, sym, ◌++◌, ◌+◌, ◌∙◌, ◌∷◌, ◌≡◌}
use Rattle.lhm_ring.proofs.lists.Apart.{IsApart-added, IsApart-inserted, IsApart-left, IsApart-removed, IsApart-tail, IsFresh}
use Rattle.lhm_ring.proofs.lists.ForAll.{AllByRecursion-append, AllByRecursion-inserted, AllByRecursion-left, AllByRecursion-map}
use Rattle.lhm_ring.proofs.lists.ForAll.{AllByRecursion-removed, AllByRecursion-right}
use Rattle.lhm_ring.proofs.lists.Last.{AllByRecursion-first, AllByRecursion-last, first_from, last_from}
use Rattle.lhm_ring.proofs.lists.{Apart.IsFresh-head, Apart.IsFresh-middle, LinkRows.AreNeighbours-cut, Splits.SplitAround}
use Rattle.lhm_ring.proofs.memory.OneNodeChanged.{AreLinked-other, IsSpareList-other, OnlyAt}
use Rattle.lhm_ring.proofs.rings.Joins.{AllByRecursion-there_unchanged, AreLinked-inserted, AreLinked-removed, IsSpareList-unchanged}

-- the nodes: that at p, and a ring of the others
pub record IsOut {B : Type 0} (cs : List (Cell Links B)) (p : Ptr) (ps : List Ptr) (spare : Option Ptr) (ss : List Ptr) : Type 0 where
  pub linked : AreLinked cs (null_ptr ∷ (ps ++ null_ptr ∷ []))
  pub chained : IsSpareList cs spare ss
  pub there : AllByRecursion (IsThere cs) (p ∷ null_ptr ∷ (ps ++ ss))
  pub apart : IsApart (p ∷ null_ptr ∷ (ps ++ ss))
  pub count : length cs ≡ suc (suc (length ps + length ss))

module _ {B : Type 0} where
  -- the node between xs and ys comes out if those beside it are joined
  pub IsOut-joined : {cs ds : List (Cell Links B)} {ps : List Ptr} {spare : Option Ptr} {ss : List Ptr} {p : Ptr} → IsRing cs ps spare ss
      → (s : SplitAround ps p) → IsJoined cs ds (prev_at cs p) (next_at cs p) → IsOut ds p (s.before ++ s.after) spare ss
  IsOut-joined {cs} {ds} {ps} {spare} {ss} {p} ring s j =
      let xs = s.before in let ys = s.after in let T : Ptr → Type 0 = λ q. IsThere cs q in
      let r : IsRing cs (xs ++ p ∷ ys) spare ss = subst (λ qs. IsRing cs qs spare ss) s.is ring in
      let row = subst (λ qs. AreLinked cs (null_ptr ∷ qs)) (append_assoc xs (p ∷ ys) (null_ptr ∷ [])) r.linked in
      let whole = subst (λ qs. IsApart (null_ptr ∷ qs)) (append_assoc xs (p ∷ ys) ss) r.apart in
      let all = subst (AllByRecursion T) (append_assoc xs (p ∷ ys) ss) r.there.1 in
      let same = sym (append_assoc xs ys ss) in
      record {
        linked = subst (λ qs. AreLinked ds (null_ptr ∷ qs)) (sym (append_assoc xs ys (null_ptr ∷ [])))
            (AreLinked-removed null_ptr xs p ys (IsApart-left (null_ptr ∷ (xs ++ p ∷ ys)) ss r.apart) row j);
        chained = IsSpareList-unchanged j spare ss r.chained;
        there = AllByRecursion-there_unchanged j (p ∷ null_ptr ∷ ((xs ++ ys) ++ ss)) (
          (AllByRecursion-right T xs (p ∷ (ys ++ ss)) all).0,
          (r.there.0, subst (AllByRecursion T) same (AllByRecursion-removed T xs p (ys ++ ss) all)),
        );
        apart = subst (λ qs. IsApart (p ∷ null_ptr ∷ qs)) same (IsApart-added p (null_ptr ∷ (xs ++ (ys ++ ss)))
            (IsFresh-middle (null_ptr ∷ xs) p (ys ++ ss) whole) (IsApart-removed (null_ptr ∷ xs) p (ys ++ ss) whole));
        count = let a = j.count ∙ r.count in omega (arith, length-append xs (p ∷ ys), length-append xs ys);
      }

  pub IsFresh-spares : {cs : List (Cell Links B)} {ps : List Ptr} {spare : Option Ptr} {ss : List Ptr} {p : Ptr} → IsRing cs ps spare ss
      → SplitAround ps p → IsFresh p ss
  IsFresh-spares {cs} {ps} {spare} {ss} {p} ring s =
      let F : Ptr → Type 0 = λ q. same_ptr p q ≡ false in
      let whole = subst (λ qs. IsApart (null_ptr ∷ qs)) (ap (λ qs. qs ++ ss) s.is ∙ append_assoc s.before (p ∷ s.after) ss) ring.apart in
      AllByRecursion-right F s.after ss
      (AllByRecursion-right F s.before (s.after ++ ss) (IsFresh-middle (null_ptr ∷ s.before) p (s.after ++ ss) whole).1)

  -- the first spare node is taken
  pub IsOut-spare : {cs : List (Cell Links B)} {ps : List Ptr} {spare : Option Ptr} {p : Ptr} {ss : List Ptr} → IsRing cs ps spare (p ∷ ss)
      → IsOut cs p ps (link_at cs p) ss
  IsOut-spare {cs} {ps} {spare} {p} {ss} r =
      let T : Ptr → Type 0 = λ q. IsThere cs q in
      record {
        linked = r.linked;
        chained = r.chained.1;
        there = ((AllByRecursion-right T ps (p ∷ ss) r.there.1).0, (r.there.0, AllByRecursion-removed T ps p ss r.there.1));
        apart = IsApart-added p (null_ptr ∷ (ps ++ ss)) (IsFresh-middle (null_ptr ∷ ps) p ss r.apart)
            (IsApart-removed (null_ptr ∷ ps) p ss r.apart);
        count = let a = r.count in omega arith;
      }

  module _ {cs : List (Cell Links B)} {p : Ptr} {ps : List Ptr} {spare : Option Ptr} {ss : List Ptr} (w : IsOut cs p ps spare ss) where
    abbrev Free : Ptr → Type 0
    Free q = same_ptr p q ≡ false

    pub IsFresh-out : IsFresh p (null_ptr ∷ (ps ++ ss))
    IsFresh-out = IsFresh-head p (null_ptr ∷ (ps ++ ss)) w.apart

    pub IsFresh-row : IsFresh p ps
    IsFresh-row = AllByRecursion-left Free ps ss IsFresh-out.1

    -- the last of some of the others, and the first of those behind
    module _ (xs ys : List Ptr) (cut : ps ≡ xs ++ ys) where
      row : AreLinked cs (null_ptr ∷ (xs ++ (ys ++ null_ptr ∷ [])))
      row = subst (λ qs. AreLinked cs (null_ptr ∷ qs)) (ap (λ qs. qs ++ null_ptr ∷ []) cut ∙ append_assoc xs ys (null_ptr ∷ [])) w.linked

      pub AreNeighbours-out : AreNeighbours cs (last_from null_ptr xs) (first_from null_ptr ys)
      AreNeighbours-out = AreNeighbours-cut cs null_ptr xs null_ptr ys row

      all : AllByRecursion (IsThere cs) (xs ++ ys)
      all = subst (AllByRecursion (IsThere cs)) cut (AllByRecursion-left (IsThere cs) ps ss w.there.1.1)

      pub is_there-last : IsThere cs (last_from null_ptr xs)
      is_there-last = AllByRecursion-last (IsThere cs) null_ptr xs w.there.1.0 (AllByRecursion-left (IsThere cs) xs ys all)

      pub is_there-first : IsThere cs (first_from null_ptr ys)
      is_there-first = AllByRecursion-first (IsThere cs) null_ptr ys w.there.1.0 (AllByRecursion-right (IsThere cs) xs ys all)

      -- it comes between them by two joins
      pub IsRing-joined : {ds es : List (Cell Links B)} → IsJoined cs ds (last_from null_ptr xs) p
          → IsJoined ds es p (first_from null_ptr ys) → IsRing es (xs ++ p ∷ ys) spare ss
      IsRing-joined {ds} {es} j k =
          let T : Ptr → Type 0 = λ q. IsThere cs q in let qs = null_ptr ∷ ((xs ++ p ∷ ys) ++ ss) in
          let fresh = subst (λ qs. IsFresh p (null_ptr ∷ qs)) (ap (λ qs. qs ++ ss) cut ∙ append_assoc xs ys ss) IsFresh-out in
          let others = subst (λ qs. IsApart (null_ptr ∷ qs)) (ap (λ qs. qs ++ ss) cut ∙ append_assoc xs ys ss)
          (IsApart-tail p (null_ptr ∷ (ps ++ ss)) w.apart) in
          record {
            linked = subst (λ qs. AreLinked es (null_ptr ∷ qs)) (sym (append_assoc xs (p ∷ ys) (null_ptr ∷ []))) (AreLinked-inserted
                null_ptr xs p ys (IsApart-left (null_ptr ∷ (xs ++ ys)) ss (subst (λ qs. IsApart (null_ptr ∷ qs))
                (sym (append_assoc xs ys ss)) others)) (IsFresh-out.0, subst (IsFresh p) cut IsFresh-row) row j k);
            chained = IsSpareList-unchanged k spare ss (IsSpareList-unchanged j spare ss w.chained);
            there = AllByRecursion-there_unchanged k qs (AllByRecursion-there_unchanged j qs (
              w.there.1.0,
              AllByRecursion-append T (xs ++ p ∷ ys) ss (AllByRecursion-inserted T xs p ys w.there.0 all)
                  (AllByRecursion-right T ps ss w.there.1.1),
            ));
            apart = subst (λ qs. IsApart (null_ptr ∷ qs)) (sym (append_assoc xs (p ∷ ys) ss))
                (IsApart-inserted (null_ptr ∷ xs) p (ys ++ ss) fresh others);
            count = let a = k.count ∙ j.count ∙ w.count in let b = ap length cut in
                omega (arith, length-append xs (p ∷ ys), length-append xs ys);
          }

    -- its links and its content change
    pub IsOut-changed : {ds : List (Cell Links B)} → OnlyAt cs ds p → IsOut ds p ps spare ss
    IsOut-changed {ds} o = record {
      linked = AreLinked-other cs ds p o.other (null_ptr ∷ (ps ++ null_ptr ∷ [])) (
        IsFresh-out.0,
        AllByRecursion-append Free ps (null_ptr ∷ []) IsFresh-row (IsFresh-out.0, tt),
      ) w.linked;
      chained = IsSpareList-other cs ds p o.other spare ss (AllByRecursion-right Free ps ss IsFresh-out.1) w.chained;
      there = AllByRecursion-map (IsThere cs) (IsThere ds) (λ q k. o.there q ∙ k) (p ∷ null_ptr ∷ (ps ++ ss)) w.there;
      apart = w.apart;
      count = o.count ∙ w.count;
    }

    -- it becomes the first spare one
    pub IsRing-spared : link_at cs p ≡ spare → IsRing cs ps (Some p) (p ∷ ss)
    IsRing-spared link = record {
      linked = w.linked;
      chained = (refl, subst (λ o. IsSpareList cs o ss) (sym link) w.chained);
      there = (w.there.1.0, AllByRecursion-inserted (IsThere cs) ps p ss w.there.0 w.there.1.1);
      apart = IsApart-inserted (null_ptr ∷ ps) p ss IsFresh-out (IsApart-tail p (null_ptr ∷ (ps ++ ss)) w.apart);
      count = let a = w.count in omega arith;
    }
