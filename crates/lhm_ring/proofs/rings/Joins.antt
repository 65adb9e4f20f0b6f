-- Two nodes are joined: what stays of a row and a chain, and the rows that come of it.
use Rattle.lhm_ring.proofs.Names.{AllByRecursion, AreLinked, AreNeighbours, Cell, IsApart, IsJoined, IsSpareList, IsThere, Links, List}
use Rattle.lhm_ring.proofs.Names.{Option, Ptr, [], append_assoc, arith, false, next_at, prev_at, refl, same_ptr, subst, sym, ◌++◌, ◌∙◌}
use Rattle.lhm_ring.proofs.lists.Apart.{AllByRecursion-fresh_across, IsApart-inserted, IsApart-left, IsApart-removed, IsApart-tail}
use Rattle.lhm_ring.proofs.lists.Apart.{IsFresh, IsFresh-head, IsFresh-middle, same_ptr-flip, same_ptr-reflexive}
use Rattle.lhm_ring.proofs.lists.ForAll.{AllByRecursion-always, AllByRecursion-append, AllByRecursion-left, AllByRecursion-map}
use Rattle.lhm_ring.proofs.lists.LinkRows.{AreLinked-cut, AreLinked-glued, AreNeighbours-cut}
use Rattle.lhm_ring.proofs.lists.{ForAll.AllByRecursion-right, Last.AllByRecursion-last, Last.first_from, Last.last_from}
use Rattle.lhm_ring.{proofs.Names.◌∷◌, proofs.Names.◌≡◌, specs.SameNodes.IsSpareList-same, specs.SameNodes.SameLink}

-- a is none of those that lead on, and b none of those that are led to
abbrev pub AvoidsSource : Ptr → List Ptr → Type 0
AvoidsSource a [] = Unit {0}
AvoidsSource a (x ∷ []) = Unit {0}
AvoidsSource a (x ∷ y ∷ r) = (same_ptr a x ≡ false) × AvoidsSource a (y ∷ r)

abbrev pub AvoidsTarget : Ptr → List Ptr → Type 0
AvoidsTarget b [] = Unit {0}
AvoidsTarget b (x ∷ r) = IsFresh b r

pub AvoidsSource-fresh : (a : Ptr) (xs : List Ptr) → IsFresh a xs → AvoidsSource a xs
AvoidsSource-fresh a [] h = tt
AvoidsSource-fresh a (x ∷ []) h = tt
AvoidsSource-fresh a (x ∷ y ∷ ys) h = (h.0, AvoidsSource-fresh a (y ∷ ys) h.1)

pub AvoidsTarget-fresh : (b : Ptr) (xs : List Ptr) → IsFresh b xs → AvoidsTarget b xs
AvoidsTarget-fresh b xs h = grind arith

AvoidsSource-but_last : (a : Ptr) (xs : List Ptr) (z : Ptr) → IsFresh a xs → AvoidsSource a (xs ++ z ∷ [])
AvoidsSource-but_last a [] z h = tt
AvoidsSource-but_last a (x ∷ []) z h = (h.0, tt)
AvoidsSource-but_last a (x ∷ y ∷ ys) z h = (h.0, AvoidsSource-but_last a (y ∷ ys) z h.1)

AvoidsSource-last : (x : Ptr) (xs : List Ptr) → IsApart (x ∷ xs) → AvoidsSource (last_from x xs) (x ∷ xs)
AvoidsSource-last x [] d = tt
AvoidsSource-last x (y ∷ ys) d =
    let f = IsFresh-head x (y ∷ ys) d in (
      same_ptr-flip x (last_from y ys) (AllByRecursion-last (λ q. same_ptr x q ≡ false) y ys f.0 f.1),
      AvoidsSource-last y ys (IsApart-tail x (y ∷ ys) d),
    )

last_from-append : (x : Ptr) (xs : List Ptr) (p : Ptr) → last_from x (xs ++ p ∷ []) ≡ p
last_from-append x [] p = refl
last_from-append x (y ∷ ys) p = last_from-append y ys p

IsFresh-last : (g : Ptr) (xs ys : List Ptr) → IsApart (g ∷ (xs ++ ys)) → IsFresh (last_from g xs) ys
IsFresh-last g xs ys d =
    let a = AllByRecursion-fresh_across (g ∷ xs) ys d in AllByRecursion-last (λ x. IsFresh x ys) g xs a.0 a.1

first-away : (g : Ptr) (xs ys : List Ptr) → IsApart (g ∷ (xs ++ ys))
    → IsFresh (first_from g ys) xs × AvoidsTarget (first_from g ys) (ys ++ g ∷ [])
first-away g xs [] d = (IsFresh-head g xs (IsApart-left (g ∷ xs) [] d), tt)
first-away g xs (y ∷ r) d =
    let P : Ptr → Type 0 = λ q. same_ptr y q ≡ false in let f = IsFresh-middle (g ∷ xs) y r d in
    (AllByRecursion-left P xs r f.1, AllByRecursion-append P r (g ∷ []) (AllByRecursion-right P xs r f.1) (f.0, tt))

module _ {B : Type 0} where
  module _ {cs ds : List (Cell Links B)} {a b : Ptr} (j : IsJoined cs ds a b) where
    AreNeighbours-unchanged : (x y : Ptr) → same_ptr a x ≡ false → same_ptr b y ≡ false → AreNeighbours cs x y → AreNeighbours ds x y
    AreNeighbours-unchanged x y m n e = grind arith

    pub AreNeighbours-made : AreNeighbours ds a b
    AreNeighbours-made = grind (arith, same_ptr-reflexive)

    pub AreLinked-unchanged : (s : List Ptr) → AvoidsSource a s → AvoidsTarget b s → AreLinked cs s → AreLinked ds s
    AreLinked-unchanged [] m n l = tt
    AreLinked-unchanged (x ∷ []) m n l = tt
    AreLinked-unchanged (x ∷ y ∷ r) m n l = (AreNeighbours-unchanged x y m.0 n.0 l.0, AreLinked-unchanged (y ∷ r) m.1 n.1 l.1)

    pub IsSpareList-unchanged : (h : Option Ptr) (ss : List Ptr) → IsSpareList cs h ss → IsSpareList ds h ss
    IsSpareList-unchanged h ss = IsSpareList-same cs ds h ss (AllByRecursion-always (SameLink cs ds) j.link ss)

    pub AllByRecursion-there_unchanged : (ps : List Ptr) → AllByRecursion (IsThere cs) ps → AllByRecursion (IsThere ds) ps
    AllByRecursion-there_unchanged = AllByRecursion-map (IsThere cs) (IsThere ds) (λ p h. j.there p ∙ h)

  -- the last of xs and the first of ys are joined
  AreLinked-joined : {cs ds : List (Cell Links B)} (g : Ptr) (xs ys : List Ptr) → IsApart (g ∷ (xs ++ ys)) → AreLinked cs (g ∷ xs)
      → AreLinked cs (ys ++ g ∷ []) → IsJoined cs ds (last_from g xs) (first_from g ys) → AreLinked ds (g ∷ (xs ++ (ys ++ g ∷ [])))
  AreLinked-joined {cs} {ds} g xs ys d k l j =
      let t = first-away g xs ys d in
      AreLinked-glued ds g xs g ys (AreLinked-unchanged j (g ∷ xs) (AvoidsSource-last g xs (IsApart-left (g ∷ xs) ys d)) t.0 k)
      (AreNeighbours-made j)
      (AreLinked-unchanged j (ys ++ g ∷ []) (AvoidsSource-but_last (last_from g xs) ys g (IsFresh-last g xs ys d)) t.1 l)

  -- the node p goes out of the row: those beside it are joined
  pub AreLinked-removed : {cs ds : List (Cell Links B)} (g : Ptr) (xs : List Ptr) (p : Ptr) (ys : List Ptr) → IsApart (g ∷ (xs ++ p ∷ ys))
      → AreLinked cs (g ∷ (xs ++ p ∷ (ys ++ g ∷ []))) → IsJoined cs ds (prev_at cs p) (next_at cs p)
      → AreLinked ds (g ∷ (xs ++ (ys ++ g ∷ [])))
  AreLinked-removed {cs} {ds} g xs p ys d l j =
      let c = AreLinked-cut cs g xs (p ∷ (ys ++ g ∷ [])) l in
      let a = (AreNeighbours-cut cs g xs g (p ∷ ys) l).1 in let b = (AreNeighbours-cut cs p [] g ys c.1).0 in
      AreLinked-joined g xs ys (IsApart-removed (g ∷ xs) p ys d) c.0 (AreLinked-cut cs p [] (ys ++ g ∷ []) c.1).1
      (subst (λ (z : Ptr × Ptr). IsJoined cs ds z.0 z.1) (λ i. (a i, b i)) j)

  -- a node p comes between
  pub AreLinked-inserted : {cs ds es : List (Cell Links B)} (g : Ptr) (xs : List Ptr) (p : Ptr) (ys : List Ptr) → IsApart (g ∷ (xs ++ ys))
      → IsFresh p (g ∷ (xs ++ ys)) → AreLinked cs (g ∷ (xs ++ (ys ++ g ∷ []))) → IsJoined cs ds (last_from g xs) p
      → IsJoined ds es p (first_from g ys) → AreLinked es (g ∷ (xs ++ p ∷ (ys ++ g ∷ [])))
  AreLinked-inserted {cs} {ds} {es} g xs p ys d free l j k =
      let c = AreLinked-cut cs g xs (ys ++ g ∷ []) l in let P : Ptr → Type 0 = λ q. same_ptr p q ≡ false in
      let ahead = AreLinked-glued ds g xs p [] (AreLinked-unchanged j (g ∷ xs) (AvoidsSource-last g xs (IsApart-left (g ∷ xs) ys d))
      (AllByRecursion-left P xs ys free.1) c.0) (AreNeighbours-made j) tt in
      let behind = AreLinked-unchanged j (ys ++ g ∷ []) (AvoidsSource-but_last (last_from g xs) ys g (IsFresh-last g xs ys d))
      (AvoidsTarget-fresh p (ys ++ g ∷ []) (AllByRecursion-append P ys (g ∷ []) (AllByRecursion-right P xs ys free.1) (free.0, tt))) c.1 in
      subst (λ qs. AreLinked es (g ∷ qs)) (append_assoc xs (p ∷ []) (ys ++ g ∷ []))
      (AreLinked-joined g (xs ++ p ∷ []) ys (subst (λ qs. IsApart (g ∷ qs)) (sym (append_assoc xs (p ∷ []) ys))
      (IsApart-inserted (g ∷ xs) p ys free d)) ahead behind
      (subst (λ q. IsJoined ds es q (first_from g ys)) (sym (last_from-append g xs p)) k))
