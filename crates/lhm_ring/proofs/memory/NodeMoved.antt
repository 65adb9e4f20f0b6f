-- A node is listed before another. Assumes `Logic`.
use Rattle.lhm_ring.proofs.Names.{AreBlocks, AtCell, BeforeCell, Cell, Fml, IsApart, IsPlaceFor, IsRearranged, List, Logic, Nodes, Ptr}
use Rattle.lhm_ring.proofs.Names.{Some, Ura, [], ap, append-nil, arith, cell_at, cond, count_by, ent, false, first_place, inl, inr}
use Rattle.lhm_ring.proofs.Names.{is_block, links_of, map-append, places, pointers, refl, same_ptr, sem, sep, subst, sym, true, via, ◌++◌}
use Rattle.lhm_ring.proofs.lists.Apart.{IsApart-inserted, IsApart-removed, IsApart-tail, IsFresh, IsFresh-middle}
use Rattle.lhm_ring.proofs.lists.ForAll.{AllByRecursion-inserted, AllByRecursion-removed, AllByRecursion-right}
use Rattle.lhm_ring.proofs.lists.{Cuts.cut_alone, Cuts.not_again, RearrangedCounts.count_by-append, RearrangedCounts.count_by-cons}
use Rattle.lhm_ring.proofs.memory.NodeFields.{Cells, Node, One, Three}
use Rattle.lhm_ring.proofs.memory.NodeTaken.{cells_cut, cells_glue}
use Rattle.lhm_ring.proofs.{Names.◌∙◌, Names.◌∷◌, Names.◌≡◌, rings.Lookup.Cut, rings.Lookup.Cut-links_at}

module _ {L B : Type 0} where
  abbrev lies : Cell L B → Ptr
  lies c = c.at

  -- the node at another pointer is as it was, without one of them
  pub cell_at-removed : (xs : List (Cell L B)) (c : Cell L B) (ys : List (Cell L B)) (q : Ptr) → same_ptr c.at q ≡ false
      → cell_at (xs ++ c ∷ ys) q ≡ cell_at (xs ++ ys) q
  unfolding cell_at
  cell_at-removed [] c ys q e = ap (λ y. cond y (Some c) (cell_at ys q)) e
  cell_at-removed (x ∷ xs) c ys q e = ap (λ z. cond (same_ptr x.at q) (Some x) z) (cell_at-removed xs c ys q e)

  not_there : (t : Cell L B) (hs us vs : List (Cell L B)) → IsApart (pointers (t ∷ hs)) → is_block t.at ≡ true → hs ≡ us ++ vs
      → t.at ≡ first_place vs → ⊥
  not_there t hs us [] d b e at = let no : false ≡ true = sym (ap is_block at) ∙ b in absurd (cc)
  not_there t hs us (v ∷ ws) d b e at = not_again lies t hs us v ws d e (sym at)

  -- and so it is at a place
  place-alone : (hs xs ys us vs : List (Cell L B)) → IsApart (pointers hs) → AreBlocks (pointers hs) → hs ≡ xs ++ ys → hs ≡ us ++ vs
      → first_place ys ≡ first_place vs → (xs ≡ us) × (ys ≡ vs)
  place-alone hs [] ys [] vs d b e f at = (refl, sym e ∙ f)
  place-alone [] [] ys (u ∷ us) vs d b e f at = absurd (cc)
  place-alone [] (x ∷ xs) ys us vs d b e f at = absurd (cc)
  place-alone (h ∷ hs) [] ys (u ∷ us) vs d b e f at =
      let rest : hs ≡ us ++ vs = cc in absurd (not_there h hs us vs d b.0 rest (ap first_place e ∙ at))
  place-alone (h ∷ hs) (x ∷ xs) ys [] vs d b e f at =
      let rest : hs ≡ xs ++ ys = cc in absurd (not_there h hs xs ys d b.0 rest (ap first_place f ∙ sym at))
  place-alone (h ∷ hs) (x ∷ xs) ys (u ∷ us) vs d b e f at =
      let i = place-alone hs xs ys us vs (IsApart-tail h.at (pointers hs) d) b.1 (cc) (cc) at in
      let same : x ≡ u = cc in (λ j. same j ∷ i.0 j, i.1)

  -- c, between xs and ys, is listed between us and vs, which are the others
  module _ (xs : List (Cell L B)) (c : Cell L B) (ys us vs : List (Cell L B)) (e : xs ++ ys ≡ us ++ vs) where
    others : pointers xs ++ pointers ys ≡ pointers us ++ pointers vs
    others = sym (map-append lies xs ys) ∙ ap pointers e ∙ map-append lies us vs

    pub IsApart-elsewhere : IsApart (pointers (xs ++ c ∷ ys)) → IsApart (pointers (us ++ c ∷ vs))
    IsApart-elsewhere d =
        let f = subst IsApart (map-append lies xs (c ∷ ys)) d in
        subst IsApart (sym (map-append lies us (c ∷ vs))) (IsApart-inserted (pointers us) c.at (pointers vs)
        (subst (IsFresh c.at) others (IsFresh-middle (pointers xs) c.at (pointers ys) f))
        (subst IsApart others (IsApart-removed (pointers xs) c.at (pointers ys) f)))

    pub AreBlocks-elsewhere : AreBlocks (pointers (xs ++ c ∷ ys)) → AreBlocks (pointers (us ++ c ∷ vs))
    AreBlocks-elsewhere a =
        let P : Ptr → Type 0 = λ p. is_block p ≡ true in
        let b = subst AreBlocks (map-append lies xs (c ∷ ys)) a in
        subst AreBlocks (sym (map-append lies us (c ∷ vs))) (AllByRecursion-inserted P (pointers us) c.at (pointers vs)
        (AllByRecursion-right P (pointers xs) (c.at ∷ pointers ys) b).0
        (subst AreBlocks others (AllByRecursion-removed P (pointers xs) c.at (pointers ys) b)))

    pub IsRearranged-elsewhere : (un ps : List Ptr) → IsRearranged (un ++ pointers (xs ++ c ∷ ys)) ps
        → IsRearranged (un ++ pointers (us ++ c ∷ vs)) ps
    IsRearranged-elsewhere un ps r p =
        let same : count_by p (pointers xs ++ pointers ys) ≡ count_by p (pointers us ++ pointers vs) = ap (count_by p) others in
        let was = simp (map-append, count_by-append, count_by-cons) at (r p) in
        simp (map-append, count_by-append, count_by-cons) (omega (arith, was, simp count_by-append at same))

  -- where nodes are cut right before the one at q, or behind all for null
  pub record Place (cs : List (Cell L B)) (q : Ptr) : Type 0 where
    pub before : List (Cell L B)
    pub after : List (Cell L B)
    pub is : cs ≡ before ++ after
    pub at_is : q ≡ first_place after

  -- the nodes but one
  abbrev pub rest : {cs : List (Cell L B)} {p : Ptr} → Cut cs p → List (Cell L B)
  rest k = k.split.before ++ k.split.after

  module _ {cs : List (Cell L B)} {p q : Ptr} (k : Cut cs p) where
    pub Place-for : IsPlaceFor cs p q → Place (rest k) q
    Place-for (inl null) = record { before = rest k; after = []; is = sym (append-nil (rest k)); at_is = null }
    Place-for (inr other) =
        let stay = cell_at-removed k.split.before k.split.node k.split.after q (ap (λ r. same_ptr r q) k.split.at_is ∙ other.1) in
        let j = Cut-links_at (rest k) q other.0.0 (sym (ap links_of (ap (λ ds. cell_at ds q) k.split.is ∙ stay)) ∙ other.0.1) in
        record { before = j.split.before; after = j.split.node ∷ j.split.after; is = j.split.is; at_is = sym j.split.at_is }

    pub AtCell-moved : (j : Place (rest k) q) → IsApart (pointers cs) → AreBlocks (pointers cs) → AtCell cs p (λ xs c ys.
        BeforeCell (xs ++ ys) q (λ us vs. j.before ++ k.split.node ∷ j.after ≡ us ++ c ∷ vs))
    AtCell-moved j d b xs c ys e at us vs f here =
        let P : Ptr → Type 0 = λ p. is_block p ≡ true in
        let x = cut_alone lies cs k.split.before k.split.after xs ys d k.split.is e (k.split.at_is ∙ sym at) in
        let all : xs ++ ys ≡ rest k = λ i. sym x.0 i ++ sym x.1.1 i in
        let whole = ap pointers k.split.is ∙ map-append lies k.split.before (k.split.node ∷ k.split.after) in
        let parts = sym (map-append lies k.split.before k.split.after) in
        let apart : IsApart (pointers (rest k)) = subst IsApart parts
        (IsApart-removed (pointers k.split.before) k.split.node.at (pointers k.split.after) (subst IsApart whole d)) in
        let blocks : AreBlocks (pointers (rest k)) = subst AreBlocks parts
        (AllByRecursion-removed P (pointers k.split.before) k.split.node.at (pointers k.split.after) (subst AreBlocks whole b)) in
        let y = place-alone (rest k) j.before j.after us vs apart blocks j.is (sym all ∙ f) (sym j.at_is ∙ here) in
        λ i. y.0 i ++ x.1.0 i ∷ y.1 i

-- the same nodes, the one at p listed at another place
module _ {L K V : Type 0} (n : Nodes L K V) {p q : Ptr} (k : Cut n.cells p) (j : Place (rest k) q) where
  abbrev pub moved : List (Cell L (K × V))
  moved = j.before ++ k.split.node ∷ j.after

  abbrev pub listed_before : Nodes L K V
  listed_before =
      let xs = k.split.before in let c = k.split.node in let ys = k.split.after in
      let us = j.before in let vs = j.after in
      record n {
        cells = moved;
        apart = IsApart-elsewhere xs c ys us vs j.is (subst (λ ds. IsApart (pointers ds)) k.split.is n.apart);
        blocks = AreBlocks-elsewhere xs c ys us vs j.is (subst (λ ds. AreBlocks (pointers ds)) k.split.is n.blocks);
        laid = IsRearranged-elsewhere xs c ys us vs j.is n.unused (places n.node_bytes n.chunks)
            (subst (λ ds. IsRearranged (n.unused ++ pointers ds) (places n.node_bytes n.chunks)) k.split.is n.laid);
      }

module _ {M : Type 1} {𝓤 : Ura M} (𝓛 : Logic 𝓤) (E : Three) (Z : Fml) where
  -- what is owned with the nodes is the same in any order
  pub cells_elsewhere : (xs : List (Node E)) (c : Node E) (ys us vs : List (Node E)) → xs ++ ys ≡ us ++ vs
      → ent 𝓤 (sem 𝓛 (Cells E Z (xs ++ c ∷ ys))) (sem 𝓛 (Cells E Z (us ++ c ∷ vs)))
  cells_elsewhere xs c ys us vs e =
      via 𝓤 _ (subst (λ zs. ent 𝓤 (sem 𝓛 (Cells E Z (xs ++ c ∷ ys))) (sep 𝓤 (sem 𝓛 (One E c)) (sem 𝓛 (Cells E Z zs)))) e
      (cells_cut 𝓛 E Z xs c ys)) (cells_glue 𝓛 E Z us c vs)

  pub nodes_elsewhere : {cs : List (Node E)} {p q : Ptr} (k : Cut cs p) (j : Place (rest k) q)
      → ent 𝓤 (sem 𝓛 (Cells E Z cs)) (sem 𝓛 (Cells E Z (j.before ++ k.split.node ∷ j.after)))
  nodes_elsewhere k j =
      subst (λ ds. ent 𝓤 (sem 𝓛 (Cells E Z ds)) (sem 𝓛 (Cells E Z (j.before ++ k.split.node ∷ j.after))))
      (sym k.split.is) (cells_elsewhere k.split.before k.split.node k.split.after j.before j.after j.is)
