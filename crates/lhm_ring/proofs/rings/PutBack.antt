-- `put_back`: a spare node is filled, and comes last.
use Rattle.lhm_ring.proofs.Names.{AtCell, BeforeCell, Cell, Ends, Held, IsApart, IsAt, IsJoined, IsOwned, IsRing, IsSome, IsSpareList}
use Rattle.lhm_ring.proofs.Names.{IsThere, Link, Links, List, Nodes, None, Option, Ptr, Some, State, [], ap, append-nil, arith, cell}
use Rattle.lhm_ring.proofs.Names.{change, content_of, contents, false, held, holders, inl, is_block, length, length-append, link_at}
use Rattle.lhm_ring.proofs.Names.{link_of, links_at, null_ptr, one_of, prev_at, refl, ring_cells, same_ptr, subst, suc, sym, target, true}
use Rattle.lhm_ring.proofs.Names.{true≢false, with_body, with_links, ℕ, ◌++◌, ◌+◌, ◌-◌, ◌<◌, ◌∙◌, ◌∷◌, ◌≡◌, ◌≤◌}
use Rattle.lhm_ring.proofs.lists.{ForAll.AllByRecursion-right, Last.last_from, Options.Some-injective}
use Rattle.lhm_ring.proofs.memory.OneNodeChanged.{OnlyAt, OnlyAt-change}
use Rattle.lhm_ring.proofs.rings.Contents.{HeldCut-contents, content, contents-middle, contents-relisted, pointers_of, pointers_of-append}
use Rattle.lhm_ring.proofs.rings.NodeOut.{AreNeighbours-out, IsFresh-row, IsOut, IsOut-changed, IsOut-spare, IsRing-joined, is_there-last}
use Rattle.lhm_ring.proofs.rings.RingCells.{IsAt-in_nodes, links_at-ring_cells, ring_cells-change}
use Rattle.lhm_ring.proofs.rings.{HeldPointers.IsApart-owned, Lookup.Cut, Lookup.Cut-links_at, Order.IsOwned-moved}
use Rattle.lhm_ring.proofs.rings.{Insides.IsWhole, Insides.seen_of, Writes.IsAt-there, Writes.change-twice, Writes.links_at-with_links}
use Rattle.lhm_ring.{proofs.lists.Apart.IsFresh, proofs.lists.Apart.same_ptr-reflexive, specs.declared.ring.Ring.TheInside.Inside}

module _ {B : Type 0} {cs : List (Cell Links B)} {ps : List Ptr} {spare : Link} {n m : ℕ} (ok : IsOwned cs ps spare n m) where
  IsSome-chained : (ss : List Ptr) → 0 < m → m ≤ length ss → IsSpareList cs (target spare) ss → IsSome (target spare)
  IsSome-chained [] free e c = absurd (omega arith)
  IsSome-chained (p ∷ ss) free e c = subst IsSome (sym c.0) refl

  pub IsSome-spare : 0 < m → IsSome (target spare)
  IsSome-spare free = IsSome-chained ok.spare_pointers free ok.enough_spares ok.ring.chained

  -- the first spare node, at p
  pub record Ready (p : Ptr) : Type 0 where
    pub others : List Ptr
    pub out : IsOut cs p ps (link_at cs p) others
    pub enough_spares : m ≤ suc (length others)

  Ready-ring : (p : Ptr) (ss : List Ptr) → 0 < m → IsRing cs ps (Some p) ss → m ≤ length ss → Ready p
  Ready-ring p [] free r b = absurd (omega arith)
  Ready-ring p (q ∷ rest) free r b =
      let same = Some-injective p q r.chained.0 in
      record { others = rest; out = IsOut-spare (subst (λ x. IsRing cs ps (Some p) (x ∷ rest)) (sym same) r); enough_spares = b }

  pub Ready-spare : 0 < m → {p : Ptr} → target spare ≡ Some p → Ready p
  Ready-spare free {p} f =
      Ready-ring p ok.spare_pointers free (subst (λ o. IsRing cs ps o ok.spare_pointers) f ok.ring) ok.enough_spares

-- the links of the node at p once they are written
pub links_at-written : {B : Type 0} (p : Ptr) (l : Links) (cs : List (Cell Links B)) {ds : List (Cell Links B)} {la : Links}
    → links_at cs p ≡ Some la → ds ≡ with_links p l cs → links_at ds p ≡ Some l
links_at-written p l cs e is = grind (arith, links_at-with_links, same_ptr-reflexive)

-- the first spare node is given links, a hash and a pair x, is joined to the ends, and is listed last
module _ {K V : Type 0} (i : Inside K V) (whole : IsWhole i) {v : State (K × V)} (seen_as : seen_of i ≡ v) (free : 0 < v.spares) {p : Ptr}
    (to : target i.spare ≡ Some p) (block : is_block p ≡ true) where
  abbrev cs : List (Cell Links (K × V))
  cs = ring_cells i.ends i.nodes.cells

  abbrev ps : List Ptr
  ps = holders i.nodes.cells

  abbrev ok : IsOwned cs ps i.spare i.len i.spares
  ok = whole.ring

  more : 0 < i.spares
  more = subst (λ k. 0 < k) (sym (ap (λ z. z.spares) seen_as)) free

  abbrev ready : Ready ok p
  ready = Ready-spare ok more to

  pub IsAt-spare : IsAt i.nodes.cells p
  IsAt-spare = IsAt-in_nodes i.ends i.nodes.cells p block (IsAt-there cs p ready.out.there.0)

  module _ {l : Links} (el : links_at i.nodes.cells p ≡ Some l) (new : Links) (x : K × V) {cs₁ cs₂ : List (Cell Links (K × V))}
      (is₁ : cs₁ ≡ with_links p new i.nodes.cells)
      (is₂ : cs₂ ≡ with_body p (Some x) cs₁) where
    abbrev put : Cell Links (K × V) → Cell Links (K × V)
    put c = cell c.at new (Some x)

    changed : cs₂ ≡ change p put i.nodes.cells
    changed = is₂ ∙ ap (with_body p (Some x)) is₁
        ∙ change-twice p (λ c. cell c.at new c.body) (λ c. cell c.at c.links (Some x)) (λ c. refl) i.nodes.cells

    abbrev ds : List (Cell Links (K × V))
    ds = ring_cells i.ends cs₂

    only : OnlyAt cs ds p
    only = subst (λ zs. OnlyAt cs zs p) (sym (ap (ring_cells i.ends) changed ∙ ring_cells-change i.ends i.nodes.cells p block put))
        (OnlyAt-change p put (λ c. refl) cs (IsAt-there cs p ready.out.there.0))

    out : IsOut ds p ps (link_at cs p) ready.others
    out = IsOut-changed ready.out only

    last_is : prev_at cs null_ptr ≡ last_from null_ptr ps
    last_is = (AreNeighbours-out ready.out ps [] (sym (append-nil ps))).1

    pub is_there-filled : IsThere ds (prev_at cs null_ptr) × IsThere ds p
    is_there-filled = (subst (λ q. IsThere ds q) (sym last_is) (is_there-last out ps [] (sym (append-nil ps))), out.there.0)

    -- it held nothing
    k : Cut i.nodes.cells p
    k = Cut-links_at i.nodes.cells p l el

    abbrev node : Cell Links (K × V)
    node = k.split.node

    holds_none : (b : Option (K × V)) → node.body ≡ b → content node ≡ []
    unfolding contents
    holds_none None h = ap (λ b. one_of (content_of node.at (Some node.links) b)) h
    holds_none (Some y) h =
        let us = contents k.split.before in let t = held node.at node.links.hash (link_of (Some node.links)) y in
        let here = ap contents k.split.is ∙ contents-middle k.split.before node k.split.after
        (ap (λ b. one_of (content_of node.at (Some node.links) b)) h) in
        let order = ap pointers_of here ∙ pointers_of-append us (t ∷ contents k.split.after) in
        let away = subst (IsFresh p) order (IsFresh-row ready.out) in
        let ws = node.at ∷ pointers_of (contents k.split.after) in
        let own = (AllByRecursion-right (λ q. same_ptr p q ≡ false) (pointers_of us) ws away).0 in
        absurd (true≢false (sym (ap (same_ptr p) k.split.at_is ∙ same_ptr-reflexive p) ∙ own))

    abbrev filled : Held (K × V)
    filled = held p new.hash None x

    module _ (none : link_of (Some new) ≡ None) where
      contents-filled : contents cs₂ ≡ contents k.split.before ++ filled ∷ contents k.split.after
      contents-filled = ap contents (changed ∙ k.changed put) ∙ contents-middle k.split.before (put node) k.split.after
          (λ n. held (k.split.at_is n) new.hash (none n) x ∷ [])

      contents-rest : contents k.split.before ++ contents k.split.after ≡ v.held
      unfolding contents
      contents-rest =
          sym (ap contents k.split.is ∙ contents-middle k.split.before node k.split.after (holds_none node.body refl))
          ∙ ap (λ z. z.held) seen_as

      module _ {es : List (Cell Links (K × V))} (j : IsJoined ds es (prev_at cs null_ptr) p) {f : Ends} (fs : Nodes Links K V)
          (j₂ : IsJoined es (ring_cells f fs.cells) p null_ptr) where
        pub IsAt-last : IsAt fs.cells p
        IsAt-last = IsAt-in_nodes f fs.cells p block (IsAt-there (ring_cells f fs.cells) p (j₂.there p ∙ j.there p ∙ out.there.0))

        module _ (d : Nodes Links K V) {q : Ptr} (null : q ≡ null_ptr)
            (listed : AtCell fs.cells p (λ xs c ys. BeforeCell (xs ++ ys) q (λ us vs. d.cells ≡ us ++ c ∷ vs))) where
          pub contents-last : contents d.cells ≡ v.held ++ filled ∷ []
          unfolding contents
          contents-last = contents-relisted (HeldCut-contents fs.cells (contents k.split.before) filled (contents k.split.after)
              (j₂.held ∙ j.held ∙ contents-filled)) refl listed v.held [] (contents-rest ∙ sym (append-nil v.held)) null

          order : holders d.cells ≡ ps ++ p ∷ []
          order = ap pointers_of contents-last ∙ pointers_of-append v.held (filled ∷ [])
              ∙ ap (λ hs. pointers_of hs ++ p ∷ []) (sym (ap (λ z. z.held) seen_as))

          pub IsOwned-last : IsOwned (ring_cells f d.cells) (holders d.cells) l.link (i.len + 1) (i.spares - 1)
          IsOwned-last = let a = ok.held_count in let b = ready.enough_spares in let c = ok.bounded in let any = more in
              IsOwned-moved fs d IsAt-last (inl null) listed f order (record {
                spare_pointers = ready.others;
                ring = subst (λ o. IsRing (ring_cells f fs.cells) (ps ++ p ∷ []) o ready.others)
                    (ap link_of (links_at-ring_cells i.ends i.nodes.cells p block ∙ el))
                    (IsRing-joined out ps [] (sym (append-nil ps)) (subst (λ z. IsJoined ds es z p) last_is j) j₂);
                held_count = omega (arith, length-append ps (p ∷ []));
                enough_spares = omega arith;
                bounded = omega arith;
              })

          pub IsApart-last : IsApart (holders d.cells)
          IsApart-last = IsApart-owned IsOwned-last
