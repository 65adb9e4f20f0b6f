-- Where what nodes hold lies, and what a change of one of them leaves.
use Rattle.lhm_ring.proofs.Names.{AllByRecursion, Cell, Held, IsApart, Link, Links, List, None, Option, P, Ptr, Some, [], ap, cell}
use Rattle.lhm_ring.proofs.Names.{cell_at, chaining_to, change, cond, content_of, contents, false, holders, links_at, links_of, map}
use Rattle.lhm_ring.proofs.Names.{map-append, one_of, pointers, refl, same_ptr, sym, triples, true, with_links, ◌++◌, ◌∙◌, ◌∷◌, ◌≡◌}
use Rattle.lhm_ring.proofs.lists.{Apart.IsApart-added, Apart.IsApart-none, Apart.IsApart-tail, Apart.IsFresh-head, Options.Some-injective}
use Rattle.lhm_ring.proofs.rings.Contents.{content, pointers_of}
use Rattle.std.proofs.lemmas.List.{map-id}

module _ {B : Type 0} where
  pub AllByRecursion-holders : (P : Ptr → Type 0) (cs : List (Cell Links B))
      → AllByRecursion P (pointers cs) → AllByRecursion P (holders cs)
  unfolding contents
  AllByRecursion-holders P [] a = tt
  AllByRecursion-holders P (c ∷ cs) a =
      elim c.body as (λ b. AllByRecursion P (pointers_of (one_of (content_of c.at (Some c.links) b) ++ contents cs))) [
        | None ↦ AllByRecursion-holders P cs a.1
        | Some x ↦ (a.0, AllByRecursion-holders P cs a.1)
      ]

  pub IsApart-holders : (cs : List (Cell Links B)) → IsApart (pointers cs) → IsApart (holders cs)
  unfolding contents
  IsApart-holders [] d = IsApart-none
  IsApart-holders (c ∷ cs) d =
      let free = AllByRecursion-holders (λ q. same_ptr c.at q ≡ false) cs (IsFresh-head c.at (pointers cs) d) in
      let rest = IsApart-holders cs (IsApart-tail c.at (pointers cs) d) in
      elim c.body as (λ b. IsApart (pointers_of (one_of (content_of c.at (Some c.links) b) ++ contents cs))) [
        | None ↦ rest
        | Some x ↦ IsApart-added c.at (holders cs) free rest
      ]

  -- a change that leaves what g makes of what a node holds
  map-change : {X : Type 0} (g : Held B → X) (p : Ptr) (f : Cell Links B → Cell Links B) (cs : List (Cell Links B))
      → ((c : Cell Links B) → cell_at cs p ≡ Some c → map g (content (f c)) ≡ map g (content c))
      → map g (contents (change p f cs)) ≡ map g (contents cs)
  unfolding change cell_at contents
  map-change g p f [] same = refl
  map-change g p f (c ∷ cs) same =
      elim (same_ptr c.at p) as (λ y. ((d : Cell Links B) → cond y (Some c) (cell_at cs p) ≡ Some d
      → map g (content (f d)) ≡ map g (content d))
      → map g (contents (cond y (f c ∷ cs) (c ∷ change p f cs))) ≡ map g (contents (c ∷ cs))) [
        | true ↦ λ s. map-append g (content (f c)) (contents cs) ∙ ap (λ ps. ps ++ map g (contents cs)) (s c refl)
            ∙ sym (map-append g (content c) (contents cs))
        | false ↦ λ s. map-append g (content c) (contents (change p f cs))
            ∙ ap (λ ps. map g (content c) ++ ps) (map-change g p f cs s) ∙ sym (map-append g (content c) (contents cs))
      ] same

  -- links are written that show the same
  pub contents-with_links : (p : Ptr) (l la : Links) (cs : List (Cell Links B)) → links_at cs p ≡ Some la
      → ((q : Ptr) (b : Option B) → content_of q (Some l) b ≡ content_of q (Some la) b) → contents (with_links p l cs) ≡ contents cs
  contents-with_links p l la cs e same =
      sym (map-id (contents (with_links p l cs))) ∙ map-change (λ t. t) p (λ c. cell c.at l c.body) cs (λ c h.
      let read = Some-injective la c.links (sym e ∙ ap links_of h) in
      ap (λ o. map (λ t. t) (one_of o)) (same c.at c.body ∙ ap (λ k. content_of c.at (Some k) c.body) read)) ∙ map-id (contents cs)

  holder-written : (p : Ptr) (l k : Links) (b : Option B)
      → pointers_of (one_of (content_of p (Some l) b)) ≡ pointers_of (one_of (content_of p (Some k) b))
  holder-written p l k None = refl
  holder-written p l k (Some x) = refl

  pub holders-with_links : (p : Ptr) (l : Links) (cs : List (Cell Links B)) → holders (with_links p l cs) ≡ holders cs
  holders-with_links p l cs = map-change (λ t. t.at) p (λ c. cell c.at l c.body) cs (λ c _. holder-written c.at l c.links c.body)

  triples-written : (p : Ptr) (o : Link) (l : Links) (b : Option B)
      → triples (one_of (content_of p (Some (chaining_to o l)) b)) ≡ triples (one_of (content_of p (Some l) b))
  triples-written p o l None = refl
  triples-written p o l (Some x) = refl

  pub triples-chained : (cs : List (Cell Links B)) (p : Ptr) (o : Link) (l : Links) → links_at cs p ≡ Some l
      → triples (contents (with_links p (chaining_to o l) cs)) ≡ triples (contents cs)
  triples-chained cs p o l e = map-change (λ t. (t.hash, t.pair)) p (λ c. cell c.at (chaining_to o l) c.body) cs (λ c h.
      let same = Some-injective l c.links (sym e ∙ ap links_of h) in
      ap (λ k. triples (one_of (content_of c.at (Some (chaining_to o k)) c.body))) same ∙ triples-written c.at o c.links c.body)
