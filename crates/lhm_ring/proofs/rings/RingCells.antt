-- The nodes of a ring, and the one at null that stands for its ends.
use Rattle.lhm_ring.proofs.Names.{AllByRecursion, AreBlocks, AreLinked, Cell, ChainsTo, Ends, IsAt, IsJoined, IsOwned, IsRing, IsSpareList}
use Rattle.lhm_ring.proofs.Names.{IsThere, Link, Links, List, None, Option, Ptr, Some, [], ap, arith, block_ptr, cell, cell_at}
use Rattle.lhm_ring.proofs.Names.{chaining_to, change, cond, contents, ends_links, false, has_links, holders, is_block, led_to, link_of}
use Rattle.lhm_ring.proofs.Names.{links_at, links_of, next_at, null_ptr, pointers, prev_at, refl, ring_cells, same_ptr, subst, sym, target}
use Rattle.lhm_ring.proofs.Names.{true, with_links, ◌∙◌, ◌∷◌, ◌≡◌}
use Rattle.lhm_ring.proofs.lists.{Apart.IsApart-added, Apart.IsApart-none, ForAll.AllByRecursion-map}
use Rattle.lhm_ring.proofs.{lists.Options.Some-injective, lists.Options.none_some, rings.Lookup.AllByRecursion-at, rings.Writes.IsAt-there}
use Rattle.lhm_ring.specs.SameNodes.{IsSpareList-same, SameLink}

-- where a link leads
pub led_to-apart : (p : Ptr) → same_ptr null_ptr p ≡ false → led_to p ≡ Some p
led_to-apart (block_ptr b o) h = refl
led_to-apart null_ptr h = cc

pub led_to-some : (p q : Ptr) → led_to p ≡ Some q → p ≡ q
led_to-some (block_ptr b o) q e = Some-injective (block_ptr b o) q e
led_to-some null_ptr q e = absurd (none_some q e)

pub led_to-none : (p : Ptr) → led_to p ≡ None → p ≡ null_ptr
led_to-none (block_ptr b o) e = absurd cc
led_to-none null_ptr e = refl

-- a block is not null
pub same_ptr-null : (q : Ptr) → is_block q ≡ true → same_ptr null_ptr q ≡ false
same_ptr-null (block_ptr c o) h = refl
same_ptr-null null_ptr h = cc

-- a join, if its nodes are known by other names
pub IsJoined-same : {B : Type 0} {cs ds : List (Cell Links B)} {a b c d : Ptr} → a ≡ c → b ≡ d → IsJoined cs ds a b → IsJoined cs ds c d
IsJoined-same {cs = cs} {ds = ds} e f = subst (λ (z : Ptr × Ptr). IsJoined cs ds z.0 z.1) (λ i. (e i, f i))

-- the node at null
module _ {B : Type 0} (e : Ends) (cs : List (Cell Links B)) where
  pub links_at-null : links_at (ring_cells e cs) null_ptr ≡ Some (ends_links e)
  unfolding cell_at
  links_at-null = refl

  pub is_there-null : IsThere (ring_cells e cs) null_ptr
  is_there-null = ap has_links links_at-null

  -- a link to nowhere leads to the ends
  pub is_there-nowhere : (q : Ptr) → led_to q ≡ None → IsThere (ring_cells e cs) q
  is_there-nowhere q h = subst (IsThere (ring_cells e cs)) (sym (led_to-none q h)) is_there-null

  pub next_at-null : next_at (ring_cells e cs) null_ptr ≡ e.first.ptr
  unfolding cell_at
  next_at-null = refl

  pub prev_at-null : prev_at (ring_cells e cs) null_ptr ≡ e.last.ptr
  unfolding cell_at
  prev_at-null = refl

  -- the ends are written
  pub with_links-end : (f : Links → Links) {d : Ends} → ends_links d ≡ f (ends_links e) → {p : Ptr} → p ≡ null_ptr
      → (l : Links) → links_at (ring_cells e cs) p ≡ Some l → ring_cells d cs ≡ with_links p (f l) (ring_cells e cs)
  unfolding cell_at change
  with_links-end f same is l = grind (arith, Some-injective)

-- the others
module _ {B : Type 0} (e : Ends) (cs : List (Cell Links B)) (p : Ptr) (b : is_block p ≡ true) where
  pub cell_at-ring_cells : cell_at (ring_cells e cs) p ≡ cell_at cs p
  unfolding cell_at
  cell_at-ring_cells = ap (λ y. cond y (Some (cell null_ptr (ends_links e) None)) (cell_at cs p)) (same_ptr-null p b)

  pub links_at-ring_cells : links_at (ring_cells e cs) p ≡ links_at cs p
  links_at-ring_cells = ap links_of cell_at-ring_cells

  pub ring_cells-change : (f : Cell Links B → Cell Links B) → ring_cells e (change p f cs) ≡ change p f (ring_cells e cs)
  unfolding change
  ring_cells-change f = grind (arith, same_ptr-null)

  pub ring_cells-with_links : (l : Links) (ds : List (Cell Links B)) → ds ≡ with_links p l cs
      → ring_cells e ds ≡ with_links p l (ring_cells e cs)
  ring_cells-with_links l ds is = ap (ring_cells e) is ∙ ring_cells-change (λ c. cell c.at l c.body)

  pub IsAt-in_nodes : IsAt (ring_cells e cs) p → IsAt cs p
  IsAt-in_nodes h = (h.0, sym links_at-ring_cells ∙ h.1)

  pub ChainsTo-ring_cells : (o : Link) (ds : List (Cell Links B)) → ChainsTo cs p o ds → ChainsTo (ring_cells e cs) p o (ring_cells e ds)
  ChainsTo-ring_cells o ds k l h = ring_cells-with_links (chaining_to o l) ds (k l (sym links_at-ring_cells ∙ h))

  pub with_links-node : (f : Links → Links) {ds : List (Cell Links B)} {l : Links} → links_at cs p ≡ Some l → ds ≡ with_links p (f l) cs
      → (k : Links) → links_at (ring_cells e cs) p ≡ Some k → ring_cells e ds ≡ with_links p (f k) (ring_cells e cs)
  with_links-node f h is k g = grind (arith, ring_cells-with_links, Some-injective, links_at-ring_cells)

-- a node that is there, and is not the one at null, lies in a block
module _ {B : Type 0} (e : Ends) (cs : List (Cell Links B)) (all : AreBlocks (pointers cs)) where
  pub is_block-there : (p : Ptr) → same_ptr null_ptr p ≡ false → IsThere (ring_cells e cs) p → is_block p ≡ true
  unfolding cell_at
  is_block-there (block_ptr c o) f h = let l = IsAt-there cs (block_ptr c o) h in
      AllByRecursion-at (λ q. is_block q ≡ true) cs (block_ptr c o) l.0 all l.1
  is_block-there null_ptr f h = cc

-- what nodes hold is what they hold in the ring
module _ {B : Type 0} (e : Ends) (cs : List (Cell Links B)) where
  abbrev Apart : Ptr → Type 0
  Apart p = same_ptr null_ptr p ≡ false

  cell_at-apart : (p : Ptr) → Apart p → cell_at (ring_cells e cs) p ≡ cell_at cs p
  unfolding cell_at
  cell_at-apart p h = ap (λ y. cond y (Some (cell null_ptr (ends_links e) None)) (cell_at cs p)) h

  pub AreLinked-in_nodes : (ps : List Ptr) → AllByRecursion Apart ps → AreLinked (ring_cells e cs) ps → AreLinked cs ps
  AreLinked-in_nodes [] h l = tt
  AreLinked-in_nodes (p ∷ []) h l = tt
  AreLinked-in_nodes (p ∷ q ∷ ps) h l = grind (arith, cell_at-apart, AreLinked-in_nodes (q ∷ ps) h.1 l.1)

  pub IsSpareList-in_nodes : (h : Option Ptr) (ss : List Ptr) → AllByRecursion Apart ss
      → IsSpareList (ring_cells e cs) h ss → IsSpareList cs h ss
  IsSpareList-in_nodes h ss f = IsSpareList-same (ring_cells e cs) cs h ss
      (AllByRecursion-map Apart (SameLink (ring_cells e cs) cs)
      (λ p n. sym (ap (λ z. link_of (links_of z)) (cell_at-apart p n))) ss f)

  pub IsSpareList-in_ring : (h : Option Ptr) (ss : List Ptr) → AllByRecursion Apart ss
      → IsSpareList cs h ss → IsSpareList (ring_cells e cs) h ss
  IsSpareList-in_ring h ss f = IsSpareList-same cs (ring_cells e cs) h ss
      (AllByRecursion-map Apart (SameLink cs (ring_cells e cs))
      (λ p n. ap (λ z. link_of (links_of z)) (cell_at-apart p n)) ss f)

  pub AllByRecursion-there_in_nodes : (ps : List Ptr) → AllByRecursion Apart ps
      → AllByRecursion (IsThere (ring_cells e cs)) ps → AllByRecursion (IsThere cs) ps
  AllByRecursion-there_in_nodes [] f h = tt
  AllByRecursion-there_in_nodes (p ∷ ps) f h = grind (arith, cell_at-apart, AllByRecursion-there_in_nodes ps f.1 h.1)

-- a ring without nodes
module _ {B : Type 0} (e : Ends) (cs : List (Cell Links B)) (spare : Link) (none : cs ≡ [])
    (free : target spare ≡ None) (first : target e.first ≡ None) (last : target e.last ≡ None) where
  IsRing-bare : IsRing (ring_cells {B = B} e []) [] (target spare) []
  IsRing-bare = grind (arith, next_at-null, led_to-none, prev_at-null, is_there-null, IsApart-added, IsApart-none)

  bare : IsOwned (ring_cells e cs) [] spare 0 0
  bare = grind (arith, IsRing-bare)

  pub IsOwned-bare : IsOwned (ring_cells e cs) (holders cs) spare 0 0
  unfolding contents
  IsOwned-bare = subst (λ qs. IsOwned (ring_cells e cs) qs spare 0 0) (sym (ap holders none)) bare
