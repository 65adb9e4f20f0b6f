-- A node that is found at a pointer cuts the list in two there.
use Rattle.lhm_ring.proofs.Names.{AllByRecursion, Cell, List, None, Option, Ptr, Some, SplitAt, [], ap, body_at, body_of, cell_at, change}
use Rattle.lhm_ring.proofs.Names.{cond, false, links_at, links_of, pointers, refl, same_ptr, subst, sym, true, ◌++◌, ◌∙◌, ◌∷◌, ◌≡◌}
use Rattle.lhm_ring.proofs.lists.{Apart.same_ptr-equal, Options.none_some}

module _ {L B : Type 0} where
  -- where the list is cut, and what a change there does
  pub record Cut (cs : List (Cell L B)) (p : Ptr) : Type 0 where
    pub split : SplitAt (λ c. c.at) cs p
    pub here : cell_at cs p ≡ Some split.node
    pub changed : (f : Cell L B → Cell L B) → change p f cs ≡ split.before ++ f split.node ∷ split.after

  pub Cut-links_at : (cs : List (Cell L B)) (p : Ptr) (l : L) → links_at cs p ≡ Some l → Cut cs p
  unfolding cell_at change
  Cut-links_at [] p l e = absurd (none_some l e)
  Cut-links_at (c ∷ cs) p l e =
      (elim (same_ptr c.at p) as (λ y. same_ptr c.at p ≡ y → Cut (c ∷ cs) p) [
        | true ↦ λ t. record {
          split = record { before = []; node = c; after = cs; is = refl; at_is = same_ptr-equal c.at p t };
          here = ap (λ y. cond y (Some c) (cell_at cs p)) t;
          changed = λ f. ap (λ y. cond y (f c ∷ cs) (c ∷ change p f cs)) t;
        }
        | false ↦ λ t. let on = Cut-links_at cs p l (sym (ap (λ y. links_of (cond y (Some c) (cell_at cs p))) t) ∙ e) in record {
          split = record {
            before = c ∷ on.split.before;
            node = on.split.node;
            after = on.split.after;
            is = ap (λ xs. c ∷ xs) on.split.is;
            at_is = on.split.at_is;
          };
          here = ap (λ y. cond y (Some c) (cell_at cs p)) t ∙ on.here;
          changed = λ f. ap (λ y. cond y (f c ∷ cs) (c ∷ change p f cs)) t ∙ ap (λ xs. c ∷ xs) (on.changed f);
        }
      ]) refl

  holds_at : (o : Option (Cell L B)) (b : B) → body_of o ≡ Some b → (c : Cell L B) × (o ≡ Some c)
  holds_at None b e = absurd (none_some b e)
  holds_at (Some c) b e = (c, refl)

  -- where something is held
  pub Cut-held : (cs : List (Cell L B)) (p : Ptr) (b : B) → body_at cs p ≡ Some b → Cut cs p
  Cut-held cs p b e = let h = holds_at (cell_at cs p) b e in Cut-links_at cs p h.0.links (ap links_of h.1)

  pub held_here : {cs : List (Cell L B)} {p : Ptr} {b : B} (k : Cut cs p) → body_at cs p ≡ Some b → k.split.node.body ≡ Some b
  held_here k e = sym (ap body_of k.here) ∙ e

  -- what holds of all pointers holds of one that is found
  pub AllByRecursion-at : (P : Ptr → Type 0) (cs : List (Cell L B)) (p : Ptr) (l : L)
      → AllByRecursion P (pointers cs) → links_at cs p ≡ Some l → P p
  unfolding cell_at
  AllByRecursion-at P [] p l h e = absurd (none_some l e)
  AllByRecursion-at P (c ∷ cs) p l h e =
      (elim (same_ptr c.at p) as (λ y. same_ptr c.at p ≡ y → links_of (cond y (Some c) (cell_at cs p)) ≡ Some l → P p) [
        | true ↦ λ t _. subst P (same_ptr-equal c.at p t) h.0
        | false ↦ λ n k. AllByRecursion-at P cs p l h.1 k
      ]) refl e
