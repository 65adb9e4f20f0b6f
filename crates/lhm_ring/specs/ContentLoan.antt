-- Keys and values that are lent apart from their nodes, to be moved out.
use Rattle.std.specs.Prelude.{◌≡◌, cond, List, [], ◌∷◌, map, Option, Some, None}
use Rattle.std.specs.Borrow.{Fml, RattleType, GName}
use Rattle.std.proofs.Common.{refl, sym, ap, ◌∙◌}
use base.Stored.{Coded, coded_list, coded×, coded_via}
use base.Fml.{Lft, ftrue, ffalse, fsep, fobs, fbor}
use types.SemTy.{SemTy, Body}
use denote.RawPtr.{Ptr}
use Rattle.lhm_ring.specs.Nodes.{Cell, cell, same_ptr, pointers, body_owns}

module _ {X : Type 0} where
  abbrev pub as_list : Option X → List X
  as_list None = []
  as_list (Some x) = x ∷ []

  abbrev first_in : List X → Option X
  first_in [] = None
  first_in (x ∷ xs) = Some x

  first_in-as_list : (o : Option X) → first_in (as_list o) ≡ o
  first_in-as_list None = refl
  first_in-as_list (Some x) = refl

  pub as_list-inj : (o u : Option X) → as_list o ≡ as_list u → o ≡ u
  as_list-inj o u e = sym (first_in-as_list o) ∙ ap first_in e ∙ first_in-as_list u

-- what a node holds, as a list of at most one
abbrev pub coded_body : {X : Type 0} → Coded X → Coded (Option X)
coded_body c = coded_via (coded_list c) as_list as_list-inj

module _ {B : Type 0} where
  -- what the node at p holds
  unfoldable pub body_in : List (Ptr × Option B) → Ptr → Option B
  body_in [] p = None
  body_in (c ∷ cs) p = cond (same_ptr c.0 p) c.1 (body_in cs p)

  -- the same, except that the node at p holds nothing
  unfoldable pub without_body : Ptr → List (Ptr × Option B) → List (Ptr × Option B)
  without_body p [] = []
  without_body p (c ∷ cs) = cond (same_ptr c.0 p) ((c.0, None) ∷ cs) (c ∷ without_body p cs)

  abbrev pub HasBody : List (Ptr × Option B) → Ptr → Type 0
  HasBody cs p = (x : B) × (body_in cs p ≡ Some x)

  abbrev pub firsts : List (Ptr × Option B) → List Ptr
  firsts = map (λ c. c.0)

  abbrev pub seconds : List (Ptr × Option B) → List (Option B)
  seconds = map (λ c. c.1)

module _ {L B : Type 0} where
  -- what the nodes hold, each with its pointer
  abbrev pub bodies_of : List (Cell L B) → List (Ptr × Option B)
  bodies_of = map (λ c. (c.at, c.body))

  -- the nodes with nothing in them
  abbrev pub cleared : List (Cell L B) → List (Cell L B)
  cleared = map (λ c. cell c.at c.links None)

  -- the nodes with the bodies of a run in them
  abbrev pub with_bodies : List (Cell L B) → List (Ptr × Option B) → List (Cell L B)
  with_bodies cs run = map (λ c. cell c.at c.links (body_in run c.at)) cs

  pub pointers-cleared : (cs : List (Cell L B)) → pointers (cleared cs) ≡ pointers cs
  pointers-cleared [] = refl
  pointers-cleared (c ∷ cs) = ap (λ ps. c.at ∷ ps) (pointers-cleared cs)

module _ (L K V : RattleType) where
  -- what the nodes at the pointers hold, one at each
  abbrev pub bodies : List Ptr → List (Option (K.Denot × V.Denot)) → Fml
  bodies [] [] = ftrue
  bodies [] (w ∷ ws) = ffalse
  bodies (p ∷ ps) [] = ffalse
  bodies (p ∷ ps) (w ∷ ws) = fsep (body_owns L K V p w) (bodies ps ws)

  abbrev pub Bodies : List Ptr → SemTy
  Bodies ps =
      record {
        rep = List (Option (K.Denot × V.Denot));
        coded = coded_list (coded_body (coded× K.coded V.coded));
        size = 0;
        own_at = λ ws _ _.
            bodies ps ws;
      }

  -- a `&mut` to what nodes hold
  abbrev pub borrows_bodies : Lft → GName → List (Ptr × Option (K.Denot × V.Denot)) → Fml
  borrows_bodies κ γ cs =
      fsep (fobs γ ((Bodies []).coded.code (seconds cs))) (fbor κ (Body (Bodies (firsts cs)) 0 0 γ))
