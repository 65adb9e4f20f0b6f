-- The node at an end of what a ring holds.
use Rattle.lhm_ring.proofs.Names.{AllZip, Held, IsHeld, List, None, Option, Ptr, R, Some, SplitLast, [], ap, append-nil, arith, first_at}
use Rattle.lhm_ring.proofs.Names.{last_at, last_of, length, length-append, map-append, refl, suc, sym, triples, ℕ, ◌++◌, ◌∙◌, ◌∷◌, ◌≡◌}
use Rattle.lhm_ring.proofs.{Names.◌≤◌, lists.Options.Some-injective, lists.Splits.SplitFirst}

-- a node at p comes first, or last
abbrev pub First : {B : Type 0} → List (Held B) → Ptr → Type 0
First = SplitFirst (λ t. t.at)

abbrev pub Last : {B : Type 0} → List (Held B) → Ptr → Type 0
Last = SplitLast (λ t. t.at)

module _ {B : Type 0} where
  pub First-first_at : (hs : List (Held B)) {o : Option Ptr} {p : Ptr} → o ≡ first_at hs → o ≡ Some p → First hs p
  First-first_at [] {o} {p} e h = absurd (let no : None ≡ Some p = sym e ∙ h in cc)
  First-first_at (t ∷ hs) {o} {p} e h = record { node = t; after = hs; is = refl; at_is = Some-injective t.at p (sym e ∙ h) }

  Last-last_of : (t : Held B) (hs : List (Held B)) → Last (t ∷ hs) (last_of t hs)
  Last-last_of t [] = record { before = []; node = t; is = refl; at_is = refl }
  Last-last_of t (u ∷ hs) = let r = Last-last_of u hs in
      record { before = t ∷ r.before; node = r.node; is = ap (λ l. t ∷ l) r.is; at_is = r.at_is }

  pub Last-last_at : (hs : List (Held B)) {o : Option Ptr} {p : Ptr} → o ≡ last_at hs → o ≡ Some p → Last hs p
  Last-last_at hs e h = grind (arith, Last-last_of, Some-injective)

  pub none-first_at : (hs : List (Held B)) → None ≡ first_at hs → hs ≡ []
  none-first_at hs h = grind arith

  pub none-last_at : (hs : List (Held B)) → None ≡ last_at hs → hs ≡ []
  none-last_at hs h = grind arith

  -- the node, cut out of what is held
  module _ {hs : List (Held B)} {p : Ptr} where
    abbrev pub first_held : First hs p → IsHeld hs p
    first_held f = record { before = []; node = f.node; after = f.after; is = f.is; at_is = f.at_is }

    abbrev pub last_held : Last hs p → IsHeld hs p
    last_held l = record { before = l.before; node = l.node; after = []; is = l.is; at_is = l.at_is }

  -- one less is held once a triple was removed
  pub length-removed : (hs us xs : List (Held B)) (t : Held B) (ys : List (Held B))
      → hs ≡ xs ++ t ∷ ys → us ≡ xs ++ ys → suc (length us) ≤ length hs
  length-removed hs us xs t ys e f = grind (arith, length-append)

-- the triples, once that at an end was removed
module _ {K V : Type 0} {hs : List (Held (K × V))} {p : Ptr} where
  pub triples-first : (f : First hs p) (others : List (Held (K × V))) (taken : ℕ × K × V) → others ≡ f.after
      → taken ≡ (f.node.hash, f.node.pair.0, f.node.pair.1) → triples hs ≡ (taken.0, (taken.1, taken.2)) ∷ triples others
  triples-first f others taken left out = ap triples f.is ∙ (λ i. ((sym out i).0, ((sym out i).1, (sym out i).2)) ∷ triples (sym left i))

  pub triples-last : (l : Last hs p) (others : List (Held (K × V))) (taken : ℕ × K × V) → others ≡ l.before ++ []
      → taken ≡ (l.node.hash, l.node.pair.0, l.node.pair.1) → triples hs ≡ triples others ++ (taken.0, (taken.1, taken.2)) ∷ []
  triples-last l others taken left out = grind (arith, map-append, append-nil)

-- a triple that was put at the back comes last
pub triples-pushed : {K V : Type 0} (hs rest : List (Held (K × V))) (t : Held (K × V))
    → hs ≡ rest ++ t ∷ [] → triples hs ≡ triples rest ++ (t.hash, t.pair) ∷ []
triples-pushed hs rest t pushed = ap triples pushed ∙ map-append (λ u. (u.hash, u.pair)) rest (t ∷ [])

pub AllZip-last : {A B : Type 0} (R : A → B → Type 0) (xs : List A) (ys : List B) (x : A) (y : B)
    → AllZip R xs ys → R x y → AllZip R (xs ++ x ∷ []) (ys ++ y ∷ [])
AllZip-last R [] [] x y all last = (last, tt)
AllZip-last R [] (y' ∷ ys) x y all last = absurd all
AllZip-last R (x' ∷ xs) [] x y all last = absurd all
AllZip-last R (x' ∷ xs) (y' ∷ ys) x y all last = (all.0, AllZip-last R xs ys x y all.1 last)
