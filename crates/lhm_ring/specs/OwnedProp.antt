-- That the fields of a ring are right is a proposition: they determine the held and the spare
-- pointers.
use Rattle.std.specs.Prelude.{◌≡◌, ℕ, ◌≤◌, List, [], ◌∷◌, ◌++◌, length, Option, Some, None}
use Rattle.std.specs.List.{AllByRecursion-prop}
use mathlib.Core.Path.{refl, sym, ap, subst, ◌∙◌}
use mathlib.Core.Bool.{Bool-set}
use mathlib.Core.HLevel.{×_prop, ×₃_prop, Unit-prop, is_prop→PathP}
use native.Mathlib.Nat.{ℕ_set}
use native.Mathlib.Bridge.{le_prop}
use base.Stored.{Coded-set, coded_via, coded_list}
use denote.RawPtr.{Ptr, null_ptr, coded_ptr}
use Rattle.lhm_ring.specs.declared.links.Links.{Links}
use Rattle.lhm_ring.specs.declared.pointer.Link.{Link}
use Rattle.lhm_ring.specs.Nodes.{Cell, Chunk, IsApart-prop}
use Rattle.lhm_ring.specs.Pointer.{target}
use Rattle.lhm_ring.specs.Links.{AreLinked, IsChain, IsLaid, IsOwned, IsRing, IsSpareList, IsThere, link_at}

-- what may be missing, as a list
abbrev as_list : {A : Type 0} → Option A → List A
as_list None = []
as_list (Some x) = x ∷ []

abbrev as_option : {A : Type 0} → List A → Option A
as_option [] = None
as_option (x ∷ xs) = Some x

as_option-as_list : {A : Type 0} (o : Option A) → as_option (as_list o) ≡ o
as_option-as_list None = refl
as_option-as_list (Some x) = refl

links_set : IsSet (Option Ptr)
links_set = Coded-set (coded_via (coded_list coded_ptr) as_list
    (λ x y e. sym (as_option-as_list x) ∙ ap as_option e ∙ as_option-as_list y))

module _ {B : Type 0} (cs : List (Cell Links B)) where
  AreLinked-prop : (ps : List Ptr) → IsProp (AreLinked cs ps)
  AreLinked-prop [] = Unit-prop
  AreLinked-prop (x ∷ []) = Unit-prop
  AreLinked-prop (x ∷ y ∷ r) = ×_prop (×_prop (Coded-set coded_ptr _ _) (Coded-set coded_ptr _ _)) (AreLinked-prop (y ∷ r))

  IsSpareList-prop : (o : Option Ptr) (ss : List Ptr) → IsProp (IsSpareList cs o ss)
  IsSpareList-prop o [] = links_set _ _
  IsSpareList-prop o (p ∷ ps) = ×_prop (links_set _ _) (IsSpareList-prop (link_at cs p) ps)

  IsSpareList-alone : (o : Option Ptr) (ss ts : List Ptr) → IsSpareList cs o ss → IsSpareList cs o ts → ss ≡ ts
  IsSpareList-alone o [] [] a b = refl
  IsSpareList-alone o [] (q ∷ ts) a b = let e : None ≡ Some q = sym a ∙ b.0 in absurd (cc)
  IsSpareList-alone o (p ∷ ss) [] a b = let e : None ≡ Some p = sym b ∙ a.0 in absurd (cc)
  IsSpareList-alone o (p ∷ ss) (q ∷ ts) a b =
      let e : Some p ≡ Some q = sym a.0 ∙ b.0 in let f : p ≡ q = cc in
      λ i. f i ∷ IsSpareList-alone (link_at cs p) ss ts a.1 (subst (λ z. IsSpareList cs (link_at cs z) ts) (sym f) b.1) i

  IsRing-prop : (ps : List Ptr) (o : Option Ptr) (ss : List Ptr) → IsProp (IsRing cs ps o ss)
  IsRing-prop ps o ss r t = λ i. record {
    linked = AreLinked-prop (null_ptr ∷ (ps ++ null_ptr ∷ [])) r.linked t.linked i;
    chained = IsSpareList-prop o ss r.chained t.chained i;
    there = AllByRecursion-prop (IsThere cs) (λ p. Bool-set _ _) (null_ptr ∷ (ps ++ ss)) r.there t.there i;
    apart = IsApart-prop (null_ptr ∷ (ps ++ ss)) r.apart t.apart i;
    count = ℕ_set _ _ r.count t.count i;
  }

  pub IsOwned-prop : (ps : List Ptr) (s : Link) (n m : ℕ) → IsProp (IsOwned cs ps s n m)
  IsOwned-prop ps s n m o q =
      let f : o.spare_pointers ≡ q.spare_pointers =
      IsSpareList-alone (target s) o.spare_pointers q.spare_pointers o.ring.chained q.ring.chained in
      λ i. record {
        spare_pointers = f i;
        ring = is_prop→PathP (λ j. IsRing cs ps (target s) (f j)) (λ j. IsRing-prop ps (target s) (f j)) o.ring q.ring i;
        held_count = ℕ_set _ _ o.held_count q.held_count i;
        enough_spares = is_prop→PathP (λ j. m ≤ length (f j)) (λ j. le_prop) o.enough_spares q.enough_spares i;
        bounded = le_prop o.bounded q.bounded i;
      }

IsChain-prop : (cs : List Chunk) (p : Ptr) → IsProp (IsChain cs p)
unfolding IsChain
IsChain-prop [] p = Coded-set coded_ptr _ _
IsChain-prop (c ∷ cs) p = ×₃_prop (Coded-set coded_ptr _ _) (Bool-set _ _) (IsChain-prop cs c.next)

pub IsLaid-prop : (us : List Ptr) (cs : List Chunk) (p : Ptr) (n : ℕ) → IsProp (IsLaid us cs p n)
IsLaid-prop us cs p n x y = λ i. record {
  none_unused = Coded-set (coded_list coded_ptr) _ _ x.none_unused y.none_unused i;
  all_listed = IsChain-prop cs p x.all_listed y.all_listed i;
  all_made = ℕ_set _ _ x.all_made y.all_made i;
}
