-- Nodes whose links lead as those of others do, whatever they hold: rows, spare lists and a ring of
-- these are theirs too.
use Rattle.std.specs.Prelude.{◌≡◌, ℕ, List, [], ◌∷◌, ◌++◌, length, Option}
use Rattle.std.specs.List.{AllByRecursion}
use mathlib.Core.Path.{sym, ap, subst, ◌∙◌}
use denote.RawPtr.{Ptr, null_ptr}
use Rattle.lhm_ring.specs.declared.links.Links.{Links}
use Rattle.lhm_ring.specs.declared.pointer.Link.{Link}
use Rattle.lhm_ring.specs.Lists.{AllByRecursion-always, AllByRecursion-map}
use Rattle.lhm_ring.specs.Nodes.{Cell, links_at}
use Rattle.lhm_ring.specs.Pointer.{target}
use Rattle.lhm_ring.specs.Links.{AreLinked, IsOwned, IsSpareList, IsThere, has_links, is_there, link_at, link_of, next_at, next_of}
use Rattle.lhm_ring.specs.Links.{prev_at, prev_of}

module _ {B C : Type 0} (cs : List (Cell Links B)) (ds : List (Cell Links C)) where
  abbrev pub SameLink : Ptr → Type 0
  SameLink q = link_at ds q ≡ link_at cs q

  pub IsSpareList-same : (h : Option Ptr) (ss : List Ptr) → AllByRecursion SameLink ss → IsSpareList cs h ss
      → IsSpareList ds h ss
  IsSpareList-same h [] a c = c
  IsSpareList-same h (p ∷ ps) a c =
      (c.0, IsSpareList-same (link_at ds p) ps a.1 (subst (λ o. IsSpareList cs o ps) (sym a.0) c.1))

  module _ (next : (q : Ptr) → next_at ds q ≡ next_at cs q) (prev : (q : Ptr) → prev_at ds q ≡ prev_at cs q) where
    pub AreLinked-same : (s : List Ptr) → AreLinked cs s → AreLinked ds s
    AreLinked-same [] k = tt
    AreLinked-same (y ∷ []) k = tt
    AreLinked-same (y ∷ z ∷ r) k = ((next y ∙ k.0.0, prev z ∙ k.0.1), AreLinked-same (z ∷ r) k.1)

    pub IsOwned-same : ((q : Ptr) → is_there ds q ≡ is_there cs q) → length ds ≡ length cs
        → {ps : List Ptr} {spare : Link} {n m : ℕ} (ok : IsOwned cs ps spare n m)
        → AllByRecursion SameLink ok.spare_pointers → IsOwned ds ps spare n m
    IsOwned-same there count {ps} {spare} ok links =
        let ss : List Ptr = ok.spare_pointers in
        record {
          spare_pointers = ss;
          ring = record {
            linked = AreLinked-same (null_ptr ∷ (ps ++ null_ptr ∷ [])) ok.ring.linked;
            chained = IsSpareList-same (target spare) ss links ok.ring.chained;
            there = AllByRecursion-map (IsThere cs) (IsThere ds) (λ q k. there q ∙ k) (null_ptr ∷ (ps ++ ss))
                ok.ring.there;
            apart = ok.ring.apart;
            count = count ∙ ok.ring.count;
          };
          held_count = ok.held_count;
          enough_spares = ok.enough_spares;
          bounded = ok.bounded;
        }

  -- with the same links all over
  pub IsOwned-alike : ((q : Ptr) → links_at ds q ≡ links_at cs q) → length ds ≡ length cs
      → {ps : List Ptr} {spare : Link} {n m : ℕ} → IsOwned cs ps spare n m → IsOwned ds ps spare n m
  IsOwned-alike same count ok =
      IsOwned-same (λ q. ap next_of (same q)) (λ q. ap prev_of (same q)) (λ q. ap has_links (same q)) count ok
      (AllByRecursion-always SameLink (λ q. ap link_of (same q)) ok.spare_pointers)
