-- The values of what an iterator has left are lent, the first or the last in turn.
use Rattle.lhm_ring.proofs.Names.{AreLent, Held, IsApart, List, None, Option, Ptr, Some, [], ap, cond, subst, sym, value_at, without_value}
use Rattle.lhm_ring.proofs.lists.Apart.{IsApart-left, IsApart-tail, IsFresh-head, same_ptr-reflexive}
use Rattle.lhm_ring.proofs.{Names.◌++◌, Names.◌∙◌, Names.◌∷◌, Names.◌≡◌, rings.Contents.pointers_of, rings.Contents.pointers_of-append}
use Rattle.lhm_ring.proofs.{lists.Cuts.same_ptr-fresh, lists.Options.Some-injective, memory.ValuesInOrder.run_of}

-- a key and a value that are read apart
pub Some-both : {K V : Type 0} (o : Option (K × V)) (k k' : K) (v v' : V) → o ≡ Some (k, v) → o ≡ Some (k', v') → o ≡ Some (k, v')
Some-both o k k' v v' e f = e ∙ ap (λ (z : _ × _). Some (k, z.1)) (Some-injective (k, v) (k', v') (sym e ∙ f))

pub Some-unique : {V : Type 0} (o : Option V) (v w : V) → o ≡ Some v → o ≡ Some w → v ≡ w
Some-unique o v w e f = Some-injective v w (sym e ∙ f)

module _ {K V : Type 0} where
  value_at-last : (ts : List (Held (K × V))) (t : Held (K × V)) → IsApart (pointers_of (ts ++ t ∷ []))
      → (value_at (run_of (ts ++ t ∷ [])) t.at ≡ Some t.pair.1) × (without_value t.at (run_of (ts ++ t ∷ [])) ≡ run_of ts)
  unfolding value_at without_value
  value_at-last [] t d = let own = same_ptr-reflexive t.at in
      (ap (λ y. cond y (Some t.pair.1) None) own, ap (λ y. cond y [] ((t.at, t.pair.1) ∷ [])) own)
  value_at-last (u ∷ us) t d =
      let on = value_at-last us t (IsApart-tail u.at (pointers_of (us ++ t ∷ [])) d) in let run = run_of (us ++ t ∷ []) in
      let away = same_ptr-fresh (λ (t : Held (K × V)). t.at) u.at us t [] (IsFresh-head u.at (pointers_of (us ++ t ∷ [])) d) in (
        ap (λ y. cond y (Some u.pair.1) (value_at run t.at)) away ∙ on.0,
        ap (λ y. cond y run ((u.at, u.pair.1) ∷ without_value t.at run)) away ∙ ap (λ r. (u.at, u.pair.1) ∷ r) on.1,
      )

  pub value_at-first_lent : {run : List (Ptr × V)} {s : List (Held (K × V))} {t : Held (K × V)} {ts : List (Held (K × V))} → s ≡ t ∷ ts
      → AreLent run s → (value_at run t.at ≡ Some t.pair.1) × AreLent (without_value t.at run) ts
  unfolding value_at without_value
  value_at-first_lent {t = t} {ts = ts} e a =
      let is = a.lent ∙ ap run_of e in let own = same_ptr-reflexive t.at in (
        ap (λ r. value_at r t.at) is ∙ ap (λ y. cond y (Some t.pair.1) (value_at (run_of ts) t.at)) own,
        record {
          lent = ap (without_value t.at) is ∙ ap (λ y. cond y (run_of ts) ((t.at, t.pair.1) ∷ without_value t.at (run_of ts))) own;
          apart = IsApart-tail t.at (pointers_of ts) (subst (λ hs. IsApart (pointers_of hs)) e a.apart);
        },
      )

  pub value_at-last_lent : {run : List (Ptr × V)} {s : List (Held (K × V))} (t : Held (K × V)) (ts : List (Held (K × V))) → s ≡ ts ++ t ∷ []
      → AreLent run s → (value_at run t.at ≡ Some t.pair.1) × AreLent (without_value t.at run) ts
  value_at-last_lent t ts e a =
      let is = a.lent ∙ ap run_of e in let d = subst (λ hs. IsApart (pointers_of hs)) e a.apart in let last = value_at-last ts t d in (
        ap (λ r. value_at r t.at) is ∙ last.0,
        record {
          lent = ap (without_value t.at) is ∙ last.1;
          apart = IsApart-left (pointers_of ts) (t.at ∷ []) (subst IsApart (pointers_of-append ts (t ∷ [])) d);
        },
      )
