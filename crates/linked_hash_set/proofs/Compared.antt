-- A sort of the items: the map's sort, by a comparison of two keys.
use denote.Param.Always.{always_mut, mut_by, mut_next}
use Rattle.std.proofs.Common.{◌≡◌, ◌+◌, ◌<◌, Bool, List, [], ◌∷◌, length, Bor, filter, refl, sym, ap, ap₂, ◌∙◌, arith}
use Rattle.std.proofs.lemmas.{List.get_or-map, List.length-map, Fn.answers_by}
use Rattle.std.specs.{Cmp.IsStrictWeakOrder, Fn.Mut, Fn.Called, Fn.CalledAt, Fn.CalledAtTwo, Fn.ComparesAs, Fn.ComputesKey}
use Rattle.std.specs.{List.Sorted.IsSortedBy, List.Sorted.IsStableBy, List.Sorted.ties, Map.keys_of, declared.cmp.Ordering.Ordering}
use Rattle.linked_hash_map.specs.Sort.{ComparesPairsAs, ComputesFromPair}

-- what a comparison of two pairs takes
abbrev TwoPairs : Type 0 → Type 0 → Type 0
TwoPairs T V = Bor T × (Bor V × (Bor T × (Bor V × Unit {0})))

-- a closure that compares two pairs by the comparison of items in it, at their keys
module _ {F C T V : Type 0} (g : Mut F (Bor T × (Bor T × Unit {0})) Ordering)
    (of_pairs : Mut C (TwoPairs T V) Ordering) (inner : C → F)
    (says : (s : C) (a : TwoPairs T V) (r : Ordering) (t : C) → Called of_pairs s a r t
    → CalledAtTwo g (inner s) a.0.now a.1.1.0.now r (inner t)) where
  pub callable : ((s : C) (a : TwoPairs T V) → always_mut g (inner s) → of_pairs.pre s a)
      → (s : C) → always_mut g (inner s) → always_mut of_pairs s
  callable asks = mut_by of_pairs (λ s. always_mut g (inner s)) asks
      (λ s a r t always called.
      let call = says s a r t called in
      mut_next g (inner s) (call.first, (call.second, tt)) r (inner t) (inner t) call.called refl always)

  pub compares : (lt : T → T → Bool) (s : C) → ComparesAs g lt (inner s)
      → ComparesPairsAs of_pairs (λ one other. lt one.0 other.0) s
  compares lt = answers_by of_pairs _ (λ s. ComparesAs g lt (inner s))
      (λ s a r t called compared.
      let call = says s a r t called in
      let both : Bor T × (Bor T × Unit {0}) = (call.first, (call.second, tt)) in (
        (compared.at (both ∷ []) r (inner t) call.called).0 ∙ ap₂ lt call.shows.0 call.shows.1,
        record { at = λ xs. (compared.at (both ∷ xs) r (inner t) call.called).1 },
      ))

-- a closure that makes something of each pair by the one in it, of the key
module _ {F C T V K : Type 0} (g : Mut F (Bor T × Unit {0}) K)
    (of_pairs : Mut C (Bor T × (Bor V × Unit {0})) K) (inner : C → F)
    (says : (s : C) (a : Bor T × (Bor V × Unit {0})) (r : K) (t : C) → Called of_pairs s a r t
    → CalledAt g (inner s) a.0.now r (inner t)) where
  pub callable_once : ((s : C) (a : Bor T × (Bor V × Unit {0})) → always_mut g (inner s) → of_pairs.pre s a)
      → (s : C) → always_mut g (inner s) → always_mut of_pairs s
  callable_once asks = mut_by of_pairs (λ s. always_mut g (inner s)) asks
      (λ s a r t always called.
      let call = says s a r t called in mut_next g (inner s) (call.shown, tt) r (inner t) (inner t) call.called refl always)

  pub computes : (key : T → K) (s : C) → ComputesKey g key (inner s) → ComputesFromPair of_pairs (λ pair. key pair.0) s
  computes key = answers_by of_pairs _ (λ s. ComputesKey g key (inner s))
      (λ s a r t called always.
      let call = says s a r t called in (
        (always.at ((call.shown, tt) ∷ []) r (inner t) call.called).0 ∙ ap key call.shows,
        record { at = λ xs. (always.at ((call.shown, tt) ∷ xs) r (inner t) call.called).1 },
      ))

module _ {T V : Type 0} where
  keys_of-filter : (kept : T → Bool) (ps : List (T × V)) → keys_of (filter (λ p. kept p.0) ps) ≡ filter kept (keys_of ps)
  keys_of-filter kept [] = refl
  keys_of-filter kept (p ∷ ps) = grind (arith, keys_of-filter kept ps)

  -- an order of items orders the pairs
  module _ (lt : T → T → Bool) where
    pub by_keys : IsStrictWeakOrder lt → IsStrictWeakOrder (λ (one other : T × V). lt one.0 other.0)
    by_keys order =
        record {
          one_way = λ one other. order.one_way one.0 other.0;
          chain = λ one other third. order.chain one.0 other.0 third.0;
        }

    pub IsSortedBy-keys_of : (ps : List (T × V)) → IsSortedBy (λ one other. lt one.0 other.0) ps → IsSortedBy lt (keys_of ps)
    IsSortedBy-keys_of [] sorted k d low high = absurd (omega (arith, high))
    IsSortedBy-keys_of (p ∷ ps) sorted k d low high =
        let key : T × V → T = λ q. q.0 in
        let long = length-map (p ∷ ps) key in let within : k + 1 < length (p ∷ ps) = omega (arith, high, long) in
        ap₂ lt (get_or-map key (p ∷ ps) (k + 1) p d within) (get_or-map key (p ∷ ps) k p d (omega (arith, within)))
        ∙ sorted k p low within

    pub IsStableBy-keys_of : (ps qs : List (T × V)) → V → IsStableBy (λ one other. lt one.0 other.0) ps qs
        → IsStableBy lt (keys_of ps) (keys_of qs)
    IsStableBy-keys_of ps qs v stable x =
        sym (keys_of-filter (ties lt x) qs) ∙ ap keys_of (stable (x, v)) ∙ keys_of-filter (ties lt x) ps
