-- The keys that stay are some of the keys before.
use Rattle.std.proofs.Common.{◌≡◌, inl, inr, Bool, true, false, ◌||◌, List, [], ◌∷◌, None, is_some, refl, sym, ap, ◌∙◌, true≢false}
use Rattle.std.specs.{List.list_any, Map.keys_of}
use Rattle.linked_hash_map.{specs.Pairs.find, specs.Retains.IsSublist, proofs.Callers.Keys.find-absent, proofs.Callers.Keys.is_some-find}

list_any-sublist : {X : Type 0} (test : X → Bool) (xs ys : List X) → IsSublist xs ys → list_any test ys ≡ false
    → list_any test xs ≡ false
list_any-sublist test xs [] none none_there = ap (list_any test) none
list_any-sublist {X} test xs (y ∷ ys) some none_there = by_test (test y) refl none_there (λ zs. list_any-sublist test zs ys)
  where
    by_place : IsSublist xs (y ∷ ys) → test y ≡ false → ((zs : List X) → IsSublist zs ys → list_any test zs ≡ false)
        → list_any test xs ≡ false
    by_place (inl behind) not_first rest = rest xs behind
    by_place (inr first) not_first rest =
        ap (list_any test) first.1 ∙ ap (λ t. t || list_any test first.0) not_first ∙ rest first.0 first.2

    by_test : (b : Bool) → test y ≡ b → (b || list_any test ys) ≡ false
        → ((zs : List X) → IsSublist zs ys → list_any test ys ≡ false → list_any test zs ≡ false) → list_any test xs ≡ false
    by_test true is none_there rest = absurd (true≢false none_there)
    by_test false is none_there rest = by_place some is (λ zs behind. rest zs behind none_there)

pub find-sublist : {K V : Type 0} (eq : K → K → Bool) (kept pairs : List (K × V)) (q : K)
    → IsSublist (keys_of kept) (keys_of pairs) → find eq pairs q ≡ None → find eq kept q ≡ None
find-sublist eq kept pairs q some none = find-absent eq kept q
    (is_some-find eq kept q ∙ list_any-sublist (eq q) (keys_of kept) (keys_of pairs) some
    (sym (is_some-find eq pairs q) ∙ ap is_some none))

-- a key that was absent is absent
pub ruleset retained = (find-sublist)
