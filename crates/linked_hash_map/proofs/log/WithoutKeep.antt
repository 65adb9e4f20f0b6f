-- A log that never sets the mode to Keep: each Put and each Refresh is a touch, wherever it stands.
use Rattle.std.proofs.Common.{◌≡◌, Bool, false, List, [], ◌∷◌, ◌++◌, map, Option, unwrap_or, arith, filter_map, refl, sym, ap, ◌∙◌, subst}
use Rattle.std.proofs.{lemmas.List.map-append, lemmas.List.Folds.list_any-append, Math.Bool.and-true}
use Rattle.std.specs.List.{list_any, AllByRecursion}
use Rattle.linked_hash_map.specs.Log.{Event, Log, moments, mode_set, mode, live, pair_of, touches, touched, stands, standing_in, standing}
use Rattle.linked_hash_map.specs.LastUses.{sets_keep, used_key, is_use, last_used, last_uses, pairs_by_use}
use Rattle.linked_hash_map.specs.{declared.map.Mode.Mode, declared.map.Mode.TheVariants.Touch, Log.pairs}
use Rattle.linked_hash_map.proofs.{log.Standing.mode-snoc, lists.Elements.by_last, lists.Elements.none_first, lists.Elements.moments-snoc}

all_last : {X : Type 0} (P : X → Type 0) (xs : List X) (x : X) → AllByRecursion P xs → P x → AllByRecursion P (xs ++ x ∷ [])
all_last P [] x all h = (h, tt)
all_last P (y ∷ ys) x all h = (all.0, all_last P ys x all.1 h)

elements-moments : {X : Type 0} (xs : List X) → map (λ m. m.1) (moments xs) ≡ xs
elements-moments {X} = by_last (λ xs. map (λ m. m.1) (moments xs) ≡ xs)
    (λ xs x h. ap (map (λ m. m.1)) (moments-snoc xs x)
    ∙ map-append (λ (m : List X × X). m.1) (moments xs) ((xs, x) ∷ []) ∙ ap (λ ys. ys ++ x ∷ []) h)
    refl

touch_after : {K V : Type 0} (event : Event K V) (m : Mode) → sets_keep event ≡ false → m ≡ Touch → unwrap_or (mode_set event) m ≡ Touch
touch_after event m none is = grind arith

mode-nil : (K V : Type 0) → mode {K = K} {V = V} [] ≡ Touch
unfolding mode
mode-nil K V = refl

module _ {K V : Type 0} where
  -- its mode is Touch
  mode-in_touch : (log : Log K V) → list_any sets_keep log ≡ false → mode log ≡ Touch
  mode-in_touch = by_last (λ log. list_any sets_keep log ≡ false → mode log ≡ Touch)
      (λ log event rest none.
      let parts = sym (list_any-append sets_keep log (event ∷ [])) ∙ none in
      grind (arith, mode-snoc, touch_after))
      (λ none. mode-nil K V)

  -- and so it is at each position
  mode-moments : (log : Log K V) → list_any sets_keep log ≡ false → AllByRecursion (λ m. mode m.0 ≡ Touch) (moments log)
  mode-moments = by_last (λ log. list_any sets_keep log ≡ false → AllByRecursion (λ m. mode m.0 ≡ Touch) (moments log))
      (λ log event rest none.
      let before = none_first (list_any sets_keep log) (list_any sets_keep (event ∷ []))
      (sym (list_any-append sets_keep log (event ∷ [])) ∙ none) in
      subst (AllByRecursion (λ m. mode m.0 ≡ Touch)) (sym (moments-snoc log event))
      (all_last (λ m. mode m.0 ≡ Touch) (moments log) (log, event) (rest before)
      (mode-in_touch log before)))
      (λ none. tt)

  touches-in_touch : (same : K → Bool) (before : Log K V) (event : Event K V) → mode before ≡ Touch
      → touches same (before, event) ≡ is_use same event
  touches-in_touch same before event touch = grind (arith, and-true)

module _ {K V : Type 0} (eq : K → K → Bool) where
  touched-in_touch : (before : Log K V) (event : Event K V) → mode before ≡ Touch → touched eq (before, event) ≡ used_key event
  touched-in_touch before event touch = grind arith

  any_touches-in_touch : (same : K → Bool) (events : List (Log K V × Event K V)) → AllByRecursion (λ m. mode m.0 ≡ Touch) events
      → list_any (touches same) events ≡ list_any (is_use same) (map (λ m. m.1) events)
  any_touches-in_touch same [] all = refl
  any_touches-in_touch same (m ∷ events) all = grind (arith, touches-in_touch, any_touches-in_touch same events all.1)

  stands-in_touch : (is_live : K → Bool) (events : List (Log K V × Event K V)) (o : Option K)
      → AllByRecursion (λ m. mode m.0 ≡ Touch) events → stands eq is_live events o ≡ last_used eq is_live (map (λ m. m.1) events) o
  stands-in_touch is_live events o all = grind (arith, any_touches-in_touch)

  standing_in-in_touch : (is_live : K → Bool) (events : List (Log K V × Event K V)) → AllByRecursion (λ m. mode m.0 ≡ Touch) events
      → standing_in eq is_live events ≡ last_uses eq is_live (map (λ m. m.1) events)
  unfolding standing_in
  standing_in-in_touch is_live [] all = refl
  standing_in-in_touch is_live (m ∷ events) all =
      grind (arith, touched-in_touch, stands-in_touch, standing_in-in_touch is_live events all.1)

  -- the positions that stand are those of the live keys' last is_use
  pub standing-in_touch : (log : Log K V) → list_any sets_keep log ≡ false → standing eq log ≡ last_uses eq (λ k. live (eq k) log) log
  unfolding standing
  standing-in_touch log none = grind (arith, standing_in-in_touch, mode-moments, elements-moments)

  -- so its pairs are those of these positions
  pub pairs-in_touch : (log : Log K V) → list_any sets_keep log ≡ false → pairs eq log ≡ pairs_by_use eq log
  unfolding pairs
  pairs-in_touch log none = ap (filter_map (λ k. pair_of (eq k) log)) (standing-in_touch log none)
