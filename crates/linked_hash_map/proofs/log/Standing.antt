-- What one more event does to the keys of a log, one key at a time and as the list of those that
-- stand.
use Rattle.std.proofs.Common.{◌≡◌, Bool, true, false, cond, not, ◌&&◌, ◌||◌, List, [], ◌∷◌, ◌++◌, Option, None, unwrap_or, filter, refl, ap}
use Rattle.std.proofs.{Common.◌∙◌, Common.append-nil, Common.arith, lemmas.List.Elements.filter-append, lemmas.List.Folds.list_any-append}
use Rattle.std.proofs.{Math.Bool.and-true, Math.Bool.and-false, Math.Bool.or-true}
use Rattle.std.specs.Option.{option_or}
use Rattle.linked_hash_map.specs.Log.{Event, Put, Write, Refresh, Remove, RemoveAll, Need, Fit, SetMode, Log, last_some, moves, mode_set}
use Rattle.linked_hash_map.specs.Log.{mode, touched, put_key, puts, ends, written, touches, live, stored, value, stands, standing_in}
use Rattle.linked_hash_map.specs.{declared.map.Mode.Mode, declared.map.Mode.TheVariants.Touch, Log.standing}
use Rattle.linked_hash_map.proofs.lists.Elements.{after_last-snoc, first_some-snoc, last_some-snoc, moments-snoc}

live_step : (p a n q l : Bool) → ((p && not (a || (n || false))) || (q || (l && not n))) ≡ (q || (((p && not a) || l) && not n))
live_step p a n q l = grind (arith, and-false, or-true)

stands_step : (a b t : Bool) → (a && not (b || (t || false))) ≡ ((a && not t) && not b)
stands_step a b t = grind arith

filter_step : (a b t : Bool) → ((a && b) && t) ≡ ((a && t) && b)
filter_step a b t = grind (arith, and-true, and-false)

module _ {K V : Type 0} (same : K → Bool) where
  pub live-snoc : (log : Log K V) (e : Event K V) → live same (log ++ e ∷ []) ≡ (puts same e || (live same log && not (ends same e)))
  unfolding live
  live-snoc [] e = ap (λ b. b || false) (and-true (puts same e))
  live-snoc (x ∷ log) e = grind (arith, list_any-append, live_step, live-snoc log e)

  pub stored-snoc : (log : Log K V) (e : Event K V)
      → stored same (log ++ e ∷ []) ≡ cond (ends same e) None (option_or (stored same log) (put_key same e))
  unfolding stored
  stored-snoc log e = grind (arith, after_last-snoc, first_some-snoc)

  pub value-snoc : (log : Log K V) (e : Event K V) → value same (log ++ e ∷ []) ≡ option_or (written same e) (value same log)
  unfolding value
  value-snoc log e = last_some-snoc (written same) log e

mode_step : (o w : Option Mode) → unwrap_or (option_or o w) Touch ≡ unwrap_or o (unwrap_or w Touch)
mode_step o w = grind arith

module _ {K V : Type 0} where
  -- the mode after one more event: that of a SetMode, else the mode before it
  pub mode-snoc : (log : Log K V) (e : Event K V) → mode (log ++ e ∷ []) ≡ unwrap_or (mode_set e) (mode log)
  unfolding mode
  mode-snoc log e = ap (λ o. unwrap_or o Touch) (last_some-snoc mode_set log e) ∙ mode_step (mode_set e) (last_some mode_set log)

filter_one : {K : Type 0} (p : K → Bool) (k : K) (a b t : Bool) → p k ≡ t
    → filter p (cond (a && b) (k ∷ []) []) ≡ cond ((a && t) && b) (k ∷ []) []
filter_one p k a b t e = grind (arith, filter_step)

module _ {K V : Type 0} (eq : K → K → Bool) where
  stands-snoc : (alive : K → Bool) (later : List (Log K V × Event K V)) (moment : Log K V × Event K V) (t : Option K)
      → stands eq alive (later ++ moment ∷ []) t ≡ stands eq (λ q. alive q && not (touches (eq q) moment)) later t
  stands-snoc alive later moment t = grind (arith, list_any-append, stands_step)

  standing_in-snoc : (alive : K → Bool) (events : List (Log K V × Event K V))
      (moment : Log K V × Event K V)
      → standing_in eq alive (events ++ moment ∷ [])
      ≡ standing_in eq (λ q. alive q && not (touches (eq q) moment)) events
      ++ stands {V = V} eq alive [] (touched eq moment)
  unfolding standing_in
  standing_in-snoc alive [] moment = append-nil (stands {V = V} eq alive [] (touched eq moment))
  standing_in-snoc alive (x ∷ events) moment = grind (arith, stands-snoc, standing_in-snoc alive events moment)

  filter-stands : (p alive : K → Bool) (later : List (Log K V × Event K V)) (t : Option K)
      → filter p (stands eq alive later t) ≡ stands eq (λ q. alive q && p q) later t
  filter-stands p alive later t = grind (arith, filter_one)

  filter-standing_in : (p alive : K → Bool) (events : List (Log K V × Event K V))
      → filter p (standing_in eq alive events) ≡ standing_in eq (λ q. alive q && p q) events
  unfolding standing_in
  filter-standing_in p alive [] = refl
  filter-standing_in p alive (x ∷ events) = grind (arith, filter-append, filter-stands, filter-standing_in p alive events)

  -- an event after a log leaves the position of a key: it neither ends the key nor touches it
  abbrev pub keeps : Log K V → Event K V → K → Bool
  keeps log (Put j v) q = not (eq q j && moves (mode log) (live (eq q) log))
  keeps log (Write j v) q = true
  keeps log (Refresh j) q = not (eq q j)
  keeps log (Remove j) q = not (eq q j)
  keeps log RemoveAll q = false
  keeps log (Need m) q = true
  keeps log Fit q = true
  keeps log (SetMode m) q = true

  still_stands : (log : Log K V) (e : Event K V) (q : K)
      → ((puts (eq q) e || (live (eq q) log && not (ends (eq q) e))) && not (touches (eq q) (log, e))) ≡ (live (eq q) log && keeps log e q)
  still_stands log e q = grind (arith, and-true)

  -- the keys that stand after one more event
  pub standing-snoc : (log : Log K V) (e : Event K V)
      → standing eq (log ++ e ∷ []) ≡ filter (keeps log e) (standing eq log)
      ++ stands {V = V} eq (λ k. live (eq k) (log ++ e ∷ [])) [] (touched eq (log, e))
  unfolding standing
  standing-snoc log e = grind (arith, moments-snoc, standing_in-snoc, live-snoc, still_stands, filter-standing_in)
