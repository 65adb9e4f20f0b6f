-- What a log says of a key is what its pairs have at that key.
use Rattle.std.proofs.Common.{◌≡◌, Bool, true, false, cond, not, ◌&&◌, ◌||◌, List, [], ◌∷◌, ◌++◌, Option, Some, None, is_some, filter, refl}
use Rattle.std.proofs.{Common.sym, Common.ap, Common.◌∙◌, Common.true≢false, Common.arith, lemmas.List.Folds.list_any-append}
use Rattle.std.specs.{List.list_any, List.after_last, Option.option_or, Option.option_zip, Cmp.IsEquivalence}
use Rattle.linked_hash_map.specs.declared.map.{Mode.Mode, Mode.TheVariants.Touch, Mode.TheVariants.Keep}
use Rattle.linked_hash_map.specs.Log.{Event, Log, first_some, moves, touched, put_key, puts, ends, written, live, stored, value, pair_of}
use Rattle.linked_hash_map.specs.Log.{stands, standing_in, standing}
use Rattle.linked_hash_map.proofs.lists.Elements.{by_last}
use Rattle.linked_hash_map.proofs.log.Standing.{live-snoc, stored-snoc, value-snoc, standing-snoc, keeps}

is_some-cond : {Y : Type 0} (b : Bool) (y : Y) → is_some (cond b (Some y) None) ≡ b
is_some-cond b y = grind arith

pub none_is : {Y : Type 0} (o : Option Y) → is_some o ≡ false → o ≡ None
none_is o h = grind arith

stored-live-nil : {K : Type 0} (V : Type 0) (same : K → Bool) → is_some (stored {V = V} same []) ≡ live {V = V} same []
unfolding stored live
stored-live-nil V same = refl

value-live-nil : {K : Type 0} (V : Type 0) (same : K → Bool) → live {V = V} same [] ≡ true → is_some (value {V = V} same []) ≡ true
unfolding live
value-live-nil V same h = absurd (true≢false (sym h))

module _ {K V : Type 0} (same : K → Bool) where
  put_step : (e : Event K V) (s : Option K)
      → is_some (cond (ends same e) None (option_or s (put_key same e))) ≡ (puts same e || (is_some s && not (ends same e)))
  put_step e s = grind (arith, is_some-cond)

  -- exactly the live keys have a stored key
  pub stored-live : (log : Log K V) → is_some (stored same log) ≡ live same log
  stored-live = by_last (λ log. is_some (stored same log) ≡ live same log)
      (λ log e h. ap is_some (stored-snoc same log e) ∙ put_step e (stored same log)
      ∙ ap (λ b. puts same e || (b && not (ends same e))) h ∙ sym (live-snoc same log e))
      (stored-live-nil V same)

  live_step : (e : Event K V) (l : Bool) (w : Option V) → (l ≡ true → is_some w ≡ true) → (puts same e || (l && not (ends same e))) ≡ true
      → is_some (option_or (written same e) w) ≡ true
  live_step e l w f h = grind arith

  -- each live key has a value
  pub value-live : (log : Log K V) → live same log ≡ true → is_some (value same log) ≡ true
  value-live = by_last (λ log. live same log ≡ true → is_some (value same log) ≡ true)
      (λ log e f h. ap is_some (value-snoc same log e) ∙ live_step e (live same log) (value same log) f (sym (live-snoc same log e) ∙ h))
      (value-live-nil V same)

  zip_step : (s : Option K) (w : Option V) → (is_some s ≡ true → is_some w ≡ true) → is_some (option_zip s w) ≡ is_some s
  zip_step s w f = grind arith

  -- exactly the live keys have a pair
  pub pair_of-live : (log : Log K V) → is_some (pair_of same log) ≡ live same log
  unfolding pair_of
  pair_of-live log = zip_step (stored same log) (value same log) (λ h. value-live log (sym (stored-live log) ∙ h)) ∙ stored-live log

  put_key_same : (e : Event K V) (s : K) → put_key same e ≡ Some s → same s ≡ true
  put_key_same e s h = grind arith

  first_put_same : (log : Log K V) (s : K) → first_some (put_key same) log ≡ Some s → same s ≡ true
  first_put_same [] s h = cc
  first_put_same (e ∷ log) s h = at (first_put_same log s) (put_key same e) refl h
    where
      at : (first_some (put_key same) log ≡ Some s → same s ≡ true) → (o : Option K)
          → put_key same e ≡ o → option_or o (first_some (put_key same) log) ≡ Some s
          → same s ≡ true
      at f None p h = f h
      at f (Some t) p h = put_key_same e s (p ∙ h)

  -- the stored key of k is the same key as k
  pub stored-same : (log : Log K V) (s : K) → stored same log ≡ Some s → same s ≡ true
  unfolding stored
  stored-same log s h = first_put_same (after_last (ends same) log) s h

  zip_key : (s : Option K) (w : Option V) (y : K × V) → option_zip s w ≡ Some y → s ≡ Some y.0
  zip_key s w y h = grind arith

  pub pair_of-same : (log : Log K V) (y : K × V) → pair_of same log ≡ Some y → same y.0 ≡ true
  unfolding pair_of
  pair_of-same log y h = stored-same log y.0 (zip_key (stored same log) (value same log) y h)

-- two names of one key are one test
pub same_test : {K : Type 0} {eq : K → K → Bool} → IsEquivalence eq → (k q : K) → eq k q ≡ true → eq k ≡ eq q
same_test laws k q h i z = laws.congr k q z h i

module _ {K V : Type 0} {eq : K → K → Bool} (laws : IsEquivalence eq) where
  pub keeps_same : (log : Log K V) (e : Event K V) (k q : K) → eq k q ≡ true → keeps eq log e q ≡ keeps eq log e k
  keeps_same log e k q h = grind (arith, same_test)

module _ {K : Type 0} (same p : K → Bool) (b : Bool) (f : (q : K) → same q ≡ true → p q ≡ b) where
  any_step : (q : K) (s t a : Bool) → same q ≡ s → p q ≡ t → (ks : List K) → list_any same (filter p ks) ≡ (list_any same ks && b)
      → list_any same (cond t (q ∷ filter p ks) (filter p ks)) ≡ ((s || list_any same ks) && b)
  any_step q s t a e h ks i = grind arith

  -- whether some key is the same, in the part that passes a test which the same keys pass alike
  pub any-filter : (ks : List K) → list_any same (filter p ks) ≡ (list_any same ks && b)
  any-filter [] = refl
  any-filter (q ∷ ks) = any_step q (same q) (p q) true refl refl ks (any-filter ks)

put_standing : (m : Mode) (l n s a : Bool) → (s ≡ true → n ≡ l) → a ≡ true
    → ((l && not (s && moves m l)) || list_any (λ x. s) (cond (moves m n) (cond (a && true) (true ∷ []) []) [])) ≡ (s || (l && true))
put_standing m l n s a f h = grind arith

same_standing : (l : Bool) → ((l && true) || false) ≡ (l && true)
same_standing l = grind arith

gone_standing : (l s : Bool) → ((l && not s) || false) ≡ (l && not s)
gone_standing l s = grind arith

refresh_standing : (l m s : Bool) → (s ≡ true → m ≡ l)
    → ((l && not s) || list_any (λ x. s) (cond ((false || (m && true)) && true) (true ∷ []) [])) ≡ (l && true)
refresh_standing l m s f = grind arith

any-one : {K : Type 0} (same : K → Bool) (b : Bool) (j : K)
    → list_any same (cond b (j ∷ []) []) ≡ list_any (λ (x : Bool). same j) (cond b (true ∷ []) [])
any-one same true j = refl
any-one same false j = refl

any-standing-nil : {K : Type 0} (V : Type 0) (eq : K → K → Bool) (k : K) → list_any (eq k) (standing {V = V} eq []) ≡ live {V = V} (eq k) []
unfolding standing standing_in live
any-standing-nil V eq k = refl

any-put : {K : Type 0} (V : Type 0) (eq : K → K → Bool) (k : K) (alive : K → Bool) (m : Mode)
    (n : Bool) (j : K)
    → list_any (eq k) (stands {V = V} eq alive [] (cond (moves m n) (Some j) None))
    ≡ list_any (λ (x : Bool). eq k j) (cond (moves m n) (cond (alive j && true) (true ∷ []) []) [])
any-put V eq k alive Touch n j = any-one (eq k) (alive j && true) j
any-put V eq k alive Keep true j = refl
any-put V eq k alive Keep false j = any-one (eq k) (alive j && true) j

module _ {K V : Type 0} {eq : K → K → Bool} (laws : IsEquivalence eq) (k : K) where
  new_standing : (log : Log K V) (e : Event K V)
      → ((live (eq k) log && keeps eq log e k) || list_any (eq k)
      (stands {V = V} eq (λ q. live (eq q) (log ++ e ∷ [])) [] (touched eq (log, e))))
      ≡ (puts (eq k) e || (live (eq k) log && not (ends (eq k) e)))
  new_standing log e = grind (arith, any-put, put_standing, same_test, live-snoc, same_standing, any-one, refresh_standing, gone_standing)

  -- exactly the live keys stand
  pub any-standing : (log : Log K V) → list_any (eq k) (standing eq log) ≡ live (eq k) log
  any-standing = by_last (λ log. list_any (eq k) (standing eq log) ≡ live (eq k) log)
      (λ log e h. ap (list_any (eq k)) (standing-snoc eq log e)
      ∙ list_any-append (eq k) (filter (keeps eq log e) (standing eq log))
      (stands {V = V} eq (λ q. live (eq q) (log ++ e ∷ [])) [] (touched eq (log, e)))
      ∙ ap (λ b. b || list_any (eq k)
      (stands {V = V} eq (λ q. live (eq q) (log ++ e ∷ [])) [] (touched eq (log, e))))
      (any-filter (eq k) (keeps eq log e) (keeps eq log e k) (keeps_same laws log e k)
      (standing eq log) ∙ ap (λ b. b && keeps eq log e k) h) ∙ new_standing log e
      ∙ sym (live-snoc (eq k) log e)) (any-standing-nil V eq k)
