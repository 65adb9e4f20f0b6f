-- The laws of the iterators, for the proofs of callers.
use Rattle.std.proofs.{Common.List, Common.[], Common.◌∷◌, Common.length, Common.refl, Common.ap, Common.◌∙◌, lemmas.List.map-append}
use Rattle.std.proofs.{iter.runs.Sources.from_front, iter.runs.Sources.from_back, iter.runs.Sources.as_is, iter.runs.Sources.as_is_back}
use Rattle.std.specs.Map.Iter.{TakesFirst, TakesLast, ShowsInOrder, ShowsInReverse, GivesInOrder, GivesInReverse, LendsFirst, LendsLast}
use Rattle.std.specs.Map.Iter.{LendsValuesInOrder, LendsValuesInReverse}
use Rattle.std.specs.{Map.values_of, Iterator.Runs.YieldsMutRefsInOrder, Iterator.Runs.YieldsMutRefsInReverse}
use Rattle.linked_hash_map.specs.{MutableValues.values_left, MutableValues.LendsFirstValue, MutableValues.LendsLastValue, Pairs.KeysStand}

-- an iterator that is seen as the list of what it has left
module _ {A X : Type 0} (shows : A → X) where
  pub shows_in_order : ShowsInOrder shows
  shows_in_order = from_front (TakesFirst shows) shows (λ s. s) (λ s t h. ap length h.0) (λ s x t h. h)

  pub shows_in_reverse : ShowsInReverse shows
  shows_in_reverse = from_back (TakesLast shows) shows (λ s. s) (λ s t h. ap length h.0) (λ s x t h. h)

module _ {X : Type 0} where
  pub gives_in_order : GivesInOrder X
  gives_in_order p s = as_is p p.from (shows_in_order (λ x. x) p s)

  pub gives_in_reverse : GivesInReverse X
  gives_in_reverse p s = as_is_back p p.from (shows_in_reverse (λ x. x) p s)

-- an iterator that lends the values of what it has left
module _ {S K X : Type 0} (rest : S → List (K × X)) where
  pub lends_in_order : LendsValuesInOrder rest
  lends_in_order = from_front (LendsFirst rest) (λ x. x.1.now) (λ s. values_of (rest s))
      (λ s t h. ap (λ l. length (values_of l)) h.0) (λ s x t h. ap values_of h)

  pub lends_in_reverse : LendsValuesInReverse rest
  lends_in_reverse =
      from_back (LendsLast rest) (λ x. x.1.now) (λ s. values_of (rest s)) (λ s t h. ap (λ l. length (values_of l)) h.0)
      (λ s x t h. ap values_of h ∙ map-append (λ pair. pair.1) (rest t) ((x.0.now, x.1.now) ∷ []))

-- the iterator that lends the values alone
module _ {K V : Type 0} where
  pub lends_values_in_order : YieldsMutRefsInOrder (LendsFirstValue {K = K} {V = V}) values_left
  lends_values_in_order = from_front LendsFirstValue (λ v. v.now) values_left (λ s t h. ap length h.0) (λ s v t h. h)

  pub lends_values_in_reverse : YieldsMutRefsInReverse (LendsLastValue {K = K} {V = V}) values_left
  lends_values_in_reverse = from_back LendsLastValue (λ v. v.now) values_left (λ s t h. ap length h.0) (λ s v t h. h)

-- a step leaves less
module _ {K V : Type 0} where
  pub keys_stand : (pairs : List (K × V)) → KeysStand pairs
  keys_stand [] vs = refl
  keys_stand (pair ∷ pairs) [] = refl
  keys_stand (pair ∷ pairs) (v ∷ vs) = ap (λ keys. pair.0 ∷ keys) (keys_stand pairs vs)
