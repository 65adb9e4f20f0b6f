-- For callers: what `extend`, `extend_refs` and `from_iter` leave, if the items that an iterator
-- gives are known. Each lemma takes the clause of the call, and a chain proof, `YieldsList`, that
-- what the source becomes gives the list.
use Rattle.std.proofs.Common.{◌≡◌, ℕ, ◌+◌, ◌-◌, ◌≤◌, max, Bool, not, List, [], ◌++◌, length, map, take, filter, slice_get, Option, Some}
use Rattle.std.proofs.Common.{None, is_some, unwrap_or, Vec, vec_items, vec_len, refl, sym, ap, subst, ◌∙◌, arith}
use Rattle.std.proofs.lemmas.Iterator.Consumers.{YieldsList-end, YieldsList-so_far, YieldsList-from_rest, YieldsList-from_shown}
use Rattle.std.proofs.lemmas.Iterator.Consumers.{nth_from_yields_List}
use Rattle.std.proofs.lemmas.{Iterator.YieldsList, Iterator.Adapters.YieldsList-from_vec, List.map-id}
use Rattle.std.specs.Vec.Iter.{into_iter_items, into_iter_len, into_iter_steps}
use Rattle.std.specs.{List.IsDistinct, Map.keys_of, Option.option_or, Map.Iter.TakesFirst, Cmp.IsEquivalence, Iterator.Count}
use Rattle.std.specs.{Iterator.at_most, declared.vec.IntoIter.IntoIter}
use Rattle.linked_hash_map.specs.Pairs.{key_or, find, value_at}
use Rattle.linked_hash_map.specs.Inserts.{insert_each, GivesAtMost, InsertsAll, InsertsUntil, Collects}
use Rattle.linked_hash_map.specs.{Counts.rechained_each, declared.map.Mode.Mode, declared.map.Mode.TheVariants.Touch}
use Rattle.linked_hash_map.specs.{declared.map.Mode.TheVariants.Keep, declared.drain.Drain.Drain, Drains.drain_rest, Drains.DrainSteps}
use Rattle.linked_hash_map.proofs.Callers.Collected.{insert_each-distinct, length-insert_each_most, value_at-insert_each_distinct}
use Rattle.linked_hash_map.proofs.Callers.Collected.{keys_of-insert_each_keep, keys_of-insert_each_touch}
use Rattle.linked_hash_map.proofs.Callers.{Keys.distinct-nil, Merges.insert_each-keep, Merges.insert_each-touch}

module _ {T I X K V : Type 0} {becomes : T → I → Type 0} {steps : I → Option X → I → Type 0}
    {source : T} {eq : K → K → Bool} {shows : X → K × V} {all : List (K × V)} where
  -- `extend` of any source whose items are known
  pairs-InsertsAll : {mode : Mode} {old new : List (K × V)} → InsertsAll becomes steps source eq shows mode old new
      → ((it : I) → becomes source it → YieldsList steps shows it all) → new ≡ insert_each eq mode old all
  pairs-InsertsAll {mode} {old} inserts each =
      let gives = inserts.gives in let drains = gives.gives.1 in
      inserts.pairs ∙ ap (insert_each eq mode old) (YieldsList-end (each gives.iterator gives.made)
      inserts.given drains.0 drains.1 None gives.gives.0 refl drains.2).0

  -- and if it was refused: the first items went in, and the next is the one that came back
  pub pairs-InsertsUntil : {mode : Mode} {old new : List (K × V)} {key : K} {value : V}
      (inserts : InsertsUntil becomes steps source eq shows mode old new key value)
      → ((it : I) → becomes source it → YieldsList steps shows it all)
      → (new ≡ insert_each eq mode old (take (length inserts.given) all))
      × (slice_get all (length inserts.given) ≡ Some (key, value))
  pairs-InsertsUntil {mode} {old} inserts each =
      let gives = inserts.gives in let yields = gives.gives in
      let road = each gives.iterator gives.made in (
        inserts.pairs ∙ ap (insert_each eq mode old) (YieldsList-so_far road inserts.given yields.0 yields.1),
        sym (nth_from_yields_List (Some inserts.item) gives.left (length inserts.given)
            (inserts.given, (yields.0, yields.1, yields.2), refl) road) ∙ ap Some inserts.shown,
      )

module _ {T I K V : Type 0} {becomes : T → I → Type 0} {steps : I → Option (K × V) → I → Type 0}
    {source : T} {remaining : I → Count} {eq : K → K → Bool} {pairs : List (K × V)}
    {capacity rechained : ℕ} where
  -- `from_iter` inserts as `extend` of a new map does
  InsertsAll-Collects : Collects becomes steps source remaining eq pairs capacity rechained
      → InsertsAll becomes steps source eq (λ pair. pair) Touch [] pairs
  InsertsAll-Collects collects = grind (arith, map-id)

  -- if at most n items are left to come, it rehashed what growing to the capacity does, from room
  -- for at most n
  rechained-Collects : (n : ℕ) → Collects becomes steps source remaining eq pairs capacity rechained
      → GivesAtMost becomes remaining source n → (lower : ℕ) × (lower ≤ n) × (rechained ≡ rechained_each 0 lower (capacity - lower))
  rechained-Collects n collects left = grind arith

  module _ {all : List (K × V)} (laws : IsEquivalence eq)
      (collects : Collects becomes steps source remaining eq pairs capacity rechained) where
    -- `from_iter` of any source whose items are known
    pairs-Collects : ((it : I) → becomes source it → YieldsList steps (λ pair. pair) it all) → pairs ≡ insert_each eq Touch [] all
    pairs-Collects each = pairs-InsertsAll (InsertsAll-Collects collects) each

    -- if no more items are left to come than come, the capacity is no more than the number of
    -- items
    capacity-Collects : ((it : I) → becomes source it → YieldsList steps (λ pair. pair) it all)
        → GivesAtMost becomes remaining source (length all) → (length pairs ≤ capacity) × (capacity ≤ length all)
    capacity-Collects each left = grind (arith, length-insert_each_most, distinct-nil, pairs-Collects)

    -- and if their keys differ, it is that number, and the pairs are the items
    pairs-Collects_distinct : ((it : I) → becomes source it → YieldsList steps (λ pair. pair) it all) → IsDistinct eq (keys_of all)
        → pairs ≡ all
    pairs-Collects_distinct each distinct = pairs-Collects each ∙ insert_each-distinct laws Touch all distinct

    capacity-Collects_distinct : ((it : I) → becomes source it → YieldsList steps (λ pair. pair) it all) → IsDistinct eq (keys_of all)
        → GivesAtMost becomes remaining source (length all) → capacity ≡ length all
    capacity-Collects_distinct each distinct left = grind (arith, capacity-Collects, pairs-Collects_distinct)

-- if there is room for each item, as after `with_capacity` of their number, `extend` leaves the
-- capacity
pub max-length_insert_each : {K V : Type 0} {eq : K → K → Bool} → IsEquivalence eq
    → (mode : Mode) (pairs items : List (K × V)) (capacity : ℕ) → IsDistinct eq (keys_of pairs) → length pairs + length items ≤ capacity
    → max capacity (length (insert_each eq mode pairs items)) ≡ capacity
max-length_insert_each laws mode pairs items capacity distinct enough = grind (arith, length-insert_each_most)

-- `extend` of a map by value, or by reference: of any source that becomes a list which shows what
-- is left
pub pairs-InsertsAll_list : {T X K V : Type 0} {becomes : T → List (K × V) → Type 0} {source : T}
    {eq : K → K → Bool} {shows : X → K × V} {mode : Mode} {old new : List (K × V)}
    (all : List (K × V))
    → InsertsAll becomes (TakesFirst shows) source eq shows mode old new
    → ((it : List (K × V)) → becomes source it → it ≡ all) → new ≡ insert_each eq mode old all
pairs-InsertsAll_list all inserts is = pairs-InsertsAll inserts (λ it made. YieldsList-from_rest all (is it made))

-- a `Drain` gives the pairs that are left in it
pub YieldsList-from_drain : {K V : Type 0} (it : Drain K V) (all : List (K × V)) → drain_rest it ≡ all
    → YieldsList DrainSteps (λ pair. pair) it all
YieldsList-from_drain it all left = subst (YieldsList DrainSteps (λ pair. pair) it) left
    (YieldsList-from_shown DrainSteps (λ pair. pair) drain_rest (λ s t ends. ap length ends.0.0) (λ s x t goes. goes.0) it)

-- `extend` of a map that is drained
pub pairs-InsertsAll_drain : {T K V : Type 0} {becomes : T → Drain K V → Type 0} {source : T}
    {eq : K → K → Bool} {mode : Mode} {old new : List (K × V)} (all : List (K × V))
    → InsertsAll becomes DrainSteps source eq (λ pair. pair) mode old new
    → ((it : Drain K V) → becomes source it → drain_rest it ≡ all) → new ≡ insert_each eq mode old all
pairs-InsertsAll_drain all inserts left = pairs-InsertsAll inserts (λ it made. YieldsList-from_drain it all (left it made))

-- if the keys of a list differ, as those of a map do: its values win, in Keep the old keys
-- stand before the new, and in Touch before those that came
pub record Merges {K V : Type 0} (eq : K → K → Bool) (mode : Mode) (old all new : List (K × V)) :
    Type 0 where
  pub pairs : new ≡ insert_each eq mode old all
  pub values : (q : K) → value_at eq new q ≡ option_or (value_at eq all q) (value_at eq old q)
  pub keep : mode ≡ Keep
      → keys_of new ≡ keys_of old ++ filter (λ k. not (is_some (find eq old k))) (keys_of all)
  pub touch : mode ≡ Touch
      → keys_of new ≡ filter (λ k. not (is_some (find eq all k))) (keys_of old)
      ++ map (λ k. key_or k (find eq old k)) (keys_of all)
  pub keep_pairs : mode ≡ Keep
      → new ≡ map (λ pair. (pair.0, unwrap_or (value_at eq all pair.0) pair.1)) old
      ++ filter (λ pair. not (is_some (find eq old pair.0))) all
  pub touch_pairs : mode ≡ Touch
      → new ≡ filter (λ pair. not (is_some (find eq all pair.0))) old
      ++ map (λ pair. (key_or pair.0 (find eq old pair.0), pair.1)) all

-- as after `append`, of the pairs of another map
pub Merges-insert_each : {K V : Type 0} {eq : K → K → Bool} → IsEquivalence eq → {mode : Mode} {old new : List (K × V)} (all : List (K × V))
    → IsDistinct eq (keys_of all) → new ≡ insert_each eq mode old all → Merges eq mode old all new
Merges-insert_each laws all distinct went =
    grind (arith, value_at-insert_each_distinct, keys_of-insert_each_keep, keys_of-insert_each_touch, insert_each-keep, insert_each-touch)

pub Merges-InsertsAll : {T K V : Type 0} {becomes : T → List (K × V) → Type 0} {source : T} {eq : K → K → Bool} → IsEquivalence eq
    → {mode : Mode} {old new : List (K × V)} (all : List (K × V))
    → InsertsAll becomes (TakesFirst (λ (pair : K × V). pair)) source eq (λ pair. pair) mode old new
    → ((it : List (K × V)) → becomes source it → (it ≡ all) × IsDistinct eq (keys_of all)) → Merges eq mode old all new
Merges-InsertsAll laws all inserts is =
    Merges-insert_each laws all (is inserts.gives.iterator inserts.gives.made).1
    (pairs-InsertsAll_list all inserts (λ it made. (is it made).0))

-- what a vector becomes gives its items, and has as many left
module _ {T Z K V : Type 0} (becomes : T → _ → Type 0) (vec : Vec (K × V) Z) (source : T)
    (is : (it : _) → becomes source it
    → (into_iter_items {X = K × V} {Z = Z} it ≡ vec_items vec)
    × (into_iter_len it ≡ vec_len vec)) where
  yields : (it : _) → becomes source it → YieldsList into_iter_steps (λ pair. pair) it (vec_items vec)
  yields it made = let told = is it made in YieldsList-from_vec {s = it} (vec_items vec) told.0 (omega (arith, told.1, vec.ok.0))

  pub GivesAtMost-vec : GivesAtMost becomes (λ it. at_most (into_iter_len it)) source (length (vec_items vec))
  GivesAtMost-vec it made = let told = is it made in (tt, omega (arith, told.1, vec.ok.0))

-- `extend` of a vector, and `from_iter` of one
pub pairs-InsertsAll_vec : {T Z K V : Type 0} {becomes : T → _ → Type 0} {source : T}
    {eq : K → K → Bool} {mode : Mode} {old new : List (K × V)} (vec : Vec (K × V) Z)
    → InsertsAll becomes (into_iter_steps {X = K × V} {Z = Z}) source eq (λ pair. pair) mode old new
    → ((it : _) → becomes source it
    → (into_iter_items {X = K × V} {Z = Z} it ≡ vec_items vec) × (into_iter_len it ≡ vec_len vec))
    → new ≡ insert_each eq mode old (vec_items vec)
pairs-InsertsAll_vec {becomes = becomes} {source} vec inserts is = pairs-InsertsAll inserts (yields becomes vec source is)

-- and if `extend` of one was refused: how many went in, and that the next came back
pub pairs-InsertsUntil_vec : {T Z K V : Type 0} {becomes : T → _ → Type 0} {source : T}
    {eq : K → K → Bool} {mode : Mode} {old new : List (K × V)} {key : K} {value : V}
    (vec : Vec (K × V) Z)
    → InsertsUntil becomes (into_iter_steps {X = K × V} {Z = Z}) source eq (λ pair. pair) mode old new key value
    → ((it : _) → becomes source it → (into_iter_items {X = K × V} {Z = Z} it ≡ vec_items vec) × (into_iter_len it ≡ vec_len vec))
    → (n : ℕ) × (new ≡ insert_each eq mode old (take n (vec_items vec))) × (slice_get (vec_items vec) n ≡ Some (key, value))
pairs-InsertsUntil_vec {becomes = becomes} {source} vec inserts is =
    let until = pairs-InsertsUntil inserts (yields becomes vec source is) in
    (length inserts.given, until.0, until.1)

-- all that is known of an `extend` of a vector: the pairs, and that the capacity stays if there is
-- room for each item; and if it was refused, what went in, what came back, and what is true if
-- there had been room
module _ {Z K V : Type 0} {eq : K → K → Bool} {becomes : Vec (K × V) Z → IntoIter (K × V) Z → Type 0}
    {vec : Vec (K × V) Z} {mode : Mode} {old new : List (K × V)} {capacity : ℕ} where
  pub InsertsAll_vec : {grown : ℕ} → IsEquivalence eq
      → InsertsAll becomes (into_iter_steps {X = K × V} {Z = Z}) vec eq (λ pair. pair) mode old new
      → ((it : IntoIter (K × V) Z) → becomes vec it
      → (into_iter_items {X = K × V} {Z = Z} it ≡ vec_items vec) × (into_iter_len it ≡ vec_len vec))
      → IsDistinct eq (keys_of old) → grown ≡ max capacity (length new)
      → (new ≡ insert_each eq mode old (vec_items vec)) × (length old + length (vec_items vec) ≤ capacity → grown ≡ capacity)
  InsertsAll_vec laws inserts is distinct grows =
      let all = pairs-InsertsAll_vec vec inserts is in (
        all,
        λ enough. grows ∙ ap (λ (ps : List (K × V)). max capacity (length ps)) all
            ∙ max-length_insert_each laws mode old (vec_items vec) capacity distinct enough,
      )

  pub InsertsUntil_vec : {key : K} {value : V} {P : Type 0}
      → InsertsUntil becomes (into_iter_steps {X = K × V} {Z = Z}) vec eq (λ pair. pair) mode old new key value
      → ((n : ℕ) → GivesAtMost becomes (λ it. at_most (into_iter_len it)) vec n → length old + n ≤ capacity → P)
      → ((it : IntoIter (K × V) Z) → becomes vec it
      → (into_iter_items {X = K × V} {Z = Z} it ≡ vec_items vec) × (into_iter_len it ≡ vec_len vec))
      → ((n : ℕ) × (new ≡ insert_each eq mode old (take n (vec_items vec))) × (slice_get (vec_items vec) n ≡ Some (key, value)))
      × (length old + length (vec_items vec) ≤ capacity → P)
  InsertsUntil_vec inserts succeeds is =
      (pairs-InsertsUntil_vec vec inserts is, succeeds (length (vec_items vec)) (GivesAtMost-vec becomes vec vec is))

pub pairs-Collects_vec : {T Z K V : Type 0} {becomes : T → _ → Type 0} {source : T} {eq : K → K → Bool}
    {pairs : List (K × V)} {capacity rechained : ℕ} (vec : Vec (K × V) Z)
    → Collects becomes (into_iter_steps {X = K × V} {Z = Z}) source
    (λ it. at_most (into_iter_len it)) eq pairs capacity rechained
    → ((it : _) → becomes source it
    → (into_iter_items {X = K × V} {Z = Z} it ≡ vec_items vec) × (into_iter_len it ≡ vec_len vec))
    → pairs ≡ insert_each eq Touch [] (vec_items vec)
pairs-Collects_vec vec collects is = pairs-InsertsAll_vec vec (InsertsAll-Collects collects) is

-- if the keys of its items differ, the pairs are the items, the capacity is their number, and it
-- rehashed what growing to that number does, from room for no more
pub Collects_distinct_vec : {T Z K V : Type 0} {becomes : T → _ → Type 0} {source : T}
    {eq : K → K → Bool} → IsEquivalence eq
    → {pairs : List (K × V)} {capacity rechained : ℕ} (vec : Vec (K × V) Z)
    → Collects becomes (into_iter_steps {X = K × V} {Z = Z}) source
    (λ it. at_most (into_iter_len it)) eq pairs capacity rechained
    → ((it : _) → becomes source it
    → (into_iter_items {X = K × V} {Z = Z} it ≡ vec_items vec) × (into_iter_len it ≡ vec_len vec))
    → IsDistinct eq (keys_of (vec_items vec))
    → (pairs ≡ vec_items vec) × (capacity ≡ length (vec_items vec))
    × ((lower : ℕ) × (lower ≤ length (vec_items vec))
    × (rechained ≡ rechained_each 0 lower (length (vec_items vec) - lower)))
Collects_distinct_vec {becomes = becomes} {source} laws vec collects is distinct =
    let most = GivesAtMost-vec becomes vec source is in
    let exact = capacity-Collects_distinct laws collects (yields becomes vec source is) distinct most in
    let counted = rechained-Collects (length (vec_items vec)) collects most in (
      pairs-Collects_vec vec collects is ∙ insert_each-distinct laws Touch (vec_items vec) distinct,
      exact,
      (counted.0, counted.1, counted.2 ∙ ap (λ room. rechained_each 0 counted.0 (room - counted.0)) exact),
    )
