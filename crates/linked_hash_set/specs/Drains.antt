-- What a contract sees of a `Drain`.
use Rattle.std.specs.Prelude.{◌≡◌, List, Option}
use Rattle.std.specs.Borrow.{GName}
use Rattle.std.specs.Iterator.{Yields}
use Rattle.std.specs.Map.{keys_of}
use Rattle.std.specs.Map.Iter.{TakesFirst, TakesLast}
use Rattle.linked_hash_map.specs.Drains as of_map
use Rattle.linked_hash_set.specs.declared.drain.Drain.{Drain}

module _ {T : Type 0} where
  -- the items that are still to come
  abbrev pub drain_rest : Drain T → List T
  drain_rest d = keys_of (of_map.drain_rest d.pairs)

  -- the name of the borrow that ends with it
  abbrev pub drain_name : Drain T → GName
  drain_name d = of_map.drain_name d.pairs

  -- a call of `next` at s gave r, the first of the items to come, and left t
  abbrev pub DrainSteps : Drain T → Option T → Drain T → Type 0
  DrainSteps s r t =
      TakesFirst (λ item. item) (drain_rest s) r (drain_rest t) × (drain_name t ≡ drain_name s)

  -- the same of `next_back` and the last
  abbrev pub DrainStepsBack : Drain T → Option T → Drain T → Type 0
  DrainStepsBack s r t =
      TakesLast (λ item. item) (drain_rest s) r (drain_rest t) × (drain_name t ≡ drain_name s)

  -- every `Drain` that steps from d lead to ends the same borrow as d
  abbrev pub DrainKeepsAlong : (Drain T → Option T → Drain T → Type 0) → Drain T → Type 0
  DrainKeepsAlong steps d =
      (items : List T) (e : Drain T) → Yields steps d items e → drain_name e ≡ drain_name d
