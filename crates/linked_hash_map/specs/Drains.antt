-- What a contract sees of a `Drain`.
use Rattle.std.specs.Prelude.{◌≡◌, List, map, Option}
use Rattle.std.specs.Borrow.{GName}
use Rattle.std.specs.Iterator.{Yields}
use Rattle.std.specs.Map.Iter.{TakesFirst, TakesLast}
use Rattle.lhm_ring.specs.Drain as ring
use Rattle.linked_hash_map.specs.declared.drain.Drain.{Drain}

module _ {K V : Type 0} where
  -- the pairs that are still to come
  abbrev pub drain_rest : Drain K V → List (K × V)
  drain_rest d = map (λ t. t.1) (ring.drain_rest d.nodes)

  -- the name of the borrow that ends with it
  abbrev pub drain_name : Drain K V → GName
  drain_name d = ring.drain_name d.nodes

  -- a call of `next` at s gave r, the first of the pairs to come, and left t
  abbrev pub DrainSteps : Drain K V → Option (K × V) → Drain K V → Type 0
  DrainSteps s r t =
      TakesFirst (λ pair. pair) (drain_rest s) r (drain_rest t) × (drain_name t ≡ drain_name s)

  -- the same of `next_back` and the last
  abbrev pub DrainStepsBack : Drain K V → Option (K × V) → Drain K V → Type 0
  DrainStepsBack s r t =
      TakesLast (λ pair. pair) (drain_rest s) r (drain_rest t) × (drain_name t ≡ drain_name s)

  -- every `Drain` that steps from d lead to ends the same borrow as d
  abbrev pub DrainKeepsAlong : (Drain K V → Option (K × V) → Drain K V → Type 0) → Drain K V
      → Type 0
  DrainKeepsAlong steps d =
      (pairs : List (K × V)) (e : Drain K V) → Yields steps d pairs e → drain_name e ≡ drain_name d
