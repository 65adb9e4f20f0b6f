use Rattle.linked_hash_map.proofs.Names.{Err, List, Option, Some, [], ap, arith, inr, length, map, map-id, max, subst, sym, ◌-◌, ◌∙◌, ◌∷◌}
use Rattle.linked_hash_map.proofs.Names.{◌≤◌, rechained_each, insert_each, LIMIT, length-map, err_from_is_err_and, Drains, YieldsThen}
use Rattle.linked_hash_map.proofs.{Callers.Collected.length-insert_each_most, pairs.ExtendSteps.to_visit-LeavesVisit}
use Rattle.linked_hash_map.proofs.map.LinkedHashMap.from_iter.Goals as goal

-- what gives an item after others gives a first one
first_item : {I X : Type 0} (steps : I → Option X → I → Type 0) (it : I) (given : List X) {item : X}
    {left : I} → YieldsThen steps it given (Some item) left
    → (first : X) × (next : I) × steps it (Some first) next
first_item steps it [] {item} {left} gives = (item, left, subst (λ s. steps s (Some item) left) (sym gives.1) gives.2)
first_item steps it (x ∷ given) gives = (x, gives.1.0, gives.1.1)

pub returns-in_err-map-clause-too_large : goal.returns-in_err-map-clause-too_large
returns-in_err-map-clause-too_large g c =
    let handed = err_from_is_err_and c.from_residual.result c.from_residual.ensures.1 in
    let same = ap Err (sym handed.2) in
    λ told. record {
      iterator = c.into_iter-items.result;
      made = c.into_iter-items.ensures.into_iter_gives;
      lower = c.size_hint-lower.result.0;
      hint = c.size_hint-lower.ensures.lower;
      above = c.in_err-map.ensures.too_large.0 (same ∙ sym handed.1 ∙ told);
    }

pub returns-in-Ok-clause-all : goal.returns-in-Ok-clause-all
returns-in-Ok-clause-all g c =
    let made = c.in_ok-map.ensures in let took = c.in-Ok.ensures in let given = took.all.given in
    let gives = took.all.gives in
    record {
      iterator = c.into_iter-items.result;
      made = c.into_iter-items.ensures.into_iter_gives;
      lower = c.size_hint-lower.result.0;
      hint = c.size_hint-lower.ensures.lower;
      limit = subst (λ n. n ≤ LIMIT) made.capacity made.valid.limit;
      given = given;
      gives = subst (λ it. Drains g.I.IntoIter.Iterator.next_gives it given) gives.made gives.gives;
      pairs = took.all.pairs ∙ (λ i. insert_each g.K.PartialEq.eq (made.mode i) (made.pairs i) (map-id given i));
      capacity_is = took.capacity ∙ ap (λ room. max room (length c.extend.new.self.pairs)) made.capacity;
      counted = took.rechained ∙ (λ i. rechained_each (made.rechained i) (made.capacity i) (c.extend.new.self.capacity - made.capacity i));
    }

pub returns-in-Ok-clause-to_visit : goal.returns-in-Ok-clause-to_visit
returns-in-Ok-clause-to_visit g c =
    let made = c.in_ok-map.ensures in let inserts = c.in-Ok.ensures.to_visit in
    let longest = length-insert_each_most g.met.K.Eq.laws c.in_ok-map.map.mode c.in_ok-map.map.pairs
    (map (λ pair. pair) inserts.0.given) made.valid.distinct in
    let came = length-map inserts.0.given (λ pair. pair) in
    to_visit-LeavesVisit made.pairs (omega (arith, longest, came, ap length inserts.0.pairs)) inserts.1

pub returns-in-Err-clause-no_room : goal.returns-in-Err-clause-no_room
returns-in-Err-clause-no_room g c =
    let made = c.in_ok-map.ensures in let stopped = c.in-Err.ensures.stopped in
    let gives = stopped.gives in let steps = g.I.IntoIter.Iterator.next_gives in
    let it = c.into_iter-items.result in
    λ told. record {
      iterator = it;
      made = c.into_iter-items.ensures.into_iter_gives;
      lower = c.size_hint-lower.result.0;
      hint = c.size_hint-lower.ensures.lower;
      limit = subst (λ n. n ≤ LIMIT) made.capacity made.valid.limit;
      needed = inr (first_item steps it stopped.given
          (subst (λ it. YieldsThen steps it stopped.given (Some stopped.item) gives.left) gives.made
          gives.gives));
    }

pub extend-requires : goal.extend-requires
extend-requires g c =
    record {
      ends = λ it same.
          c.requires.ends it (subst (g.I.IntoIterator.into_iter_gives c.args.items) (sym same)
          c.into_iter-items.ensures.into_iter_gives);
    }
