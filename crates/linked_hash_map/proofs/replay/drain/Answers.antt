use Rattle.linked_hash_map.proofs.Names.{[], ap, append-nil, append_assoc, arith, inl, length, length-append, refl, sym, true≢false, ◌++◌}
use Rattle.linked_hash_map.proofs.Names.{◌<◌, ◌∙◌, ◌∷◌, ◌≡◌, drain_rest, pos_of_ne-zero}
use Rattle.linked_hash_map.proofs.runs.{Effects.Defines-remove_all, Effects.size-contents, Steps.Serves-keeps, Steps.Serves-unchanged}
use Rattle.linked_hash_map.proofs.replay.drain.Goals as goal

pub returns-in_default : goal.returns-in_default
returns-in_default g c = Serves-unchanged g.met.K.Eq.laws refl (λ log. refl) (λ start log defines.
    let some : 0 < c.len.result = pos_of_ne-zero (λ none. true≢false (sym (c.in_default.ensures.succeeds none))) in
    let length_is = size-contents g.met.K.Eq.laws defines in
    omega (arith, c.len.ensures.len))

pub loop-pair-init : goal.loop-pair-init
loop-pair-init g c = record {
  pairs = rw c.in-Ok.ensures.items (ap drain_rest c.into_iter-pair-iterator.ensures.into_iter_gives ∙ c.drain-pair-items.ensures.rest);
  room = omega (arith, c.len.ensures.len, c.in-Ok.ensures.exact);
}

pub push_reserved-requires : goal.push_reserved-requires
push_reserved-requires g c =
    let i = c.loop-pair.invariant in let so_far = c.loop-pair.pairs in
    let to_come = drain_rest c.loop-pair.pair-iterator in
    omega (arith, so_far.ok.0, ap length i.pairs, length-append so_far.items to_come, ap length c.in-Some.ensures.steps.0, i.room)

pub loop-pair-preserved : goal.loop-pair-preserved
loop-pair-preserved g c =
    let i = c.loop-pair.invariant in let so_far = c.loop-pair.pairs.items in
    let step = c.in-Some.ensures.steps in
    record {
      pairs =
          rw c.push_reserved.ensures.items
          (append_assoc so_far (c.in-Some.pair ∷ []) (drain_rest c.next.new.self) ∙ ap (λ l. so_far ++ l) (sym step.0) ∙ i.pairs);
      room = rw c.push_reserved.ensures.capacity i.room;
    }

pub returns : goal.returns
returns g c =
    let all : c.loop-pair.pairs.items ≡ c.args.map.now.pairs =
    sym (append-nil c.loop-pair.pairs.items)
    ∙ ap (λ l. c.loop-pair.pairs.items ++ l) (sym c.in-None.ensures.steps.0.0)
    ∙ c.loop-pair.invariant.pairs in
    Serves-keeps (record { capacity = refl; rechained = refl; hasher = refl; mode = refl }) (λ start log defines. (
      c.from_vec.ensures ∙ all ∙ sym defines.same_pairs,
      Defines-remove_all g.met.K.Eq.laws defines refl refl refl,
    )) (inl refl)
