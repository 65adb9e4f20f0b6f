use Rattle.linked_hash_map.proofs.Names.{ap, subst, sym, ◌∙◌}
use Rattle.linked_hash_map.proofs.pairs.Clones.{HasCloned-none, HasCloned-put, IsClone-all}
use Rattle.linked_hash_map.proofs.clone.LinkedHashMapClone.clone.Goals as goal

pub loop-key-init : goal.loop-key-init
loop-key-init g c =
    let made = c.in-Ok.ensures in
    let of_hasher = subst (λ s. g.S.Clone.is_clone s c.in-Ok.map.hasher) c.hasher.ensures
    (subst (g.S.Clone.is_clone c.hasher.result.now) (sym made.hasher)
    c.in_ok-hasher.ensures.cases) in
    record {
      cloned = HasCloned-none
          (c.into_iter-key-iterator.ensures.into_iter_gives ∙ c.iter-key-items.ensures.pairs)
          made.pairs (made.capacity ∙ c.len.ensures.len) made.rechained
          of_hasher made.mode;
      valid = made.valid;
    }

pub loop-key-preserved : goal.loop-key-preserved
loop-key-preserved g c =
    let put = c.in-Ok-insert.ensures in
    record {
      cloned = HasCloned-put c.loop-key.invariant.cloned c.in-Some.ensures.steps c.in_ok-key.ensures.cases c.in_ok-clone.ensures.cases
          put.pairs put.capacity put.rechained put.settings c.in-Ok-insert.old put.ends_visit put.to_visit;
      valid = put.stays_valid;
    }

pub returns : goal.returns
returns g c =
    record {
      cases = IsClone-all g.met.K.Eq.laws c.iter-key-items.ensures.valid.distinct
          c.set_mode.ensures.stays_valid c.loop-key.invariant.cloned c.in-None.ensures.steps.0
          (c.set_mode.ensures.sets ∙ ap (λ m. record c.loop-key.map { mode = m }) c.mode.ensures.mode);
    }
