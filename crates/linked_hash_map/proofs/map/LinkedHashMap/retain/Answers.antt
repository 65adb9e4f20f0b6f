use Rattle.linked_hash_map.proofs.Names.{refl, rules, subst, sym, CallableOnEachPair, CalledAtPair, TakesPair}
use Rattle.linked_hash_map.proofs.nodes.Kept.{IsValid-kept, IsValid-view}
use Rattle.linked_hash_map.proofs.nodes.Retained.{IsKept-some, bare-retained, keys-some, length-some, pairs-retained}
use Rattle.linked_hash_map.proofs.map.LinkedHashMap.retain.Goals as goal

pub retain-requires : goal.retain-requires
retain-requires g c = subst
    (λ m. CallableOnEachPair (CalledAtPair g.F.FnMut) (TakesPair g.F.FnMut) c.args.keep m.pairs)
    (sym c.self.view_is) c.requires

pub invariant_of-self : goal.invariant_of-self
invariant_of-self g c = IsKept-some c.self.invariant (bare-retained (CalledAtPair g.F.FnMut)
    c.args.keep c.self.inside.table.held c.retain.new.self.held c.retain.ensures.retained)
    c.retain.ensures.keeps.capacity

pub returns : goal.returns
returns g c =
    let hs = c.self.inside.table.held in let ks = c.retain.new.self.held in let kept = c.retain.ensures.retained in
    let some = bare-retained (CalledAtPair g.F.FnMut) c.args.keep hs ks kept in
    rw (← c.self.view_is) (record {
      pairs = pairs-retained (CalledAtPair g.F.FnMut) c.args.keep hs ks kept;
      keys = keys-some hs ks some;
      len = length-some hs ks some;
      keeps = search rules;
      ends_visit = search rules;
      valid = IsValid-view c.self.inside refl c.self.invariant;
      stays_valid = IsValid-kept _ (invariant_of-self g c) refl refl refl;
    })
