use Rattle.linked_hash_map.proofs.Names.{Some, ap, ap₂, inr, subst, sym, take, ◌++◌, ◌-◌, ◌∙◌, HasNoRoom, rechained_each, to_visit}
use Rattle.linked_hash_map.proofs.runs.Extends.{Defines-taken, HasExtended-put, HasNoRoom-next, next-there}
use Rattle.linked_hash_map.proofs.{Names.put_each, runs.VisitEnds.MayEndVisit-insert, runs.VisitEnds.MayEndVisit-trans}
use Rattle.linked_hash_map.proofs.replay.extend.Goals as goal

pub loop-key-preserved : goal.loop-key-preserved
loop-key-preserved g c =
    let put = c.in-Ok.ensures in let i = c.loop-key.invariant in
    record {
      extended = HasExtended-put g.met.K.Eq.laws i.extended c.in-Some.ensures.steps.0
          put.pairs put.capacity put.rechained put.valid.within put.settings;
      visit = MayEndVisit-trans i.visit (MayEndVisit-insert c.in-Ok.old put.ends_visit put.to_visit);
    }

pub returns-in-Err : goal.returns-in-Err
returns-in-Err g c =
    let laws = g.met.K.Eq.laws in let so_far = c.loop-key.invariant.extended in
    let steps = c.in-Some.ensures.steps.0 in let refused = c.in-Err.ensures in
    record {
      answers = λ start log defines. (
        next-there laws so_far steps
            ∙ ap₂ (λ k v. Some (k, v)) (sym refused.key_back) (sym refused.value_back),
        subst (HasNoRoom g.K.PartialEq.eq start (log ++ put_each (take c.loop-key.inserted c.args.pairs))) (sym refused.key_back)
            (HasNoRoom-next laws so_far steps defines refused.absent refused.full),
      );
      defines = λ start log defines. Defines-taken laws so_far steps defines refused.unchanged;
      hasher = ap (λ m. m.hasher) refused.unchanged ∙ so_far.hasher;
      rechained = ap (λ m. m.rechained) refused.unchanged
          ∙ so_far.rechained ∙ ap (λ n. rechained_each c.args.map.now.rechained c.args.map.now.capacity (n - c.args.map.now.capacity))
          (sym (ap (λ m. m.capacity) refused.unchanged));
      visit = MayEndVisit-trans c.loop-key.invariant.visit (inr (ap to_visit refused.unchanged));
    }
