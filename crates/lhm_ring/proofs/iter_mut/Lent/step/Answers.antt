use Rattle.lhm_ring.proofs.Names.{AreLent, ap, subst, sym, ◌∙◌, ◌∷◌}
use Rattle.lhm_ring.proofs.rings.IteratorSteps.{Some-unique, value_at-first_lent}
use Rattle.lhm_ring.proofs.iter_mut.Lent.step.Goals as goal

pub take-requires : goal.take-requires
take-requires g c = let l = value_at-first_lent c.in-Some.ensures.1 c.self.invariant in (_, l.0)

pub invariant_of-self : goal.invariant_of-self
invariant_of-self g c = let l = value_at-first_lent c.in-Some.ensures.1 c.self.invariant in
    subst (λ r. AreLent r c.step.new.self) (sym c.take.ensures.run) l.1

pub returns-in-Some : goal.returns-in-Some
returns-in-Some g c =
    let l = value_at-first_lent c.in-Some.ensures.1 c.self.invariant in
    let same = Some-unique _ _ _ l.0 c.take.ensures.value in
    record {
      at = c.in-Some.at.ptr;
      link = c.in-Some.ensures.0;
      is = sym (ap (λ s. s.0) c.self.view_is) ∙ c.in-Some.ensures.1
          ∙ ap (λ w. record {
            at = c.in-Some.at.ptr;
            hash = c.in-Some.hash;
            link =
                c.in-Some.ensures.0;
            pair = (c.in-Some.key.now, w);
          } ∷ c.step.new.self) same;
    }
