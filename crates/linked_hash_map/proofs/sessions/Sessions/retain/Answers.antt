use Rattle.linked_hash_map.proofs.Names.{arith, rules, subst, sym, ◌∙◌, CallableOnEachSession, TakesSession, Session, sessions_of, MutBor}
use Rattle.linked_hash_map.proofs.session_table.{Pairs.IsValidTable-kept, Retained.weights-retained}
use Rattle.linked_hash_map.proofs.session_table.Retained.{callable-sessions, lighter-retained, sessions-retained, total_weight-retained}
use Rattle.linked_hash_map.proofs.sessions.Sessions.retain.Goals as goal

pub retain-requires : goal.retain-requires
retain-requires g c =
    callable-sessions _ g.F.FnMut (λ (s : record { 0 : MutBor g.row.F.Denot }). s.0.now)
    (λ s id weighted b left s' call. search rules) _
    (λ s id weighted takes key value is_id is_weighted.
    subst (λ (session : Session g.row.T.Denot). TakesSession g.F.FnMut s.0.now session)
    (λ i. (sym is_id i, (sym is_weighted i).weight, (sym is_weighted i).payload)) takes) _
    c.self.inside.map.pairs
    (subst (λ table. CallableOnEachSession g.F.FnMut c.args.keep table.sessions) (sym c.self.view_is) c.requires)

pub total_of-self-inside-requires : goal.total_of-self-inside-requires
total_of-self-inside-requires g c =
    let lighter =
    lighter-retained _ g.F.FnMut (λ (s : record { 0 : MutBor g.row.F.Denot }). s.0.now)
    (λ s id weighted b left s' call. search rules) _ _ _ c.retain.ensures.pairs in
    omega (arith, lighter, c.self.invariant.sum, c.self.invariant.within, c.self.ranges)

pub invariant_of-self : goal.invariant_of-self
invariant_of-self g c =
    let lighter =
    lighter-retained _ g.F.FnMut (λ (s : record { 0 : MutBor g.row.F.Denot }). s.0.now)
    (λ s id weighted b left s' call. search rules) _ _ _ c.retain.ensures.pairs in
    record {
      valid = c.retain.ensures.stays_valid;
      mode = c.retain.ensures.keeps.mode ∙ c.self.invariant.mode;
      sum = c.total_of-self-inside.ensures;
      within = omega (arith, lighter, c.total_of-self-inside.ensures, c.self.invariant.sum, c.self.invariant.within);
    }

pub returns-clause-sessions : goal.returns-clause-sessions
returns-clause-sessions g c = rw (← c.self.view_is)
    (sessions-retained _ g.F.FnMut (λ (s : record { 0 : MutBor g.row.F.Denot }). s.0.now)
    (λ s id weighted b left s' call. search rules) _ _ _ c.retain.ensures.pairs)

pub returns-clause-weights : goal.returns-clause-weights
returns-clause-weights g c = weights-retained g.F.FnMut c.args.keep c.args.self.now.sessions
    (sessions_of c.retain.new.self.pairs) (returns-clause-sessions g c)

pub returns-clause-lighter : goal.returns-clause-lighter
returns-clause-lighter g c = total_weight-retained g.F.FnMut c.args.keep c.args.self.now.sessions
    (sessions_of c.retain.new.self.pairs) (returns-clause-sessions g c)

pub returns-clause-stays_valid : goal.returns-clause-stays_valid
returns-clause-stays_valid g c = IsValidTable-kept (invariant_of-self g c)
