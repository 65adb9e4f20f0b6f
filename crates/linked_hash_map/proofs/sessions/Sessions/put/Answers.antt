use Rattle.linked_hash_map.proofs.Names.{Global, Vec, ap, arith, length, rules, sym, ◌++◌, ◌∙◌, ◌≤◌, Session, leaving, with_last, MutBor}
use Rattle.linked_hash_map.proofs.session_table.HandOuts.{HasPushed-calls, callable-pushes, leaving-fit}
use Rattle.linked_hash_map.proofs.session_table.Plans.{length-leaving_put}
use Rattle.linked_hash_map.proofs.sessions.Sessions.put.Goals as goal

pub put_planned-requires-clause-callable : goal.put_planned-requires-clause-callable
put_planned-requires-clause-callable g c =
    let light : c.args.weight ≤ c.args.self.now.limit = rw (← c.self.view_is) (omega arith) in
    callable-pushes _ (λ (f : record { 0 : MutBor (Vec (Session g.row.T.Denot) Global) }). f.0)
    (λ f session f' call. search rules) (λ f session room. search rules) _ _
    (omega (
      arith,
      ap length c.in-Ok.ensures.items,
      c.in-Ok.ensures.exact,
      length-leaving_put light c.plan_put-plan.ensures.plan c.args.payload,
    ))

pub returns-in-Ok-put_planned-clause-gone : goal.returns-in-Ok-put_planned-clause-gone
returns-in-Ok-put_planned-clause-gone g c =
    let old = c.args.self.now in let all = with_last old.sessions c.args.id c.args.weight c.args.payload in
    let pushed = HasPushed-calls _ (λ (f : record { 0 : MutBor (Vec (Session g.row.T.Denot) Global) }). f.0)
    (λ f session f' call. search rules) _ _ _ c.in-Ok-put_planned.ensures.gone in
    let gone = ap (λ l. l ++ c.put_planned.new.self.sessions) (pushed.items ∙ ap (λ l. l ++ leaving old.limit all) c.in-Ok.ensures.items)
    ∙ ap (λ l. leaving old.limit all ++ l) c.in-Ok-put_planned.ensures.put.stay ∙ leaving-fit old.limit all in
    search rules

pub returns-in-Ok-put_planned-clause-exact : goal.returns-in-Ok-put_planned-clause-exact
returns-in-Ok-put_planned-clause-exact g c =
    let light : c.args.weight ≤ c.args.self.now.limit = rw (← c.self.view_is) (omega arith) in
    let old = c.args.self.now in let all = with_last old.sessions c.args.id c.args.weight c.args.payload in
    let pushed = HasPushed-calls _ (λ (f : record { 0 : MutBor (Vec (Session g.row.T.Denot) Global) }). f.0)
    (λ f session f' call. search rules) _ _ _ c.in-Ok-put_planned.ensures.gone in
    let exact = pushed.capacity ∙ c.in-Ok.ensures.exact ∙ sym (length-leaving_put light c.plan_put-plan.ensures.plan c.args.payload)
    ∙ sym (ap length (pushed.items ∙ ap (λ l. l ++ leaving old.limit all) c.in-Ok.ensures.items)) in
    search rules
