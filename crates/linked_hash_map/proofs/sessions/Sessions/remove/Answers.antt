use Rattle.linked_hash_map.proofs.Names.{ap, arith, option_map, rules, subst, sym, unwrap_or, ◌-◌, ◌∙◌, ◌≡◌, IsKeptWithin, sessions_of}
use Rattle.linked_hash_map.proofs.session_table.Pairs.{IsKeptWithin-without, IsValidTable-kept, length-sessions_of, payload_of-sessions_of}
use Rattle.linked_hash_map.proofs.session_table.Pairs.{sessions_of-without, total_weight-others, weight_of-sessions_of}
use Rattle.linked_hash_map.proofs.sessions.Sessions.remove.Goals as goal

pub invariant_of-self : goal.invariant_of-self
invariant_of-self g c =
    let m = c.self.inside in
    let none = weight_of-sessions_of m.map.pairs c.args.id
    ∙ ap (λ o. unwrap_or (option_map (λ weighted. weighted.weight) o) 0)
    (sym c.in_default.ensures.value) in
    let whole : m.total - 0 ≡ m.total = omega arith in
    subst (λ total. IsKeptWithin c.remove.new.self total m.limit) (ap (λ weight. m.total - weight) none ∙ whole)
    (IsKeptWithin-without c.self.invariant c.args.id c.remove.ensures.pairs c.remove.ensures.keeps.mode c.remove.ensures.stays_valid)

pub overflow_sub-self : goal.overflow_sub-self
overflow_sub-self g c =
    let m = c.self.inside in
    let weight = weight_of-sessions_of m.map.pairs c.args.id ∙ ap
    (λ o. unwrap_or (option_map (λ weighted. weighted.weight) o) 0) (sym c.in-Some.ensures.value) in
    omega (arith, weight, total_weight-others c.self.invariant c.args.id)

pub invariant_of-self-2 : goal.invariant_of-self-2
invariant_of-self-2 g c =
    let m = c.self.inside in
    let weight = weight_of-sessions_of m.map.pairs c.args.id ∙ ap
    (λ o. unwrap_or (option_map (λ weighted. weighted.weight) o) 0) (sym c.in-Some.ensures.value) in
    subst (λ n. IsKeptWithin c.remove.new.self (m.total - n) m.limit) weight
    (IsKeptWithin-without c.self.invariant c.args.id c.remove.ensures.pairs c.remove.ensures.keeps.mode c.remove.ensures.stays_valid)

pub returns-in_default : goal.returns-in_default
returns-in_default g c =
    let ps = c.self.inside.map.pairs in let qs = c.remove.new.self.pairs in let removed = c.remove.ensures in
    rw (← c.self.view_is) (record {
      payload = ap (option_map (λ weighted. weighted.payload)) c.in_default.ensures.value ∙ sym (payload_of-sessions_of ps c.args.id);
      sessions = ap sessions_of removed.pairs ∙ sessions_of-without ps c.args.id;
      limit = search rules;
      capacity = search rules;
      valid = IsValidTable-kept c.self.invariant;
      stays_valid = IsValidTable-kept (invariant_of-self g c);
      gone = payload_of-sessions_of qs c.args.id ∙ ap (option_map (λ weighted. weighted.payload)) removed.updates.here;
      others = λ other apart. payload_of-sessions_of qs other
          ∙ ap (option_map (λ weighted. weighted.payload)) (removed.updates.others other apart) ∙ sym (payload_of-sessions_of ps other);
      fewer = tt;
    })

pub returns : goal.returns
returns g c =
    let ps = c.self.inside.map.pairs in let qs = c.remove.new.self.pairs in let removed = c.remove.ensures in
    rw (← c.self.view_is) (record {
      payload = ap (option_map (λ weighted. weighted.payload)) c.in-Some.ensures.value ∙ sym (payload_of-sessions_of ps c.args.id);
      sessions = ap sessions_of removed.pairs ∙ sessions_of-without ps c.args.id;
      limit = search rules;
      capacity = search rules;
      valid = IsValidTable-kept c.self.invariant;
      stays_valid = IsValidTable-kept (invariant_of-self-2 g c);
      gone = payload_of-sessions_of qs c.args.id ∙ ap (option_map (λ weighted. weighted.payload)) removed.updates.here;
      others = λ other apart. payload_of-sessions_of qs other
          ∙ ap (option_map (λ weighted. weighted.payload)) (removed.updates.others other apart) ∙ sym (payload_of-sessions_of ps other);
      fewer = omega (arith, length-sessions_of qs, length-sessions_of ps, c.in-Some.ensures.fewer);
    })
