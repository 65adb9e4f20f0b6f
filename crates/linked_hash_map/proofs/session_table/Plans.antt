-- What a planned put leaves of a table.
use Rattle.linked_hash_map.proofs.Names.{IsSome, List, ap, arith, drop, eqb as nat_eq, false, length, length-take-le, max, subst, sym, take}
use Rattle.linked_hash_map.proofs.Names.{true, ℕ, ◌++◌, ◌+◌, ◌-◌, ◌∙◌, ◌≡◌, ◌≤◌, last, HasPut, IsPutPlan, IsLongestEnd, Session, fit}
use Rattle.linked_hash_map.proofs.Names.{leaving, payload_of, session_table, total_weight, with_last, sessions_of, Weighted}
use Rattle.linked_hash_map.proofs.Names.{append_cancel_right, take-append-drop, IsDistinct, keys_of}
use Rattle.linked_hash_map.proofs.{Callers.Lookups.last-append, session_table.Lists.IsLongestEnd-fit, session_table.Lists.total_weight-fit}
use Rattle.linked_hash_map.proofs.session_table.{HandOuts.leaving-fit, Puts.payload_of-stays, Puts.total_weight-put}
use Rattle.linked_hash_map.proofs.session_table.Puts.{capacity-put, drop-with_last, fit-with_last, length-with_last, payload_of-put}
use Rattle.linked_hash_map.specs.{SessionTables.without, declared.sessions.storage.PutPlan.PutPlan}

module _ {T : Type 0} {sessions : List (Session T)} {limit id weight : ℕ} {plan : PutPlan} (light : weight ≤ limit)
    (planned : IsPutPlan sessions id (limit - weight) plan) where
  -- if none goes, all fit
  pub all-fit : plan.count ≡ 0 → total_weight (without sessions id) + weight ≤ limit
  all-fit none = grind (arith, total_weight-fit)

  -- what is left is within the limit
  pub staying-within : plan.staying + weight ≤ limit
  staying-within = omega (arith, planned.leaving.staying_is, total_weight-fit (limit - weight) (without sessions id))

  module _ (payload : T) where
    pub drop-put : drop plan.count (with_last sessions id weight payload) ≡ fit limit (with_last sessions id weight payload)
    drop-put = grind (arith, drop-with_last, fit-with_last)

    pub take-put : take plan.count (with_last sessions id weight payload) ≡ leaving limit (with_last sessions id weight payload)
    take-put =
        let all = with_last sessions id weight payload in
        append_cancel_right (take plan.count all) (leaving limit all) (fit limit all)
        (ap (λ l. take plan.count all ++ l) (sym drop-put) ∙ take-append-drop plan.count all ∙ sym (leaving-fit limit all))

    pub length-leaving_put : length (leaving limit (with_last sessions id weight payload)) ≡ plan.count
    length-leaving_put = grind (arith, take-put, length-take-le, length-with_last)

    pub total_weight-left : plan.staying + weight ≡ total_weight (drop plan.count (with_last sessions id weight payload))
    total_weight-left = grind (arith, total_weight-put, drop-with_last)

module _ {T : Type 0} {limit id weight : ℕ} {plan : PutPlan} (payload : T) (ps : List (ℕ × Weighted T)) where
  pub HasPut-planned : {left : List (Session T)} {old now : ℕ} → weight ≤ limit → IsPutPlan (sessions_of ps) id (limit - weight) plan
      → length ps ≤ old → IsDistinct nat_eq (keys_of ps) → left ≡ drop plan.count (with_last (sessions_of ps) id weight payload)
      → (plan.count ≡ 0 → plan.is_new ≡ true → now ≡ max old (length ps + 1)) → ((plan.count ≡ 0 → plan.is_new ≡ false) → now ≡ old)
      → HasPut (session_table (sessions_of ps) limit old) (id, weight, payload) (session_table left limit now)
  HasPut-planned {left} {old} {now} light planned within distinct is raised same =
      let all = with_last (sessions_of ps) id weight payload in
      let behind = is ∙ drop-with_last (sessions_of ps) plan.count id weight payload planned.leaving.within in
      let stay = is ∙ drop-put light planned payload in
      record {
        stay = stay;
        longest = subst (IsLongestEnd limit all) (sym stay) (IsLongestEnd-fit limit all);
        newest = ap last behind ∙ last-append (drop plan.count (without (sessions_of ps) id)) (id, weight, payload);
        payload = ap (λ l. payload_of l id) behind ∙ payload_of-put ps plan.count id weight payload;
        others = λ other apart.
            subst (λ l. IsSome (payload_of l other) → payload_of l other ≡ payload_of (sessions_of ps) other) (sym is)
            (payload_of-stays ps plan.count id other weight payload distinct apart);
        capacity = capacity-put plan.is_new ps (id, weight, payload) within distinct planned.is_new planned.leaving.within raised same
            ∙ ap (λ l. max old (length l)) (sym is);
      }
