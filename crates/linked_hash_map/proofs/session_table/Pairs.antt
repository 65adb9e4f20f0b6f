-- The sessions that a map's pairs stand for, after each call of the map.
use Rattle.linked_hash_map.proofs.Names.{Bool, List, Option, Some, [], ap, ap₂, arith, cond, eqb as nat_eq, false, is_some, length, not}
use Rattle.linked_hash_map.proofs.Names.{option_map, refl, subst, suc, sym, true, unwrap_or, ℕ, ◌++◌, ◌+◌, ◌-◌, ◌∙◌, ◌∷◌, ◌≡◌, refreshed}
use Rattle.linked_hash_map.proofs.Names.{LinkedMap, IsValidTable, Session, ids_of, payload_of, session_of, session_table, to_end}
use Rattle.linked_hash_map.proofs.Names.{total_weight, weight_of, with_last, IsKeptWithin, sessions_of, IsValid, Touch, Weighted, eqb-true}
use Rattle.linked_hash_map.proofs.Names.{map-append, nat_eq_equiv, IsDistinct, keys_of}
use Rattle.linked_hash_map.proofs.Callers.{Keys.IsSome-find, Keys.length-to_back_present, Valid.IsValid-put}
use Rattle.linked_hash_map.proofs.Callers.Lookups.{eq-stored, value_at-to_back_apart, value_at-to_back_here}
use Rattle.linked_hash_map.proofs.session_table.Lists.{total_weight-with_last, total_weight-without}
use Rattle.linked_hash_map.specs.SessionTables.{without}
use Rattle.linked_hash_map.specs.Pairs as pairs

module _ {T : Type 0} where
  abbrev session : ℕ × Weighted T → Session T
  session pair = (pair.0, pair.1.weight, pair.1.payload)

  pub ids_of-sessions_of : (ps : List (ℕ × Weighted T)) → ids_of (sessions_of ps) ≡ keys_of ps
  ids_of-sessions_of [] = refl
  ids_of-sessions_of (pair ∷ ps) = ap (λ ids. pair.0 ∷ ids) (ids_of-sessions_of ps)

  pub length-sessions_of : (ps : List (ℕ × Weighted T)) → length (sessions_of ps) ≡ length ps
  length-sessions_of [] = refl
  length-sessions_of (pair ∷ ps) = ap suc (length-sessions_of ps)

  -- by these a table whose sessions are kept is valid
  pub ruleset kept_sessions = (ids_of-sessions_of, length-sessions_of)

  pub sessions_of-without : (ps : List (ℕ × Weighted T)) (id : ℕ) → sessions_of (pairs.without nat_eq ps id) ≡ without (sessions_of ps) id
  sessions_of-without [] id = refl
  sessions_of-without (pair ∷ ps) id = by_test (nat_eq id pair.0) (sessions_of-without ps id)
    where
      by_test : (b : Bool) → sessions_of (pairs.without nat_eq ps id) ≡ without (sessions_of ps) id
          → sessions_of
          (cond (not b) (pair ∷ pairs.without nat_eq ps id) (pairs.without nat_eq ps id))
          ≡ cond (not b) (session pair ∷ without (sessions_of ps) id) (without (sessions_of ps) id)
      by_test true rest = rest
      by_test false rest = ap (λ l. session pair ∷ l) rest

  -- what an id has
  session_of-sessions_of : (ps : List (ℕ × Weighted T)) (id : ℕ)
      → session_of (sessions_of ps) id ≡ option_map session (pairs.find nat_eq ps id)
  session_of-sessions_of [] id = refl
  session_of-sessions_of (pair ∷ ps) id = by_test (nat_eq id pair.0) (session_of-sessions_of ps id)
    where
      by_test : (b : Bool) → session_of (sessions_of ps) id ≡ option_map session (pairs.find nat_eq ps id)
          → cond b (Some (session pair)) (session_of (sessions_of ps) id)
          ≡ option_map session (cond b (Some pair) (pairs.find nat_eq ps id))
      by_test true rest = refl
      by_test false rest = rest

  option_map-payload : (o : Option (ℕ × Weighted T))
      → option_map (λ s. s.2) (option_map session o) ≡ option_map (λ weighted. weighted.payload) (option_map (λ pair. pair.1) o)
  option_map-payload o = grind arith

  option_map-weight : (o : Option (ℕ × Weighted T))
      → option_map (λ s. s.1) (option_map session o) ≡ option_map (λ weighted. weighted.weight) (option_map (λ pair. pair.1) o)
  option_map-weight o = grind arith

  is_some-session : (o : Option (ℕ × Weighted T)) → is_some (option_map session o) ≡ is_some o
  is_some-session o = grind arith

  pub payload_of-sessions_of : (ps : List (ℕ × Weighted T)) (id : ℕ)
      → payload_of (sessions_of ps) id ≡ option_map (λ weighted. weighted.payload) (pairs.value_at nat_eq ps id)
  payload_of-sessions_of ps id = grind (arith, session_of-sessions_of, option_map-payload)

  pub weight-sessions_of : (ps : List (ℕ × Weighted T)) (id : ℕ)
      → option_map (λ s. s.1) (session_of (sessions_of ps) id) ≡ option_map (λ weighted. weighted.weight) (pairs.value_at nat_eq ps id)
  weight-sessions_of ps id = grind (arith, session_of-sessions_of, option_map-weight)

  pub weight_of-sessions_of : (ps : List (ℕ × Weighted T)) (id : ℕ)
      → weight_of (sessions_of ps) id ≡ unwrap_or (option_map (λ weighted. weighted.weight) (pairs.value_at nat_eq ps id)) 0
  weight_of-sessions_of ps id = ap (λ o. unwrap_or o 0) (weight-sessions_of ps id)

  pub is_some-session_of : (ps : List (ℕ × Weighted T)) (id : ℕ)
      → is_some (session_of (sessions_of ps) id) ≡ is_some (pairs.find nat_eq ps id)
  is_some-session_of ps id = ap is_some (session_of-sessions_of ps id) ∙ is_some-session (pairs.find nat_eq ps id)

  -- the pair of an id at the back
  pub sessions_of-to_back : (ps : List (ℕ × Weighted T)) (id : ℕ) (weighted : Weighted T)
      → sessions_of (pairs.to_back nat_eq ps id weighted) ≡ with_last (sessions_of ps) id weighted.weight weighted.payload
  sessions_of-to_back ps id weighted =
      let stored = pairs.key_or id (pairs.find nat_eq ps id) in
      let own : id ≡ stored = eqb-true id stored (eq-stored nat_eq_equiv ps id) in
      map-append session (pairs.without nat_eq ps id) ((stored, weighted) ∷ [])
      ∙ ap₂ (λ l j. l ++ (j, weighted.weight, weighted.payload) ∷ []) (sessions_of-without ps id) (sym own)

  -- what an id has once the session of one is at the back
  pub payload_of-with_last_here : (ps : List (ℕ × Weighted T)) (id weight : ℕ) (payload : T)
      → payload_of (with_last (sessions_of ps) id weight payload) id ≡ Some payload
  payload_of-with_last_here ps id weight payload =
      let weighted : Weighted T = record { weight = weight; payload = payload } in
      ap (λ l. payload_of l id) (sym (sessions_of-to_back ps id weighted))
      ∙ payload_of-sessions_of (pairs.to_back nat_eq ps id weighted) id
      ∙ ap (option_map (λ (w : Weighted T). w.payload)) (value_at-to_back_here nat_eq_equiv ps id weighted)

  pub payload_of-with_last_apart : (ps : List (ℕ × Weighted T)) (id other weight : ℕ) (payload : T) → nat_eq id other ≡ false
      → payload_of (with_last (sessions_of ps) id weight payload) other ≡ payload_of (sessions_of ps) other
  payload_of-with_last_apart ps id other weight payload apart =
      let weighted : Weighted T = record { weight = weight; payload = payload } in
      ap (λ l. payload_of l other) (sym (sessions_of-to_back ps id weighted))
      ∙ payload_of-sessions_of (pairs.to_back nat_eq ps id weighted) other
      ∙ ap (option_map (λ (w : Weighted T). w.payload)) (value_at-to_back_apart nat_eq_equiv ps id other weighted apart)
      ∙ sym (payload_of-sessions_of ps other)

  -- what holds of a table that is kept so
  module _ {S : Type 0} {m : LinkedMap ℕ (Weighted T) S} {total limit : ℕ} (kept : IsKeptWithin m total limit) where
    pub distinct-sessions_of : IsDistinct nat_eq (ids_of (sessions_of m.pairs))
    distinct-sessions_of = subst (IsDistinct nat_eq) (sym (ids_of-sessions_of m.pairs)) kept.valid.distinct

    pub IsValidTable-kept : IsValidTable (session_table (sessions_of m.pairs) limit m.capacity)
    IsValidTable-kept = grind (arith, distinct-sessions_of, length-sessions_of)

    pub total_weight-others : (id : ℕ) → total_weight (without (sessions_of m.pairs) id) + weight_of (sessions_of m.pairs) id ≡ total
    total_weight-others id = total_weight-without (sessions_of m.pairs) id distinct-sessions_of ∙ sym kept.sum

    -- and once a session is out
    pub IsKeptWithin-without : {n : LinkedMap ℕ (Weighted T) S} (id : ℕ) → n.pairs ≡ pairs.without nat_eq m.pairs id → n.mode ≡ m.mode
        → IsValid nat_eq n → IsKeptWithin n (total - weight_of (sessions_of m.pairs) id) limit
    IsKeptWithin-without id changed same valid = grind (arith, total_weight-others, sessions_of-without)

  -- the session of an id at the end
  module _ {S : Type 0} (m : LinkedMap ℕ (Weighted T) S) (id : ℕ) {weighted : Weighted T}
      (found : pairs.value_at nat_eq m.pairs id ≡ Some weighted) where
    weight_of-found : weight_of (sessions_of m.pairs) id ≡ weighted.weight
    weight_of-found = weight_of-sessions_of m.pairs id ∙ ap (λ o. unwrap_or (option_map (λ (h : Weighted T). h.weight) o) 0) found

    pub sessions_of-refreshed : (payload : T)
        → sessions_of
        (pairs.to_back nat_eq m.pairs id (record { weight = weighted.weight; payload = payload }))
        ≡ to_end (sessions_of m.pairs) id payload
    sessions_of-refreshed payload = grind (arith, sessions_of-to_back, weight_of-found)

    pub IsKeptWithin-refreshed : {total limit : ℕ} → IsKeptWithin m total limit → (payload : T)
        → IsKeptWithin (refreshed nat_eq m id (record { weight = weighted.weight; payload = payload })) total limit
    IsKeptWithin-refreshed {total} {limit} kept payload =
        let now : Weighted T = record { weight = weighted.weight; payload = payload } in
        let there = IsSome-find nat_eq m.pairs id weighted found in
        let same = length-to_back_present nat_eq_equiv m.pairs id now kept.valid.distinct there in
        let within = kept.valid.within in let limited = kept.valid.limit in
        let others = total_weight-others kept id in
        let after = total_weight-with_last (sessions_of m.pairs) id (weight_of (sessions_of m.pairs) id) payload in
        record {
          valid = IsValid-put nat_eq_equiv Touch id now kept.valid refl (omega arith) (omega arith) (omega arith);
          mode = kept.mode;
          sum = omega (arith, ap total_weight (sessions_of-refreshed payload));
          within = kept.within;
        }
