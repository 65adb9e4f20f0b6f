use Rattle.linked_hash_map.proofs.Names.{ap, inl, option_map, refl, sym, ◌∙◌, ◌≡◌, ◌⊎◌, session_table}
use Rattle.linked_hash_map.proofs.session_table.Pairs.{IsKeptWithin-refreshed, IsValidTable-kept, payload_of-sessions_of}
use Rattle.linked_hash_map.proofs.session_table.Pairs.{payload_of-with_last_apart, payload_of-with_last_here, sessions_of-refreshed}
use Rattle.linked_hash_map.proofs.sessions.Sessions.touch.Goals as goal

-- two tables that a reference is lent out of are the same if each value written leaves the two so
inl-same : {N A B C : Type 0} {name : N} {f g : A → B} → ((x : A) → f x ≡ g x) → ◌≡◌ {A = (N × (A → B)) ⊎ C} (inl (name, f)) (inl (name, g))
inl-same {name = name} same = λ i. inl (name, λ x. same x i)

pub invariant_of-self-lent : goal.invariant_of-self-lent
invariant_of-self-lent g c = IsKeptWithin-refreshed c.self.inside.map c.args.id (sym c.in-Some.ensures.value) c.self.invariant

pub returns-in-Some : goal.returns-in-Some
returns-in-Some g c =
    let m = c.self.inside in
    rw (← c.self.view_is) (
      inl-same (λ payload. ap (λ sessions. session_table sessions m.limit m.map.capacity)
          (sessions_of-refreshed m.map c.args.id (sym c.in-Some.ensures.value) payload)),
      record {
        writes_back = tt;
        payload = ap (option_map (λ weighted. weighted.payload)) c.in-Some.ensures.value
            ∙ sym (payload_of-sessions_of m.map.pairs c.args.id);
        valid = IsValidTable-kept c.self.invariant;
        written = λ payload. payload_of-with_last_here m.map.pairs c.args.id _ payload;
        others = λ payload other apart. payload_of-with_last_apart m.map.pairs c.args.id other _ payload apart;
      },
    )

pub returns-in-None : goal.returns-in-None
returns-in-None g c =
    let m = c.self.inside in
    rw (← c.self.view_is) (
      refl,
      record {
        writes_back = tt;
        payload = ap (option_map (λ weighted. weighted.payload)) c.in-None.ensures.value
            ∙ sym (payload_of-sessions_of m.map.pairs c.args.id);
        valid = IsValidTable-kept c.self.invariant;
        written = λ payload. payload_of-with_last_here m.map.pairs c.args.id _ payload;
        others = λ payload other apart. payload_of-with_last_apart m.map.pairs c.args.id other _ payload apart;
      },
    )
