-- What a put does to the pairs of a table's map.
use Rattle.linked_hash_map.proofs.Names.{Bool, IsSome, List, None, Option, Some, [], ap, arith, cond, drop, eqb as nat_eq, false, is_some}
use Rattle.linked_hash_map.proofs.Names.{length, length-append, length-drop, max, not, option_map, refl, suc, sym, take, true, true≢false}
use Rattle.linked_hash_map.proofs.Names.{zero, ℕ, ◌++◌, ◌+◌, ◌-◌, ◌<◌, ◌∙◌, ◌∷◌, ◌≡◌, ◌≤◌, Session, fit, payload_of, session_of}
use Rattle.linked_hash_map.proofs.Names.{total_weight, with_last, sessions_of, Weighted, drop-append-le, drop-map, take-append-le}
use Rattle.linked_hash_map.proofs.Names.{IsDistinct-tail, IsEquivalence, nat_eq_equiv, IsDistinct, keys_of}
use Rattle.linked_hash_map.proofs.Callers.Keys.{distinct-to_back, find-drop, length-to_back_present, without-absent}
use Rattle.linked_hash_map.proofs.Callers.{Lookups.find-without_here, Lookups.value_at-to_back_apart, Turns.find-others}
use Rattle.linked_hash_map.proofs.session_table.Lists.{fit-append, session_of-append, total_weight-append, total_weight-last}
use Rattle.linked_hash_map.proofs.session_table.Pairs.{is_some-session_of, length-sessions_of, payload_of-sessions_of, sessions_of-to_back}
use Rattle.linked_hash_map.{proofs.log.LiveKeys.none_is, proofs.session_table.Pairs.sessions_of-without, specs.SessionTables.without}
use Rattle.linked_hash_map.specs.Pairs as pairs

-- a key that is found among the last pairs has there the pair that it has among all
find-drop_present : {K V : Type 0} {eq : K → K → Bool} → IsEquivalence eq → (ps : List (K × V)) (q : K) (n : ℕ) → IsDistinct eq (keys_of ps)
    → IsSome (pairs.find eq (drop n ps) q) → pairs.find eq (drop n ps) q ≡ pairs.find eq ps q
find-drop_present laws ps q zero distinct found = refl
find-drop_present laws [] q (suc n) distinct found = refl
find-drop_present {K} {V} {eq} laws (pair ∷ ps) q (suc n) distinct found = by_test (eq q pair.0)
    refl (find-drop_present laws ps q n (IsDistinct-tail eq pair.0 (keys_of ps) distinct) found)
  where
    by_test : (b : Bool) → eq q pair.0 ≡ b → pairs.find eq (drop n ps) q ≡ pairs.find eq ps q
        → pairs.find eq (drop n ps) q ≡ cond b (Some pair) (pairs.find eq ps q)
    by_test true same rest = absurd (true≢false (sym found ∙ ap is_some (rest ∙ find-others laws ps q pair distinct same)))
    by_test false apart rest = rest

-- there is room for one more once some are out, or at once
pub room-left : (count len capacity : ℕ) → count ≤ len → len ≤ capacity → (count ≡ 0 → len < capacity) → len - count < capacity
room-left count len capacity enough within free = grind arith

module _ {T : Type 0} where
  -- a session whose id is new is put behind the others
  pub with_last-new : (ps : List (ℕ × Weighted T)) (id weight : ℕ) (payload : T) → pairs.find nat_eq ps id ≡ None
      → with_last (sessions_of ps) id weight payload ≡ sessions_of ps ++ (id, weight, payload) ∷ []
  with_last-new ps id weight payload none =
      ap (λ l. l ++ (id, weight, payload) ∷ []) (sym (sessions_of-without ps id) ∙ ap sessions_of (without-absent nat_eq ps id none))

  pub sessions_of-drop : (count : ℕ) (ps : List (ℕ × Weighted T)) → sessions_of (drop count ps) ≡ drop count (sessions_of ps)
  sessions_of-drop count ps = sym (drop-map (λ (pair : ℕ × Weighted T). (pair.0, pair.1.weight, pair.1.payload)) count ps)

  -- the front ones are not the new one
  pub drop-with_last : (sessions : List (Session T)) (count id weight : ℕ) (payload : T) → count ≤ length (without sessions id)
      → drop count (with_last sessions id weight payload) ≡ drop count (without sessions id) ++ (id, weight, payload) ∷ []
  drop-with_last sessions count id weight payload enough = drop-append-le count (without sessions id) ((id, weight, payload) ∷ []) enough

  -- whether an id is new
  pub find-new : (ps : List (ℕ × Weighted T)) (id : ℕ) → is_some (session_of (sessions_of ps) id) ≡ false → pairs.find nat_eq ps id ≡ None
  find-new ps id new = none_is (pairs.find nat_eq ps id) (sym (is_some-session_of ps id) ∙ new)

  pub length-without_new : (ps : List (ℕ × Weighted T)) (id : ℕ) → is_some (session_of (sessions_of ps) id) ≡ false
      → length (without (sessions_of ps) id) ≡ length ps
  length-without_new ps id new =
      ap length (sym (sessions_of-without ps id)) ∙ length-sessions_of (pairs.without nat_eq ps id)
      ∙ ap length (without-absent nat_eq ps id (find-new ps id new))

  -- a session whose id is new comes behind those that go
  module _ (ps : List (ℕ × Weighted T)) (count id : ℕ) (new : is_some (session_of (sessions_of ps) id) ≡ false)
      (enough : count ≤ length (without (sessions_of ps) id)) where
    pub few-new : count ≤ length ps
    few-new = omega (arith, enough, length-without_new ps id new)

    pub length-drop_new : {capacity : ℕ} → length ps ≤ capacity → (count ≡ 0 → length ps < capacity) → length (drop count ps) < capacity
    length-drop_new within free = grind (arith, room-left, few-new, length-drop)

    pub take-new : (weight : ℕ) (payload : T) → take count (with_last (sessions_of ps) id weight payload) ≡ take count (sessions_of ps)
    take-new weight payload = grind (arith, with_last-new, find-new, take-append-le, length-sessions_of, few-new)

    pub with_last-drop : (weight : ℕ) (payload : T)
        → with_last (sessions_of (drop count ps)) id weight payload ≡ drop count (with_last (sessions_of ps) id weight payload)
    with_last-drop weight payload =
        let none = find-new ps id new in
        with_last-new (drop count ps) id weight payload (find-drop nat_eq ps id count none)
        ∙ ap (λ l. l ++ (id, weight, payload) ∷ []) (sessions_of-drop count ps)
        ∙ sym (drop-append-le count (sessions_of ps) ((id, weight, payload) ∷ []) (omega (arith, length-sessions_of ps, few-new)))
        ∙ ap (drop count) (sym (with_last-new ps id weight payload none))

    pub payload_of-drop_new : payload_of (sessions_of (drop count ps)) id ≡ payload_of (sessions_of ps) id
    payload_of-drop_new =
        payload_of-sessions_of (drop count ps) id
        ∙ ap (λ o. option_map (λ (weighted : Weighted T). weighted.payload) (option_map (λ (pair : ℕ × Weighted T). pair.1) o))
        (find-drop nat_eq ps id count (find-new ps id new) ∙ sym (find-new ps id new))
        ∙ sym (payload_of-sessions_of ps id)

  -- a put adds no more than one
  pub length-with_last : (sessions : List (Session T)) (id weight : ℕ) (payload : T)
      → length (with_last sessions id weight payload) ≡ length (without sessions id) + 1
  length-with_last sessions id weight payload = length-append (without sessions id) ((id, weight, payload) ∷ [])

  -- there is room for as many as are left, and for no more if it was enough
  pub capacity-put : (is_new : Bool) {count : ℕ} (ps : List (ℕ × Weighted T)) (session : Session T) {old now : ℕ} → length ps ≤ old
      → IsDistinct nat_eq (keys_of ps) → is_some (session_of (sessions_of ps) session.0) ≡ not is_new
      → count ≤ length (without (sessions_of ps) session.0) → (count ≡ 0 → is_new ≡ true → now ≡ max old (length ps + 1))
      → ((count ≡ 0 → is_new ≡ false) → now ≡ old)
      → now ≡ max old (length (drop count (with_last (sessions_of ps) session.0 session.1 session.2)))
  capacity-put true {count = zero} ps session within distinct new enough raised same =
      let all = length-with_last (sessions_of ps) session.0 session.1 session.2 in
      let grown = raised refl refl in
      omega (arith, all, length-without_new ps session.0 new)
  capacity-put true {count = suc count} ps session within distinct new enough raised same =
      let all = length-with_last (sessions_of ps) session.0 session.1 session.2 in
      let stays = same (λ zero. absurd (omega (arith, zero))) in
      omega (
        arith,
        all,
        length-drop (suc count) (with_last (sessions_of ps) session.0 session.1 session.2),
        length-without_new ps session.0 new,
      )
  capacity-put false {count = count} ps session within distinct present enough raised same =
      let weighted : Weighted T = record { weight = session.1; payload = session.2 } in
      let found : IsSome (pairs.find nat_eq ps session.0) = sym (is_some-session_of ps session.0) ∙ present in
      let stays = same (λ zero. refl) in
      omega (
        arith,
        length-drop count (with_last (sessions_of ps) session.0 session.1 session.2),
        ap length (sessions_of-to_back ps session.0 weighted),
        length-sessions_of (pairs.to_back nat_eq ps session.0 weighted),
        length-to_back_present nat_eq_equiv ps session.0 weighted distinct found,
      )

  -- the new session stays, with those that fit beside it
  pub fit-with_last : (limit weight id : ℕ) (payload : T) (sessions left : List (Session T))
      → weight ≤ limit → left ≡ fit (limit - weight) (without sessions id)
      → left ++ (id, weight, payload) ∷ [] ≡ fit limit (with_last sessions id weight payload)
  fit-with_last limit weight id payload sessions left light fits = grind (arith, fit-append)

  -- and is the one of its id
  pub payload_of-put : (ps : List (ℕ × Weighted T)) (count id weight : ℕ) (payload : T)
      → payload_of (drop count (without (sessions_of ps) id) ++ (id, weight, payload) ∷ []) id ≡ Some payload
  payload_of-put ps count id weight payload =
      let left = drop count (pairs.without nat_eq ps id) in
      let none = find-drop nat_eq (pairs.without nat_eq ps id) id count (find-without_here nat_eq_equiv ps id) in
      let absent = none_is (session_of (sessions_of left) id) (is_some-session_of left id ∙ ap is_some none) in
      let same = sessions_of-drop count (pairs.without nat_eq ps id) ∙ ap (drop count) (sessions_of-without ps id) in
      ap (λ l. payload_of (l ++ (id, weight, payload) ∷ []) id) (sym same)
      ∙ ap (option_map (λ (session : Session T). session.2)) (session_of-append (sessions_of left) (id, weight, payload) absent)

  some_payload : (o : Option (Session T)) → is_some (option_map (λ (session : Session T). session.2) o) ≡ is_some o
  some_payload o = grind arith

  -- another session that stays has the payload that it had
  pub payload_of-stays : (ps : List (ℕ × Weighted T)) (count id other weight : ℕ) (payload : T) → IsDistinct nat_eq (keys_of ps)
      → nat_eq id other ≡ false → IsSome (payload_of (drop count (with_last (sessions_of ps) id weight payload)) other)
      → payload_of (drop count (with_last (sessions_of ps) id weight payload)) other ≡ payload_of (sessions_of ps) other
  payload_of-stays ps count id other weight payload distinct apart stays =
      let weighted : Weighted T = record { weight = weight; payload = payload } in
      let qs = pairs.to_back nat_eq ps id weighted in
      let as_pairs : drop count (with_last (sessions_of ps) id weight payload) ≡ sessions_of (drop count qs) =
      ap (drop count) (sym (sessions_of-to_back ps id weighted))
      ∙ sym (sessions_of-drop count qs) in
      let found : IsSome (pairs.find nat_eq (drop count qs) other) =
      sym (is_some-session_of (drop count qs) other)
      ∙ sym (some_payload (session_of (sessions_of (drop count qs)) other))
      ∙ ap (λ l. is_some (payload_of l other)) (sym as_pairs) ∙ stays in
      ap (λ l. payload_of l other) as_pairs
      ∙ payload_of-sessions_of (drop count qs) other
      ∙ ap (option_map (λ (w : Weighted T). w.payload))
      (ap (option_map (λ (pair : ℕ × Weighted T). pair.1)) (find-drop_present nat_eq_equiv qs other
      count (distinct-to_back nat_eq_equiv ps id weighted distinct) found)
      ∙ value_at-to_back_apart nat_eq_equiv ps id other weighted apart)
      ∙ sym (payload_of-sessions_of ps other)

  pub total_weight-put : (weight id : ℕ) (payload : T) (left : List (Session T))
      → total_weight (left ++ (id, weight, payload) ∷ []) ≡ total_weight left + weight
  total_weight-put weight id payload left = grind (arith, total_weight-append, total_weight-last)

  pub not-absent : (ps : List (ℕ × Weighted T)) (id : ℕ) → is_some (session_of (sessions_of ps) id) ≡ true → pairs.find nat_eq ps id ≡ None
      → false ≡ true
  not-absent ps id some none = ap is_some (sym none) ∙ sym (is_some-session_of ps id) ∙ some
