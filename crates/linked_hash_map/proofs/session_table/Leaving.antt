-- The loop past the sessions that go.
use Rattle.linked_hash_map.proofs.Names.{List, ap, arith, cond, drop, length, ne_eqb, not, sym, ℕ, ◌+◌, ◌-◌, ◌<◌, ◌∙◌, ◌∷◌, ◌≡◌, ◌≤◌}
use Rattle.linked_hash_map.proofs.Names.{AreLeaving, Session, fit, total_weight, drop-drop, count_by-le-length, length-filter}
use Rattle.linked_hash_map.proofs.session_table.Lists.{fit-all, fit-more, total_weight-cons}
use Rattle.linked_hash_map.specs.SessionTables.{without}

module _ {T : Type 0} (id weight_left : ℕ) (all : List (Session T)) where
  -- count of the sessions except that with the id were passed, all of which go; the rest are to
  -- come, and weigh so much
  pub record IsPast (count weight : ℕ) (rest : List (Session T)) : Type 0 where
    pub left : drop count (without all id) ≡ without rest id
    pub weighs : weight ≡ total_weight (without rest id)
    pub goes : fit weight_left (without all id) ≡ fit weight_left (without rest id)
    pub counted : count + length (without rest id) ≡ length (without all id)

  module _ {count weight : ℕ} where
    -- while too much is left, the next one goes
    pub IsPast-more : (session : Session T) (rest : List (Session T)) → IsPast count weight (session ∷ rest) → (id ≡ session.0 → ⊥)
        → weight_left < weight → IsPast (count + 1) (weight - session.1) rest
    IsPast-more session rest past other heavy =
        let same : without (session ∷ rest) id ≡ session ∷ without rest id =
        ap (λ b. cond (not b) (session ∷ without rest id) (without rest id))
        (ne_eqb id session.0 other) in
        let sum = total_weight-cons session (without rest id) in
        let weighs = past.weighs ∙ ap total_weight same in
        record {
          left = sym (drop-drop 1 count (without all id)) ∙ ap (drop 1) (past.left ∙ same);
          weighs = omega arith;
          goes = past.goes ∙ ap (fit weight_left) same ∙ fit-more weight_left session (without rest id) (omega arith);
          counted = omega (arith, past.counted, ap length same);
        }

    -- no more than there are
    pub few-past : (rest : List (Session T)) → IsPast count weight rest → count ≤ length all
    few-past rest past = grind (arith, length-filter, count_by-le-length)

    -- once they fit, all that are left stay
    pub AreLeaving-past : (rest : List (Session T)) → IsPast count weight rest → weight ≤ weight_left
        → AreLeaving all id weight_left count weight
    AreLeaving-past rest past light = grind (arith, fit-all)
