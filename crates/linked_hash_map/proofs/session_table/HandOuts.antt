-- The sessions that a closure is handed.
use Rattle.linked_hash_map.proofs.Names.{Bool, Global, List, Vec, [], add-one, ap, append-nil, append_assoc, arith, drop, false, length}
use Rattle.linked_hash_map.proofs.Names.{length-append, nat_le, refl, suc, sym, take, true, vec_capacity, zero, ℕ, ◌++◌, ◌+◌, ◌<◌, ◌∙◌, ◌∷◌}
use Rattle.linked_hash_map.proofs.Names.{◌≡◌, ◌≤◌, if◌then◌else◌, CallableWithEachSession, CalledWithSession, Session, fit, leaving}
use Rattle.linked_hash_map.proofs.Names.{total_weight, chained_keeps, MutBor, Takes, FoldsTo, Mut}

module _ {X : Type 0} where
  -- the first elements, and the one behind them
  pub take-next : (xs : List X) (n : ℕ) (x : X) (rest : List X) → drop n xs ≡ x ∷ rest → take (n + 1) xs ≡ take n xs ++ x ∷ []
  take-next xs n x rest is = ap (λ m. take m xs) (add-one n) ∙ take-suc xs n x rest is
    where
      take-suc : (xs : List X) (n : ℕ) (x : X) (rest : List X) → drop n xs ≡ x ∷ rest → take (suc n) xs ≡ take n xs ++ x ∷ []
      take-suc xs zero x rest is = ap (take 1) is
      take-suc [] (suc n) x rest is = absurd (omega (arith, ap length is))
      take-suc (y ∷ ys) (suc n) x rest is = ap (λ l. y ∷ l) (take-suc ys n x rest is)

  -- one of the first elements, and those before and behind it
  pub take-at : (xs : List X) (n count : ℕ) (x : X) (rest : List X) → n < count → drop n xs ≡ x ∷ rest
      → (after : List X) × (take count xs ≡ take n xs ++ x ∷ after)
  take-at xs n zero x rest below is = absurd (omega (arith, below))
  take-at xs zero (suc count) x rest below is = (take count rest, ap (take (suc count)) is)
  take-at [] (suc n) (suc count) x rest below is = absurd (omega (arith, ap length is))
  take-at (y ∷ ys) (suc n) (suc count) x rest below is = grind (arith, take-at ys n count x rest (omega (arith, below)) is)

module _ {T : Type 0} where
  -- those that go and those that fit are all
  pub leaving-fit : (limit : ℕ) (sessions : List (Session T)) → leaving limit sessions ++ fit limit sessions ≡ sessions
  leaving-fit limit [] = refl
  leaving-fit limit (session ∷ sessions) = by_test (nat_le (total_weight (session ∷ sessions)) limit) (leaving-fit limit sessions)
    where
      by_test : (b : Bool) → leaving limit sessions ++ fit limit sessions ≡ sessions
          → (if b then [] else session ∷ leaving limit sessions)
          ++ (if b then session ∷ sessions else fit limit sessions) ≡ session ∷ sessions
      by_test true rest = refl
      by_test false rest = ap (λ l. session ∷ l) rest

-- a closure that pushes each session that it is called with onto a vector that it borrows
module _ {F T : Type 0} (g : Mut F (ℕ × (ℕ × (T × Unit {0}))) (Unit {0})) (vec : F → MutBor (Vec (Session T) Global)) where
  -- these are pushed, in place
  pub record HasPushed (f : F) (sessions : List (Session T)) (f' : F) : Type 0 where
    pub items : (vec f').now.items ≡ (vec f).now.items ++ sessions
    pub capacity : vec_capacity (vec f').now ≡ vec_capacity (vec f).now
    pub same : (vec f').ghost_name ≡ (vec f).ghost_name

  module _ (pushes : (f : F) (session : Session T) (f' : F) → CalledWithSession g f session f' → HasPushed f (session ∷ []) f') where
    pub HasPushed-calls : (f : F) (sessions : List (Session T)) (f' : F) → FoldsTo (CalledWithSession g) f sessions f'
        → HasPushed f sessions f'
    HasPushed-calls f sessions f' calls = chained_keeps (CalledWithSession g) (HasPushed f)
        (λ some q session q' so_far call. let next = pushes q session q' call in record {
          items = next.items ∙ ap (λ l. l ++ session ∷ []) so_far.items ∙ append_assoc (vec f).now.items some (session ∷ []);
          capacity = next.capacity ∙ so_far.capacity;
          same = next.same ∙ so_far.same;
        }) sessions f f' (record { items = sym (append-nil (vec f).now.items); capacity = refl; same = refl }) calls

    -- it may be called with as many as there is room for
    pub callable-pushes : ((f : F) (session : Session T) → length (vec f).now.items < vec_capacity (vec f).now
        → Takes g f (session.0, (session.1, (session.2, tt))))
        → (f : F) (sessions : List (Session T)) → length (vec f).now.items + length sessions ≤ vec_capacity (vec f).now
        → CallableWithEachSession g f sessions
    callable-pushes takes f sessions room = grind (arith, HasPushed-calls, length-append)
