-- For callers: a pair that was put in and moved to the front, where the last pair may be taken out.
use Rattle.std.proofs.Common.{◌≡◌, ℕ, ◌-◌, ◌<◌, ◌≤◌, Option, Some, None, zero, suc, length, take, not, List, ◌∷◌, ◌++◌, filter, option_map}
use Rattle.std.proofs.Common.{option_to_list, cond, refl, ap, ◌∙◌, nat_eq, arith}
use Rattle.std.specs.{Cmp.nat_eq_equiv, Map.keys_of}
use Rattle.linked_hash_map.specs.Pairs.{find, value_at, without, without_last, to_front, put}
use Rattle.linked_hash_map.specs.{declared.map.Mode.Mode, Updates.Updates}
use Rattle.linked_hash_map.proofs.Callers.{NumberKeys.keys_of-put_to_front, Ends.take-keys_of, Lookups.eq-find}

-- the keys, as the first n of them, if there are no more
pub keys_of-front_few : {V : Type 0} (mode : Mode) (pairs : List (ℕ × V)) (k : ℕ) (v : V) (n : ℕ) {inserted moved : List (ℕ × V)}
    → inserted ≡ put nat_eq mode pairs k v → moved ≡ to_front nat_eq inserted k → length moved ≤ n
    → keys_of moved ≡ take n (k ∷ filter (λ j. not (nat_eq k j)) (keys_of pairs))
keys_of-front_few mode pairs k v n put_is moved_is few = grind (arith, take-keys_of, keys_of-put_to_front)

-- the value of the key, if another pair leaves at the back
pub value_at-front_kept : {V : Type 0} {pairs inserted moved after : List (ℕ × V)} (k : ℕ) {v : V}
    → Updates nat_eq pairs inserted k (Some v) → moved ≡ to_front nat_eq inserted k
    → after ≡ without_last moved → 1 < length moved → value_at nat_eq after k ≡ Some v
value_at-front_kept {V} {inserted = inserted} {moved} k {v} updates moved_is after_is more =
    ap (λ (ps : List (ℕ × V)). value_at nat_eq ps k) (after_is ∙ ap (take (length moved - 1)) moved_is)
    ∙ by_pair (find nat_eq inserted k) (length moved - 1) refl updates.here (omega arith)
  where
    by_pair : (o : Option (ℕ × V)) (n : ℕ) → find nat_eq inserted k ≡ o
        → option_map (λ (pair : ℕ × V). pair.1) o ≡ Some v → 0 < n
        → value_at nat_eq (take n (option_to_list o ++ without nat_eq inserted k)) k ≡ Some v
    by_pair None n is has some = absurd (let no : None ≡ Some v = has in cc)
    by_pair (Some pair) zero is has some = absurd (omega arith)
    by_pair (Some pair) (suc n) is has some =
        ap (λ b. option_map (λ (p : ℕ × V). p.1) (cond b (Some pair) (find nat_eq (take n (without nat_eq inserted k)) k)))
        (eq-find nat_eq_equiv inserted k pair is) ∙ has
