-- The definitions, computed on short logs.
use Rattle.linked_hash_map.proofs.Names.{Bool, List, None, Some, [], arith, eqb as nat_eq, false, refl, ℕ, ◌%◌, ◌∷◌, ◌≡◌, IsAllowed}
use Rattle.linked_hash_map.proofs.Names.{effects, Fit, Log, Need, Put, Refresh, Remove, RemoveAll, SetMode, Write, high, live, mode}
use Rattle.linked_hash_map.proofs.Names.{pair_of, pairs, size, standing, standing_in, stored, value, find, set_value, to_back, value_at}
use Rattle.linked_hash_map.proofs.Names.{without, IsRun, last_log, Keep, Touch, Absent, Done, Missing, New, Old, Pair, Pairs, Refused}
use Rattle.linked_hash_map.proofs.Names.{Stopped, Command, Extend, Insert, PopBack, Reserve, Reply}
use Rattle.linked_hash_map.specs.declared.replay.Command.TheVariants.{Drain}
use Rattle.linked_hash_map.specs.declared.replay.Command.TheVariants as command

-- numbers are the same key if they end in the same digit
same_digit : ℕ → ℕ → Bool
same_digit j k = nat_eq (j % 10) (k % 10)

-- insert 1 10, insert 2 20, insert 1 11
again : Log ℕ ℕ
again = Put 1 10 ∷ Put 2 20 ∷ Put 1 11 ∷ []

again-standing : standing nat_eq again ≡ 2 ∷ 1 ∷ []
unfolding again mode live standing_in standing
again-standing = refl

again-pairs : pairs nat_eq again ≡ (2, 20) ∷ (1, 11) ∷ []
unfolding again mode live stored value standing_in standing pair_of pairs
again-pairs = refl

again-size : size nat_eq again ≡ 2
unfolding again mode live standing_in standing size
again-size = refl

-- insert 1 1, insert 2 2, insert 3 3, remove 2, insert 4 4
removed : Log ℕ ℕ
removed = Put 1 1 ∷ Put 2 2 ∷ Put 3 3 ∷ Remove 2 ∷ Put 4 4 ∷ []

removed-live : live (nat_eq 2) removed ≡ false
unfolding removed mode live
removed-live = refl

removed-pairs : pairs nat_eq removed ≡ (1, 1) ∷ (3, 3) ∷ (4, 4) ∷ []
unfolding removed mode live stored value standing_in standing pair_of pairs
removed-pairs = refl

removed-high : high nat_eq 0 removed ≡ 3
unfolding removed mode live standing_in standing size high
removed-high = refl

-- the stored key is that of the first Put, the value that of the last, and a removal ends both
stored-first : stored {V = ℕ} (same_digit 1) (Put 1 1 ∷ Put 11 2 ∷ []) ≡ Some 1
unfolding same_digit stored
stored-first = refl

value-last : value {V = ℕ} (same_digit 1) (Put 1 1 ∷ Put 11 2 ∷ []) ≡ Some 2
unfolding same_digit value
value-last = refl

stored-after_removal : pairs {V = ℕ} same_digit (Put 1 1 ∷ Put 11 2 ∷ Remove 21 ∷ Put 11 3 ∷ []) ≡ (11, 3) ∷ []
unfolding same_digit mode live stored value standing_in standing pair_of pairs
stored-after_removal = refl

-- a Write keeps the place, a Refresh moves the pair to the back, a removal of all ends each key
written-pairs : pairs {V = ℕ} nat_eq (Put 1 10 ∷ Put 2 20 ∷ Write 1 5 ∷ []) ≡ (1, 5) ∷ (2, 20) ∷ []
unfolding mode live stored value standing_in standing pair_of pairs
written-pairs = refl

refreshed-pairs : pairs {V = ℕ} nat_eq (Put 1 1 ∷ Put 2 2 ∷ Put 3 3 ∷ Refresh 2 ∷ []) ≡ (1, 1) ∷ (3, 3) ∷ (2, 2) ∷ []
unfolding mode live stored value standing_in standing pair_of pairs
refreshed-pairs = refl

cleared-pairs : pairs {V = ℕ} nat_eq (Put 1 1 ∷ Put 2 2 ∷ RemoveAll ∷ Put 3 3 ∷ []) ≡ (3, 3) ∷ []
unfolding mode live stored value standing_in standing pair_of pairs
cleared-pairs = refl

-- a Need raises the high-water mark, a Fit brings it down to the size
needed-high : high {V = ℕ} nat_eq 0 (Need 2 ∷ Put 1 1 ∷ Put 2 2 ∷ Need 3 ∷ Remove 1 ∷ []) ≡ 3
unfolding mode live standing_in standing size high
needed-high = refl

fitted-high : high {V = ℕ} nat_eq 9 (Put 1 1 ∷ Put 2 2 ∷ Need 7 ∷ Remove 1 ∷ Fit ∷ []) ≡ 1
unfolding mode live standing_in standing size high
fitted-high = refl

after_fit-high : high {V = ℕ} nat_eq 9 (Put 1 1 ∷ Fit ∷ Put 2 2 ∷ Put 3 3 ∷ Remove 3 ∷ []) ≡ 3
unfolding mode live standing_in standing size high
after_fit-high = refl

-- single calls on [(1, 10), (2, 20)]
two : List (ℕ × ℕ)
two = (1, 10) ∷ (2, 20) ∷ []

two-find : find same_digit two 12 ≡ Some (2, 20)
unfolding same_digit two
two-find = refl

two-value_at : value_at nat_eq two 3 ≡ None
unfolding two
two-value_at = refl

two-without : without nat_eq two 1 ≡ (2, 20) ∷ []
unfolding two
two-without = refl

two-to_back : to_back same_digit two 11 5 ≡ (2, 20) ∷ (1, 5) ∷ []
unfolding same_digit two
two-to_back = refl

two-set_value : set_value nat_eq two 1 7 ≡ (1, 7) ∷ (2, 20) ∷ []
unfolding two
two-set_value = refl

-- what answers add to the log
extend-effects : effects {K = ℕ} {V = ℕ} 1 (Extend ((2, 2) ∷ (1, 3) ∷ [])) Done ≡ Put 2 2 ∷ Put 1 3 ∷ []
extend-effects = refl

stopped-effects : effects {K = ℕ} {V = ℕ} 0 (Extend ((1, 10) ∷ (1, 11) ∷ (2, 20) ∷ (3, 30) ∷ []))
    (Stopped 2 2 20) ≡ Put 1 10 ∷ Put 1 11 ∷ []
stopped-effects = refl

reserve-effects : effects {K = ℕ} {V = ℕ} 2 (Reserve 5) Done ≡ Need 7 ∷ []
reserve-effects = refl

refused-effects : effects {K = ℕ} {V = ℕ} 1 (Insert 2 20) (Refused 2 20) ≡ []
refused-effects = refl

-- what a log allows: the second pair of an extension at capacity 1 is refused
stopped-allowed : IsAllowed {V = ℕ} nat_eq 1 [] (Extend ((1, 10) ∷ (1, 11) ∷ (2, 20) ∷ [])) (Stopped 2 2 20)
unfolding mode live standing_in standing size high
stopped-allowed = record { answers = (refl, (refl, refl)); limit = omega arith }

drained-allowed : IsAllowed {V = ℕ} nat_eq 0 (Put 1 1 ∷ Put 2 2 ∷ []) Drain (Pairs ((1, 1) ∷ (2, 2) ∷ []))
unfolding mode live stored value standing_in standing pair_of pairs size high
drained-allowed = record { answers = refl; limit = omega arith }

popped-allowed : IsAllowed {V = ℕ} nat_eq 0 (Put 1 1 ∷ Put 2 2 ∷ []) PopBack (Pair 2 2)
unfolding mode live stored value standing_in standing pair_of pairs size high
popped-allowed = record { answers = refl; limit = omega arith }

written_absent-allowed : IsAllowed {V = ℕ} nat_eq 0 [] (command.Write 9 0) (Absent 9 0)
unfolding mode live standing_in standing size high
written_absent-allowed = record { answers = (refl, refl, refl); limit = omega arith }

-- remove 1, insert 1 5, remove 1: the replies and the last log
commands : List (Command ℕ ℕ)
commands = command.Remove 1 ∷ Insert 1 5 ∷ command.Remove 1 ∷ []

replies : List (Reply ℕ ℕ)
replies =
    record { answer = Missing; len = 0; capacity = 0 }
    ∷ record { answer = New; len = 1; capacity = 1 }
    ∷ record { answer = Old 5; len = 0; capacity = 1 }
    ∷ []

commands-run : IsRun nat_eq 0 [] commands replies
unfolding commands replies mode live value standing_in standing size high
commands-run = (
  record { allowed = record { answers = refl; limit = omega arith }; len = refl; capacity = refl },
  (
    record { allowed = record { answers = refl; limit = omega arith }; len = refl; capacity = refl },
    (record { allowed = record { answers = (refl, refl); limit = omega arith }; len = refl; capacity = refl }, tt),
  ),
)

commands-last_log : last_log nat_eq [] commands replies ≡ Put 1 5 ∷ Remove 1 ∷ []
unfolding commands replies mode live standing_in standing size
commands-last_log = refl

-- mode keep, insert 1 10, insert 2 20, insert 1 11: the pair of 1 stays in its place
in_keep : Log ℕ ℕ
in_keep = SetMode Keep ∷ Put 1 10 ∷ Put 2 20 ∷ Put 1 11 ∷ []

in_keep-pairs : pairs nat_eq in_keep ≡ (1, 11) ∷ (2, 20) ∷ []
unfolding in_keep mode live stored value standing_in standing pair_of pairs
in_keep-pairs = refl

-- and then refresh 1: it moves
in_keep-refreshed : pairs {V = ℕ} nat_eq (SetMode Keep ∷ Put 1 10 ∷ Put 2 20 ∷ Put 1 11 ∷ Refresh 1 ∷ []) ≡ (2, 20) ∷ (1, 11) ∷ []
unfolding mode live stored value standing_in standing pair_of pairs
in_keep-refreshed = refl

-- a key that was removed goes to the back in Keep too
in_keep-removed : pairs {V = ℕ} nat_eq (SetMode Keep ∷ Put 1 1 ∷ Put 2 2 ∷ Remove 1 ∷ Put 1 3 ∷ []) ≡ (2, 2) ∷ (1, 3) ∷ []
unfolding mode live stored value standing_in standing pair_of pairs
in_keep-removed = refl

-- each position has the mode of the last SetMode before it
in_keep-touched : pairs {V = ℕ} nat_eq
    (Put 1 1 ∷ Put 2 2 ∷ SetMode Keep ∷ Put 1 5 ∷ Put 2 9 ∷ Put 3 3 ∷ SetMode Touch ∷ Put 1 6 ∷ [])
    ≡ (2, 9) ∷ (3, 3) ∷ (1, 6) ∷ []
unfolding mode live stored value standing_in standing pair_of pairs
in_keep-touched = refl
