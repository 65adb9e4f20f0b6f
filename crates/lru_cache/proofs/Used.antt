-- The pair that is used is the last.
use Rattle.std.proofs.Common.{◌≡◌, Bool, true, List, ◌++◌, Option, Some, None, is_some, option_to_list, true≢false, sym}
use Rattle.linked_hash_map.specs.Pairs.{last, find, without, to_back_as_is}
use Rattle.linked_hash_map.proofs.Callers.{Lookups.last-append, Moves.to_back_as_is-absent}

pub last-to_back_as_is : {A K V : Type 0} (eq : A → K → Bool) (pairs : List (K × V)) (k : A)
    → is_some (find eq pairs k) ≡ true → last (to_back_as_is eq pairs k) ≡ find eq pairs k
last-to_back_as_is {K = K} {V} eq pairs k = by_pair (find eq pairs k)
  where
    by_pair : (o : Option (K × V)) → is_some o ≡ true → last (without eq pairs k ++ option_to_list o) ≡ o
    by_pair None none = absurd (true≢false (sym none))
    by_pair (Some pair) there = last-append (without eq pairs k) pair

pub ruleset used = (last-to_back_as_is, to_back_as_is-absent)
