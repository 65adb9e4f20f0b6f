-- The last n of a list, and insertions one after another.
use Rattle.std.proofs.Common.{◌≡◌, ℕ, suc, ◌-◌, ◌<◌, Bool, List, [], ◌∷◌, ◌++◌, length, drop, refl, arith}
use Rattle.lru_cache.specs.{Cache.newest, Cache.inserted, Extension.insert_each}

-- the first goes, if there are more than n
pub newest-drop : {X : Type 0} (n : ℕ) (xs : List X) → n < length xs → newest n (drop 1 xs) ≡ newest n xs
newest-drop n [] more = absurd (omega arith)
newest-drop n (x ∷ xs) more =
    let one : length (x ∷ xs) - n ≡ suc (length xs - n) = omega arith in rw one refl

pub insert_each-snoc : {K V : Type 0} (eq : K → K → Bool) (n : ℕ) (pairs items : List (K × V)) (item : K × V)
    → insert_each eq n pairs (items ++ item ∷ []) ≡ inserted eq n (insert_each eq n pairs items) item.0 item.1
insert_each-snoc eq n pairs [] item = refl
insert_each-snoc eq n pairs (other ∷ items) item =
    insert_each-snoc eq n (inserted eq n pairs other.0 other.1) items item

-- one pair less
pub ruleset newest_first = (newest-drop)

-- one insertion more
pub ruleset insertions = (insert_each-snoc)
