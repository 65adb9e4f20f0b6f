-- For callers: what `append` leaves of two maps, whose keys differ in each.
use Rattle.std.proofs.Common.{◌≡◌, ℕ, zero, suc, ◌+◌, ◌≤◌, Bool, true, false, cond, not, List, [], ◌∷◌, length, take, slice_get, count_by}
use Rattle.std.proofs.Common.{Some, None, is_some, refl, sym, ap, ap₂, ◌∙◌, arith}
use Rattle.std.proofs.lemmas.Map.Keys.{IsDistinct-head, IsDistinct-tail}
use Rattle.std.specs.{Cmp.IsEquivalence, List.IsDistinct, List.AllByRecursion, Map.keys_of}
use Rattle.lhm_ring.proofs.lists.{Options.Some-injective, Options.none_some, RearrangedCounts.count_by-cons}
use Rattle.linked_hash_map.specs.{declared.map.Mode.Mode, Pairs.key_or, Pairs.find, Pairs.put, Inserts.insert_each}
use Rattle.linked_hash_map.proofs.pairs.{Calls.length-put, Inserts.distinct-put, Inserts.length-insert_each_least}
use Rattle.linked_hash_map.proofs.Callers.Lookups.{find-put}

module _ {K V : Type 0} {eq : K → K → Bool} (laws : IsEquivalence eq) (mode : Mode) where
  -- a key is not that of a pair
  abbrev is_absent : List (K × V) → K → Bool
  is_absent pairs k = not (is_some (find eq pairs k))

  -- as many of some keys, which are not k, are absent after an insertion of k as before
  count_by-put : (pairs : List (K × V)) (k : K) (v : V) (ks : List K) → AllByRecursion (λ j. eq k j ≡ false) ks
      → count_by (is_absent (put eq mode pairs k v)) ks ≡ count_by (is_absent pairs) ks
  count_by-put pairs k v [] apart = refl
  count_by-put pairs k v (j ∷ ks) apart =
      count_by-cons (is_absent (put eq mode pairs k v)) j ks
      ∙ ap₂ (λ b n. cond b 1 0 + n)
      (ap (λ o. not (is_some o)) (find-put laws mode pairs k j v
      ∙ ap (λ b. cond b (Some (key_or k (find eq pairs k), v)) (find eq pairs j)) apart.0))
      (count_by-put pairs k v ks apart.1)
      ∙ sym (count_by-cons (is_absent pairs) j ks)

  -- items with keys that differ add one pair for each key that is absent
  pub length-insert_each_distinct : (pairs items : List (K × V)) → IsDistinct eq (keys_of pairs) → IsDistinct eq (keys_of items)
      → length (insert_each eq mode pairs items) ≡ length pairs + count_by (λ k. not (is_some (find eq pairs k))) (keys_of items)
  length-insert_each_distinct pairs [] distinct differ = omega arith
  length-insert_each_distinct pairs (item ∷ items) distinct differ =
      let put_one = put eq mode pairs item.0 item.1 in
      let rest = length-insert_each_distinct put_one items
      (distinct-put laws mode pairs item.0 item.1 distinct)
      (IsDistinct-tail eq item.0 (keys_of items) differ) in
      let others = count_by-put pairs item.0 item.1 (keys_of items)
      (IsDistinct-head eq item.0 (keys_of items) differ) in
      let counted = count_by-cons (is_absent pairs) item.0 (keys_of items) in
      by_found (is_some (find eq pairs item.0)) (length-put laws mode pairs item.0 item.1 distinct)
      (omega (arith, counted, others, rest))
    where
      by_found : (b : Bool)
          → length (put eq mode pairs item.0 item.1) ≡ cond b (length pairs) (length pairs + 1)
          → (length (insert_each eq mode (put eq mode pairs item.0 item.1) items)
          + cond (not b) 1 0
          ≡ length (put eq mode pairs item.0 item.1)
          + count_by (λ k. not (is_some (find eq pairs k))) (keys_of (item ∷ items)))
          → length (insert_each eq mode (put eq mode pairs item.0 item.1) items)
          ≡ length pairs + count_by (λ k. not (is_some (find eq pairs k))) (keys_of (item ∷ items))
      by_found true one all = omega arith
      by_found false one all = omega arith

  -- if the key of the item after the first n is absent once these went in, all items together leave
  -- more pairs
  pub length-insert_each_next : (pairs items : List (K × V)) (k : K) (v : V) (n : ℕ) → IsDistinct eq (keys_of pairs)
      → slice_get items n ≡ Some (k, v) → find eq (insert_each eq mode pairs (take n items)) k ≡ None
      → length (insert_each eq mode pairs (take n items)) + 1 ≤ length (insert_each eq mode pairs items)
  length-insert_each_next pairs [] k v zero distinct there absent = absurd (none_some (k, v) there)
  length-insert_each_next pairs [] k v (suc n) distinct there absent = absurd (none_some (k, v) there)
  length-insert_each_next pairs (item ∷ items) k v zero distinct there absent =
      grind (arith, Some-injective, length-put, length-insert_each_least, distinct-put)
  length-insert_each_next pairs (item ∷ items) k v (suc n) distinct there absent =
      length-insert_each_next (put eq mode pairs item.0 item.1) items k v n
      (distinct-put laws mode pairs item.0 item.1 distinct) there absent
