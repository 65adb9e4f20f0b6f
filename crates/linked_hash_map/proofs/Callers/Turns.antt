-- For callers: the first pair taken out and put back behind the others, and turns of this kind one
-- after another.
use Rattle.std.proofs.Common.{◌≡◌, ℕ, ◌+◌, ◌<◌, Bool, true, false, cond, List, [], ◌∷◌, ◌++◌, arith, length, take, drop, map, get_or}
use Rattle.std.proofs.Common.{append_assoc, subst, Option, Some, None, is_some, true≢false, refl, sym, ap, ap₂, ◌∙◌}
use Rattle.std.proofs.lemmas.List.{drop_more, take_more, map-append}
use Rattle.std.specs.{Option.option_or, List.IsDistinct, Map.keys_of, Cmp.IsEquivalence}
use Rattle.linked_hash_map.specs.{Pairs.find, Pairs.put, Pairs.first, Pairs.without_first, declared.map.Mode.Mode}
use Rattle.linked_hash_map.proofs.Callers.Lookups.{lookup_entry-append, find-same, find-without_here, drop-first}
use Rattle.linked_hash_map.proofs.Callers.Keys.{find-drop, put-absent}

-- a list with a first pair is that pair and the others, and so are its keys
cons-without_first : {X : Type 0} (xs : List X) (x : X) → first xs ≡ Some x → x ∷ without_first xs ≡ xs
cons-without_first xs x there = grind arith

pub cons-keys_of_first : {K V : Type 0} (pairs : List (K × V)) (pair : K × V)
    → first pairs ≡ Some pair → pair.0 ∷ keys_of (without_first pairs) ≡ keys_of pairs
cons-keys_of_first pairs pair there = ap keys_of (cons-without_first pairs pair there)

module _ {K V : Type 0} {eq : K → K → Bool} (laws : IsEquivalence eq) where
  -- if the keys differ, that of the first pair is not among the others
  pub find-others : (others : List (K × V)) (q : K) (pair : K × V)
      → IsDistinct eq (keys_of (pair ∷ others)) → eq q pair.0 ≡ true → find eq others q ≡ None
  find-others others q pair distinct same =
      find-same laws others q pair.0 same
      ∙ ap (λ ps. find eq ps pair.0) (drop-first laws (pair ∷ others) pair distinct refl)
      ∙ find-without_here laws (pair ∷ others) pair.0

  pub find-without_first : (pairs : List (K × V)) (pair : K × V) → IsDistinct eq (keys_of pairs)
      → first pairs ≡ Some pair → find eq (without_first pairs) pair.0 ≡ None
  find-without_first pairs pair distinct there =
      ap (λ ps. find eq ps pair.0) (drop-first laws pairs pair distinct there) ∙ find-without_here laws pairs pair.0

  -- so the first pair that is put back goes behind the others, in either mode
  pub put-without_first : (mode : Mode) (pairs : List (K × V)) (pair : K × V) (v : V) → IsDistinct eq (keys_of pairs)
      → first pairs ≡ Some pair → put eq mode (without_first pairs) pair.0 v ≡ without_first pairs ++ (pair.0, v) ∷ []
  put-without_first mode pairs pair v distinct there = grind (arith, put-absent, find-without_first)

-- after some turns of a renaming the first of the old pairs stand behind the others, the one of
-- `from` with `to` as its key; and while the pair of `from` is there, `to` is free
pub record IsRenaming {K V : Type 0} (eq : K → K → Bool) (old now : List (K × V)) (from to : K)
    (turns : ℕ) : Type 0 where
  pub list : now ≡ drop turns old
      ++ map (λ pair. cond (eq from pair.0) (to, pair.1) pair) (take turns old)
  pub free : is_some (find eq now from) ≡ true → find eq now to ≡ None

module _ {K V : Type 0} {eq : K → K → Bool} (laws : IsEquivalence eq) (from to : K) where
  -- the new name is free for the pair that takes it, and the old name is gone then
  free_turn : (pair : K × V) (rest : List (K × V)) → IsDistinct eq (keys_of (pair ∷ rest))
      → (is_some (find eq (pair ∷ rest) from) ≡ true → find eq (pair ∷ rest) to ≡ None)
      → (find eq rest (cond (eq from pair.0) to pair.0) ≡ None)
      × (is_some (find eq (rest ++ (cond (eq from pair.0) to pair.0, pair.1) ∷ []) from) ≡ true
      → find eq (rest ++ (cond (eq from pair.0) to pair.0, pair.1) ∷ []) to ≡ None)
  free_turn pair rest distinct free = by_test (eq from pair.0) refl free
    where
      other : (b : Bool) → eq to pair.0 ≡ b → find eq (pair ∷ rest) to ≡ None → b ≡ false
      other true same none = absurd (true≢false (ap is_some (ap (λ b. cond b (Some pair) (find eq rest to)) (sym same)) ∙ ap is_some none))
      other false apart none = refl

      at_new : (b : Bool) → eq from to ≡ b → eq from pair.0 ≡ true → find eq (pair ∷ rest) to ≡ None
          → is_some (option_or (find eq rest from) (cond b (Some (to, pair.1)) None)) ≡ true → ⊥
      at_new true alike same none found = true≢false (sym same ∙ laws.congr from to pair.0 alike ∙ other (eq to pair.0) refl none)
      at_new false apart same none found = true≢false (sym found
          ∙ ap (λ o. is_some (option_or o None)) (find-others laws rest from pair distinct same))

      by_test : (b : Bool) → eq from pair.0 ≡ b
          → (is_some (cond b (Some pair) (find eq rest from)) ≡ true
          → find eq (pair ∷ rest) to ≡ None)
          → (find eq rest (cond b to pair.0) ≡ None)
          × (is_some (find eq (rest ++ (cond b to pair.0, pair.1) ∷ []) from) ≡ true
          → find eq (rest ++ (cond b to pair.0, pair.1) ∷ []) to ≡ None)
      by_test true same free =
          let none = free refl in (
            find-drop eq (pair ∷ rest) to 1 none,
            λ found. absurd (at_new (eq from to) refl same none
                (sym (ap is_some (lookup_entry-append (eq from) rest ((to, pair.1) ∷ []))) ∙ found)),
          )
      by_test false apart free = (
        find-others laws rest pair.0 pair distinct (laws.refl pair.0),
        λ found.
            let none = free (here found) in
            lookup_entry-append (eq to) rest (pair ∷ [])
            ∙ ap₂ (λ o b. option_or o (cond b (Some pair) None)) (find-drop eq (pair ∷ rest) to 1 none) (other (eq to pair.0) refl none),
      )
        where
          or_none : (o : Option (K × V)) → option_or o None ≡ o
          or_none None = refl
          or_none (Some p) = refl

          here : is_some (find eq (rest ++ pair ∷ []) from) ≡ true → is_some (find eq rest from) ≡ true
          here found = sym (ap is_some (lookup_entry-append (eq from) rest (pair ∷ [])
              ∙ ap (λ b. option_or (find eq rest from) (cond b (Some pair) None)) apart
              ∙ or_none (find eq rest from))) ∙ found

  pair-turned : (pair : K × V) (b : Bool) → (cond b to pair.0, pair.1) ≡ cond b (to, pair.1) pair
  pair-turned pair b = grind arith

  list_turn : (old : List (K × V)) (turns : ℕ) (pair : K × V) (rest : List (K × V)) → turns < length old
      → pair ∷ rest ≡ drop turns old ++ map (λ p. cond (eq from p.0) (to, p.1) p) (take turns old)
      → rest ++ (cond (eq from pair.0) to pair.0, pair.1) ∷ []
      ≡ drop (turns + 1) old ++ map (λ p. cond (eq from p.0) (to, p.1) p) (take (turns + 1) old)
  list_turn old turns pair rest within is =
      let change = λ (p : K × V). cond (eq from p.0) (to, p.1) p in
      let split : pair ∷ rest ≡ get_or old turns pair ∷ (drop (turns + 1) old ++ map change (take turns old)) =
      is ∙ ap (λ xs. xs ++ map change (take turns old)) (drop_more old turns pair within) in
      let own : pair ≡ get_or old turns pair = cc in
      let others : rest ≡ drop (turns + 1) old ++ map change (take turns old) = cc in
      ap₂ (λ xs p. xs ++ p ∷ []) others (pair-turned pair (eq from pair.0) ∙ ap change own)
      ∙ append_assoc (drop (turns + 1) old) (map change (take turns old)) (change (get_or old turns pair) ∷ [])
      ∙ ap (λ xs. drop (turns + 1) old ++ xs)
      (sym (ap (map change) (take_more old turns pair within)
      ∙ map-append change (take turns old) (get_or old turns pair ∷ [])))

module _ {K V : Type 0} {eq : K → K → Bool} (laws : IsEquivalence eq)
    {old now : List (K × V)} {from to : K} {pair : K × V} {turns : ℕ}
    (w : IsRenaming eq old now from to turns)
    (distinct : IsDistinct eq (keys_of now)) (there : first now ≡ Some pair) where
  -- the name that the first pair takes is free among the others
  find-renamed : find eq (without_first now) (cond (eq from pair.0) to pair.0) ≡ None
  find-renamed = grind (arith, free_turn)

  IsRenaming-pushed : (after : List (K × V)) → turns < length old
      → after ≡ without_first now ++ (cond (eq from pair.0) to pair.0, pair.1) ∷ [] → IsRenaming eq old after from to (turns + 1)
  IsRenaming-pushed after within done = by_list now distinct there w.list w.free done
    where
      by_list : (contents : List (K × V)) → IsDistinct eq (keys_of contents) → first contents ≡ Some pair
          → contents ≡ drop turns old ++ map (λ p. cond (eq from p.0) (to, p.1) p) (take turns old)
          → (is_some (find eq contents from) ≡ true → find eq contents to ≡ None)
          → after ≡ without_first contents ++ (cond (eq from pair.0) to pair.0, pair.1) ∷ [] → IsRenaming eq old after from to (turns + 1)
      by_list [] distinct there list free done = absurd (let no : Some pair ≡ None = sym there in cc)
      by_list (one ∷ rest) distinct there list free done =
          let same : one ≡ pair = (let some : Some one ≡ Some pair = there in cc) in
          let turned = free_turn laws from to pair rest (subst (λ (p : K × V). IsDistinct eq (keys_of (p ∷ rest))) same distinct)
          (subst (λ (p : K × V). is_some (find eq (p ∷ rest) from) ≡ true → find eq (p ∷ rest) to ≡ None) same free) in
          record {
            list = done ∙ list_turn laws from to old turns pair rest within (ap (λ (p : K × V). p ∷ rest) (sym same) ∙ list);
            free = subst (λ ps. is_some (find eq ps from) ≡ true → find eq ps to ≡ None) (sym done) turned.1;
          }

-- one turn: the first pair goes behind the others, under the new name if it has the old one
module _ {K V : Type 0} {eq : K → K → Bool} (laws : IsEquivalence eq) (mode : Mode) where
  pub IsRenaming-turn : (old now : List (K × V)) {rest after : List (K × V)} (from to : K) {name : K} (pair : K × V) (turns : ℕ)
      → IsRenaming eq old now from to turns → IsDistinct eq (keys_of now) → first now ≡ Some pair → turns < length old
      → rest ≡ without_first now → name ≡ cond (eq from pair.0) to pair.0 → after ≡ put eq mode rest name pair.1
      → IsRenaming eq old after from to (turns + 1)
  IsRenaming-turn old now {rest} {after} from to {name} pair turns w distinct there within popped named inserted =
      IsRenaming-pushed laws w distinct there after within
      (inserted ∙ (λ i. put eq mode (popped i) (named i) pair.1)
      ∙ put-absent eq mode (without_first now) (cond (eq from pair.0) to pair.0) pair.1
      (find-renamed laws w distinct there))

-- the first pair put back, behind the others
pub ruleset turns = (put-without_first)
