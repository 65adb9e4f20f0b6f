-- For callers: turns, each of which takes the first pair and puts it behind the others.
use Rattle.std.proofs.Common.{◌≡◌, ℕ, ◌+◌, ◌<◌, List, [], ◌∷◌, ◌++◌, length, take, drop, map, get_or, append_assoc, append-nil, refl, sym}
use Rattle.std.proofs.Common.{ap, ap₂, ◌∙◌, Some, arith, length-append, length-drop}
use Rattle.std.proofs.lemmas.List.{drop_more, take_more, drop_all, take_all, map-append}
use Rattle.linked_hash_map.specs.Pairs.{first, without_first}

-- after some turns the first of the old pairs stand behind the others, changed
pub record IsTurned {X : Type 0} (change : X → X) (old now : List X) (turns : ℕ) : Type 0 where
  pub list : now ≡ drop turns old ++ map change (take turns old)

module _ {X : Type 0} (change : X → X) (old : List X) where
  pub IsTurned-start : IsTurned change old old 0
  IsTurned-start = record { list = sym (append-nil old) }

  turn_list : (turns : ℕ) (x : X) (rest : List X) → turns < length old → x ∷ rest ≡ drop turns old ++ map change (take turns old)
      → rest ++ change x ∷ [] ≡ drop (turns + 1) old ++ map change (take (turns + 1) old)
  turn_list turns x rest within is =
      let split : x ∷ rest ≡ get_or old turns x ∷ (drop (turns + 1) old ++ map change (take turns old)) =
      is ∙ ap (λ xs. xs ++ map change (take turns old)) (drop_more old turns x within) in
      let own : x ≡ get_or old turns x = cc in
      let others : rest ≡ drop (turns + 1) old ++ map change (take turns old) = cc in
      ap₂ (λ xs p. xs ++ p ∷ []) others (ap change own)
      ∙ append_assoc (drop (turns + 1) old) (map change (take turns old)) (change (get_or old turns x) ∷ [])
      ∙ ap (λ xs. drop (turns + 1) old ++ xs)
      (sym (ap (map change) (take_more old turns x within)
      ∙ map-append change (take turns old) (get_or old turns x ∷ [])))

-- one turn, and once each pair had its turn
module _ {X : Type 0} {change : X → X} {old now : List X} {turns : ℕ} (w : IsTurned change old now turns) where
  pub IsTurned-turn : {after : List X} → turns < length old → ((x : X) → first now ≡ Some x → after ≡ without_first now ++ change x ∷ [])
      → IsTurned change old after (turns + 1)
  IsTurned-turn {after} within turned = by_list now w.list turned
    where
      by_list : (xs : List X) → xs ≡ drop turns old ++ map change (take turns old)
          → ((x : X) → first xs ≡ Some x → after ≡ without_first xs ++ change x ∷ [])
          → IsTurned change old after (turns + 1)
      by_list [] is turned =
          let none = ap length is in let left = length-drop turns old in
          let both = length-append (drop turns old) (map change (take turns old)) in
          absurd (omega arith)
      by_list (x ∷ rest) is turned = record { list = turned x refl ∙ turn_list change old turns x rest within is }

  pub IsTurned-round : turns ≡ length old → now ≡ map change old
  IsTurned-round all = w.list ∙ ap₂ (λ xs ys. xs ++ map change ys) (drop_all turns old (omega arith)) (take_all turns old (omega arith))

-- turns, one after another, until each pair had its turn
pub ruleset rounds = (IsTurned-start, IsTurned-turn, IsTurned-round)
