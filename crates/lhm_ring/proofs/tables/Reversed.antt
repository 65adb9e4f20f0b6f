-- The nodes of a table, of which the first ones are reversed.
use Rattle.lhm_ring.proofs.Names.{Held, IsHeld, List, Option, PlaceAt, Ptr, Some, ap, append-nil, arith, drop-length, first_at, length}
use Rattle.lhm_ring.proofs.Names.{refl, reverse, reverse-append, slice_get, sym, take, take-length, to_front_at, ℕ, ◌++◌, ◌+◌, ◌∙◌, ◌∷◌}
use Rattle.lhm_ring.proofs.tables.Positions.{CutAt, IsAt-split, IsHeld-first_at, PlaceAt-first_at, cut_at, drop-from, first_at-drop}
use Rattle.lhm_ring.proofs.tables.Positions.{remove-append, slice_get-append, slice_get-at, slice_get-behind, take-through}
use Rattle.lhm_ring.{proofs.Names.◌≡◌, specs.Positions.IsAt}
use Rattle.std.proofs.Common.{drop}

module _ {B : Type 0} (hs : List (Held B)) where
  -- the first n of hs are reversed, and the others are behind them, from the pointer on
  pub record IsReversing (now : List (Held B)) (o : Option Ptr) (n : ℕ) : Type 0 where
    pub now_is : now ≡ reverse (take n hs) ++ drop n hs
    pub at_is : PlaceAt hs o n

  pub IsReversing-start : {o : Option Ptr} → o ≡ first_at hs → IsReversing hs o 0
  IsReversing-start e = record { now_is = refl; at_is = PlaceAt-first_at hs ∙ sym e }

  module _ {now : List (Held B)} {o : Option Ptr} {n : ℕ} (s : IsReversing now o n) where
    pub reversed-all : n ≡ length hs → now ≡ reverse hs
    reversed-all all = s.now_is ∙ (λ i. reverse (take (all i) hs) ++ drop (all i) hs)
        ∙ (λ i. reverse (take-length hs i) ++ drop-length hs i) ∙ append-nil (reverse hs)

    -- the next one
    module _ {p : Ptr} (found : o ≡ Some p) where
      abbrev next : CutAt hs p n
      next = cut_at hs n (s.at_is ∙ found)

      there : slice_get hs n ≡ Some next.held.node
      there = slice_get-at hs n (s.at_is ∙ found)

      cut : now ≡ reverse (take n hs) ++ next.held.node ∷ drop (n + 1) hs
      cut = s.now_is ∙ ap (λ zs. reverse (take n hs) ++ zs) (drop-from hs n there)

      pub IsHeld-next : IsHeld now p
      IsHeld-next = IsHeld-first_at (reverse (take n hs)) _ s.now_is (sym s.at_is ∙ sym (first_at-drop hs n)) found

      -- it goes to the front
      pub IsReversing-more : {new : List (Held B)} {behind : Option Ptr} → ((i : ℕ) → IsAt now p i → new ≡ to_front_at now i)
          → ((i : ℕ) → IsAt now p i → PlaceAt now behind (i + 1)) → IsReversing new behind (n + 1)
      IsReversing-more moved follows =
          let turned = reverse (take n hs) in let t = next.held.node in let rest = drop (n + 1) hs in let k = length turned in
          let at = IsAt-split turned t rest cut next.held.at_is in record {
            now_is = moved k at ∙ ap (λ zs. to_front_at zs k) cut
                ∙ (let through = take-through hs n there in grind (arith, slice_get-append, remove-append, reverse-append));
            at_is = sym (first_at-drop hs (n + 1)) ∙ sym (slice_get-behind turned t rest cut) ∙ follows k at;
          }
