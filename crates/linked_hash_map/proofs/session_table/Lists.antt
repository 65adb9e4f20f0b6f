-- Lists of sessions: sums of weights, and the longest end that fits.
use Rattle.std.proofs.Common.{◌≡◌, ℕ, ◌+◌, ◌-◌, ◌<◌, ◌≤◌, Bool, true, false, cond, not, List, [], ◌∷◌, ◌++◌, length, drop, nat_eq, Some}
use Rattle.std.proofs.Common.{None, option_map, eq-eqb, refl, sym, ap, ◌∙◌, subst, arith, length-append}
use Rattle.std.proofs.lemmas.Bool.{eqb-true, le-leb, lt-leb, leb-true, leb-false}
use Rattle.std.proofs.lemmas.List.{Folds.find-append, Sums.sum_by-cons, Sums.sum_by-append}
use Rattle.std.specs.{Prelude.nat_le, Prelude.if◌then◌else◌, Prelude.unwrap_or, List.IsDistinct, List.AllByRecursion}
use Rattle.linked_hash_map.specs.SessionTables.{Session, ids_of, total_weight, session_of, weight_of, without, with_last, fit, IsEnd}
use Rattle.linked_hash_map.specs.{Pairs.last, SessionTables.IsLongestEnd}

module _ {T : Type 0} where
  pub total_weight-cons : (session : Session T) (sessions : List (Session T))
      → total_weight (session ∷ sessions) ≡ session.1 + total_weight sessions
  total_weight-cons session sessions = sum_by-cons (λ (s : Session T). s.1) session sessions

  pub total_weight-append : (some others : List (Session T)) → total_weight (some ++ others) ≡ total_weight some + total_weight others
  total_weight-append some others = sum_by-append (λ (s : Session T). s.1) some others

  pub total_weight-last : (session : Session T) → total_weight (session ∷ []) ≡ session.1
  total_weight-last session = let sum = total_weight-cons session [] in omega arith

  pub total_weight-with_last : (sessions : List (Session T)) (id weight : ℕ) (payload : T)
      → total_weight (with_last sessions id weight payload) ≡ total_weight (without sessions id) + weight
  total_weight-with_last sessions id weight payload = grind (arith, total_weight-append, total_weight-last)

  -- a session behind the others is the one of its id, if no other has it
  pub session_of-append : (sessions : List (Session T)) (session : Session T) → session_of sessions session.0 ≡ None
      → session_of (sessions ++ session ∷ []) session.0 ≡ Some session
  session_of-append sessions session none = grind (arith, find-append, eq-eqb)

  -- an id that is not there takes none away
  pub without-absent : (sessions : List (Session T)) (id : ℕ) → session_of sessions id ≡ None → without sessions id ≡ sessions
  without-absent [] id none = refl
  without-absent (session ∷ sessions) id none = grind (arith, without-absent sessions id)

  -- the longest end that fits: all, if all fit, and else that of the others
  pub fit-all : (limit : ℕ) (sessions : List (Session T)) → total_weight sessions ≤ limit → fit limit sessions ≡ sessions
  fit-all limit [] fits = refl
  fit-all limit (session ∷ sessions) fits =
      ap (λ b. if b then session ∷ sessions else fit limit sessions) (le-leb (total_weight (session ∷ sessions)) limit fits)

  pub fit-more : (limit : ℕ) (session : Session T) (sessions : List (Session T)) → limit < total_weight (session ∷ sessions)
      → fit limit (session ∷ sessions) ≡ fit limit sessions
  fit-more limit session sessions heavy = grind (arith, lt-leb)

  -- a last one that is within the limit stays, with what fits beside it
  pub fit-append : (limit : ℕ) (sessions : List (Session T)) (last : Session T) → last.1 ≤ limit
      → fit limit (sessions ++ last ∷ []) ≡ fit (limit - last.1) sessions ++ last ∷ []
  fit-append limit [] last light = let sum = total_weight-last last in fit-all limit (last ∷ []) (omega arith)
  fit-append limit (session ∷ sessions) last light =
      by_test (nat_le (total_weight (session ∷ sessions)) (limit - last.1)) refl
      (fit-append limit sessions last light)
    where
      by_test : (b : Bool) → nat_le (total_weight (session ∷ sessions)) (limit - last.1) ≡ b
          → fit limit (sessions ++ last ∷ []) ≡ fit (limit - last.1) sessions ++ last ∷ []
          → fit limit (session ∷ (sessions ++ last ∷ [])) ≡ (if b then session ∷ sessions else fit (limit - last.1) sessions) ++ last ∷ []
      by_test true within rest =
          let few = leb-true (total_weight (session ∷ sessions)) (limit - last.1) within in
          let one = total_weight-last last in
          let sum = total_weight-append (session ∷ sessions) (last ∷ []) in
          fit-all limit (session ∷ (sessions ++ last ∷ [])) (omega arith)
      by_test false above rest =
          let many = leb-false (total_weight (session ∷ sessions)) (limit - last.1) above in
          let one = total_weight-last last in
          let sum = total_weight-append (session ∷ sessions) (last ∷ []) in
          fit-more limit session (sessions ++ last ∷ []) (omega arith) ∙ rest

  -- what fits is an end, and fits
  longer_before : (session : Session T) (sessions end : List (Session T)) → IsEnd sessions end → IsEnd (session ∷ sessions) end
  longer_before session sessions end is = (session ∷ is.0, ap (λ l. session ∷ l) is.1)

  pub IsEnd-fit : (limit : ℕ) (sessions : List (Session T)) → IsEnd sessions (fit limit sessions)
  IsEnd-fit limit [] = ([], refl)
  IsEnd-fit limit (session ∷ sessions) = by_test (nat_le (total_weight (session ∷ sessions)) limit) (IsEnd-fit limit sessions)
    where
      by_test : (b : Bool) → IsEnd sessions (fit limit sessions)
          → IsEnd (session ∷ sessions) (if b then session ∷ sessions else fit limit sessions)
      by_test true rest = ([], refl)
      by_test false rest = longer_before session sessions (fit limit sessions) rest

  pub total_weight-fit : (limit : ℕ) (sessions : List (Session T)) → total_weight (fit limit sessions) ≤ limit
  total_weight-fit limit [] = omega arith
  total_weight-fit limit (session ∷ sessions) = grind (arith, total_weight-fit limit sessions)

  -- an end that is shorter than all of the list is an end of what is behind the first
  end_behind : (session : Session T) (sessions end before : List (Session T))
      → before ++ end ≡ session ∷ sessions → length end ≤ length sessions → IsEnd sessions end
  end_behind session sessions end [] is short = absurd (omega (arith, ap length is))
  end_behind session sessions end (first ∷ before) is short = (before, ap (drop 1) is)

  end_whole : (session : Session T) (sessions end before : List (Session T))
      → before ++ end ≡ session ∷ sessions → length sessions < length end → end ≡ session ∷ sessions
  end_whole session sessions end [] is long = is
  end_whole session sessions end (first ∷ before) is long = absurd (omega (arith, ap length is, length-append before end))

  shorter_end : (sessions end before : List (Session T)) → before ++ end ≡ sessions → length end ≤ length sessions
  shorter_end sessions end before is = omega (arith, ap length is, length-append before end)

  longest-fit : (limit : ℕ) (sessions other : List (Session T)) → IsEnd sessions other
      → total_weight other ≤ limit → length other ≤ length (fit limit sessions)
  longest-fit limit [] other is fits = shorter_end [] other is.0 is.1
  longest-fit limit (session ∷ sessions) other is fits =
      by_test (nat_le (total_weight (session ∷ sessions)) limit) refl
      (nat_le (length other) (length sessions)) refl
      (λ end. longest-fit limit sessions other end fits)
    where
      by_test : (b : Bool) → nat_le (total_weight (session ∷ sessions)) limit ≡ b → (short : Bool)
          → nat_le (length other) (length sessions) ≡ short
          → (IsEnd sessions other → length other ≤ length (fit limit sessions))
          → length other ≤ length (if b then session ∷ sessions else fit limit sessions)
      by_test true within short is_short rest = shorter_end (session ∷ sessions) other is.0 is.1
      by_test false above true is_short rest = rest (end_behind session sessions other is.0 is.1
          (leb-true (length other) (length sessions) is_short))
      by_test false above false is_long rest =
          let whole = end_whole session sessions other is.0 is.1 (leb-false (length other) (length sessions) is_long) in
          let heavy = leb-false (total_weight (session ∷ sessions)) limit above in
          absurd (omega (arith, ap total_weight whole))

  -- there is a longest end that fits, and only one
  pub IsLongestEnd-fit : (limit : ℕ) (sessions : List (Session T)) → IsLongestEnd limit sessions (fit limit sessions)
  IsLongestEnd-fit limit sessions = grind (arith, IsEnd-fit, total_weight-fit, longest-fit)

  ends_alike : (some others before after : List (Session T)) → before ++ some ≡ after ++ others
      → length some ≡ length others → some ≡ others
  ends_alike some others [] [] is same = is
  ends_alike some others [] (session ∷ after) is same = absurd (omega (arith, ap length is, length-append after others))
  ends_alike some others (session ∷ before) [] is same = absurd (omega (arith, ap length is, length-append before some))
  ends_alike some others (session ∷ before) (first ∷ after) is same = ends_alike some others before after (ap (drop 1) is) same

  pub fit-only : (limit : ℕ) (sessions end : List (Session T)) → IsLongestEnd limit sessions end → end ≡ fit limit sessions
  fit-only limit sessions end longest =
      let found = IsLongestEnd-fit limit sessions in
      let longer = longest.longest (fit limit sessions) found.is_end found.fits in
      let shorter = found.longest end longest.is_end longest.fits in
      ends_alike end (fit limit sessions) longest.is_end.0 found.is_end.0 (longest.is_end.1 ∙ sym found.is_end.1) (omega arith)

  -- without the session of an id, its weight is lacking
  absent : (id : ℕ) (sessions : List (Session T)) → AllByRecursion (λ other. nat_eq id other ≡ false) (ids_of sessions)
      → without sessions id ≡ sessions
  absent id [] apart = refl
  absent id (session ∷ sessions) apart = grind (arith, absent id sessions apart.1)

  pub total_weight-without : (sessions : List (Session T)) (id : ℕ) → IsDistinct nat_eq (ids_of sessions)
      → total_weight (without sessions id) + weight_of sessions id ≡ total_weight sessions
  unfolding IsDistinct
  total_weight-without [] id distinct = refl
  total_weight-without (session ∷ sessions) id distinct = by_test (nat_eq id session.0) refl (total_weight-without sessions id distinct.1)
    where
      by_test : (b : Bool) → nat_eq id session.0 ≡ b → total_weight (without sessions id) + weight_of sessions id ≡ total_weight sessions
          → total_weight (cond (not b) (session ∷ without sessions id) (without sessions id))
          + unwrap_or
          (option_map (λ (s : Session T). s.1) (cond b (Some session) (session_of sessions id))) 0
          ≡ total_weight (session ∷ sessions)
      by_test true same rest =
          let own = sym (eqb-true id session.0 same) in
          let others = absent id sessions
          (subst (λ (j : ℕ). AllByRecursion (λ other. nat_eq j other ≡ false) (ids_of sessions)) own
          distinct.0) in
          let sum = total_weight-cons session sessions in
          omega (arith, ap total_weight others)
      by_test false apart rest =
          let less = total_weight-cons session (without sessions id) in
          let sum = total_weight-cons session sessions in
          omega arith
