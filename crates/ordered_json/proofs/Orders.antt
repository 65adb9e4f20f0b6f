-- Members in the order of their names.
use Rattle.std.proofs.Common.{◌≡◌, ℕ, List, Option, Some, None, Bool, true, false, cond, refl, sym, ap, ◌∙◌, arith}
use Rattle.std.proofs.lemmas.Cmp.{nat_list_cmp_total, tied_itself}
use Rattle.std.proofs.lemmas.Map.Text.{is_eq-slice_cmp}
use Rattle.std.specs.Cmp.{IsTotalOrder}
use Rattle.std.specs.Cmp.Lexicographic.{bytes_decides, slice_cmp}
use Rattle.std.specs.Ordering.{is_eq, is_lt, nat_cmp, ordering_reverse}
use Rattle.std.specs.Prelude.{⊤}
use Rattle.std.specs.Str.{bytes_eq}
use Rattle.std.specs.declared.cmp.Ordering.{Ordering}
use Rattle.std.specs.declared.cmp.Ordering.TheVariants.{Less, Equal, Greater}
use Rattle.json.specs.Json.{Json, Members, no_members, member}
use Rattle.ordered_json.specs.Pointers.{find_member}
use Rattle.ordered_json.specs.Sorts.{insert_member, in_order}

abbrev pub compare : List ℕ → List ℕ → Ordering
compare = slice_cmp nat_cmp

-- all names are greater than one
abbrev pub Below : List ℕ → Members → Type 0
Below a no_members = ⊤
Below a (member b k ms) = (compare a b ≡ Less) × Below a ms

abbrev pub Ascends : Members → Type 0
Ascends no_members = ⊤
Ascends (member a j ms) = Below a ms × Ascends ms

pub Below-less : (a b : List ℕ) (ms : Members) → compare a b ≡ Less → Below b ms → Below a ms
Below-less a b no_members less below = tt
Below-less a b (member c k ms) less below = (nat_list_cmp_total.trans a b c less below.0, Below-less a b ms less below.1)

apart-less : (a b : List ℕ) → compare a b ≡ Less → bytes_eq a b ≡ false
apart-less a b less = sym (is_eq-slice_cmp a b) ∙ ap is_eq less

pub same-equal : (a b : List ℕ) → compare a b ≡ Equal → a ≡ b
same-equal a b equal = (bytes_decides a b).0 (sym (is_eq-slice_cmp a b) ∙ ap is_eq equal)

pub less-greater : (a b : List ℕ) → compare a b ≡ Greater → compare b a ≡ Less
less-greater a b greater = nat_list_cmp_total.antisymm b a ∙ ap ordering_reverse greater

find_member-below : (a : List ℕ) (ms : Members) → Below a ms → find_member a ms ≡ None
find_member-below a no_members below = refl
find_member-below a (member b k ms) below = rw (apart-less a b below.0) (find_member-below a ms below.1)

find_member-insert_member : (q name : List ℕ) (j : Json) (ms : Members)
    → find_member q (insert_member name j ms) ≡ cond (bytes_eq q name) (Some j) (find_member q ms)
find_member-insert_member q name j no_members = refl
find_member-insert_member q name j (member b k ms) =
    by_order (compare b name) refl (bytes_eq q b) refl (bytes_eq q name) refl (find_member-insert_member q name j ms)
  where
    by_order : (o : Ordering) → compare b name ≡ o → (c : Bool) → bytes_eq q b ≡ c → (d : Bool) → bytes_eq q name ≡ d
        → find_member q (insert_member name j ms) ≡ cond d (Some j) (find_member q ms)
        → find_member q (cond (is_lt o) (member b k (insert_member name j ms)) (member name j (member b k ms)))
        ≡ cond d (Some j) (cond c (Some k) (find_member q ms))
    by_order Less less true here true is rest =
        absurd (cc (less, tied_itself nat_list_cmp_total b, (bytes_decides q b).0 here, (bytes_decides q name).0 is))
    by_order Less less true here false is rest = rw here refl
    by_order Less less false here d is rest = rw here rest
    by_order Equal order c here d is rest = rw (is, here) refl
    by_order Greater order c here d is rest = rw (is, here) refl

pub find_member-in_order : (q : List ℕ) (ms : Members) → find_member q (in_order ms) ≡ find_member q ms
find_member-in_order q no_members = refl
find_member-in_order q (member name j ms) =
    find_member-insert_member q name j (in_order ms) ∙ ap (cond (bytes_eq q name) (Some j)) (find_member-in_order q ms)

Below-insert_member : (a name : List ℕ) (j : Json) (ms : Members) → compare a name ≡ Less → Below a ms
    → Below a (insert_member name j ms)
Below-insert_member a name j no_members less below = (less, tt)
Below-insert_member a name j (member b k ms) less below =
    by_test (is_lt (compare b name)) (Below-insert_member a name j ms less below.1)
  where
    by_test : (c : Bool) → Below a (insert_member name j ms)
        → Below a (cond c (member b k (insert_member name j ms)) (member name j (member b k ms)))
    by_test true rest = (below.0, rest)
    by_test false rest = (less, below)

pub Ascends-insert_member : (name : List ℕ) (j : Json) (ms : Members) → find_member name ms ≡ None → Ascends ms
    → Ascends (insert_member name j ms)
Ascends-insert_member name j no_members none up = (tt, tt)
Ascends-insert_member name j (member b k ms) none up =
    by_order (compare b name) refl (bytes_eq name b) refl none (λ rest. Ascends-insert_member name j ms rest up.1)
  where
    by_order : (o : Ordering) → compare b name ≡ o → (c : Bool) → bytes_eq name b ≡ c → cond c (Some k) (find_member name ms) ≡ None
        → (find_member name ms ≡ None → Ascends (insert_member name j ms))
        → Ascends (cond (is_lt o) (member b k (insert_member name j ms)) (member name j (member b k ms)))
    by_order o order true is absent rest = absurd (cc)
    by_order Less order false is absent rest = (Below-insert_member b name j ms order up.0, rest absent)
    by_order Equal order false is absent rest =
        absurd (cc (is, (bytes_decides name b).1 (sym (same-equal b name order))))
    by_order Greater order false is absent rest =
        let less = less-greater b name order in ((less, Below-less name b ms less up.0), up)

-- members that ascend and find the same are the same
pub same-found : (ms ns : Members) → Ascends ms → Ascends ns → ((q : List ℕ) → find_member q ms ≡ find_member q ns) → ms ≡ ns
same-found no_members no_members up there same = refl
same-found no_members (member b k ns) up there same =
    absurd (cc (same b, (bytes_decides b b).1 refl))
same-found (member a j ms) no_members up there same =
    absurd (cc (same a, (bytes_decides a a).1 refl))
same-found (member a j ms) (member b k ns) up there same =
    by_order (compare a b) refl (λ others. same-found ms ns up.1 there.1 others)
  where
    first : (a b : List ℕ) (j k : Json) (ms ns : Members) → Below b ns → find_member a (member a j ms) ≡ find_member a (member b k ns)
        → compare a b ≡ Less → ⊥
    first a b j k ms ns below is less =
        cc (is, (bytes_decides a a).1 refl, apart-less a b less, find_member-below a ns (Below-less a b ns less below))

    rest : a ≡ b → (q : List ℕ) → find_member q ms ≡ find_member q ns
    rest is q = by_test (bytes_eq q a) refl (same q)
      where
        by_test : (c : Bool) → bytes_eq q a ≡ c → cond c (Some j) (find_member q ms) ≡ find_member q (member b k ns)
            → find_member q ms ≡ find_member q ns
        by_test true here found =
            let q_is = (bytes_decides q a).0 here in
            ap (λ n. find_member n ms) q_is ∙ find_member-below a ms up.0
            ∙ sym (ap (λ n. find_member n ns) (q_is ∙ is) ∙ find_member-below b ns there.0)
        by_test false here found = grind (arith, found, is)

    by_order : (o : Ordering) → compare a b ≡ o → (((q : List ℕ) → find_member q ms ≡ find_member q ns) → ms ≡ ns)
        → member a j ms ≡ member b k ns
    by_order Less order below = absurd (first a b j k ms ns there.0 (same a) order)
    by_order Greater order below = absurd (first b a k j ns ms up.0 (sym (same b)) (less-greater a b order))
    by_order Equal order below =
        let is = same-equal a b order in
        let values : j ≡ k = cc (same a, (bytes_decides a a).1 refl, is) in let others = below (rest is) in cc (is, values, others)
