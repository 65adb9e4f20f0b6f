-- What the members of a merge patch leave, and the room that they take.
use Rattle.std.proofs.Common.{◌≡◌, ℕ, ◌+◌, ◌<◌, ◌≤◌, length, List, [], ◌∷◌, ◌++◌, Option}
use Rattle.std.proofs.Common.{Some, None, IfSome, option_map, unwrap_or, is_some}
use Rattle.std.proofs.Common.{cond, Bool, true, false, refl, sym, ap, ◌∙◌, subst, arith, rules, String}
use Rattle.std.proofs.Common.{append_assoc, append-nil, length-append}
use Rattle.std.proofs.lemmas.Map.Keys.{IsDistinct-tail}
use Rattle.std.specs.Global.{Box}
use Rattle.std.specs.List.{IsDistinct}
use Rattle.std.specs.Map.{keys_of}
use Rattle.std.specs.Str.{bytes_eq}
use Rattle.std.specs.String.{string_bytes, string_eq, string_eq_equiv}
use Rattle.std.specs.declared.alloc.Global.{Global}
use Rattle.linked_hash_map.specs.Pairs.{find, value_at, without, without_first, set_value, first}
use Rattle.linked_hash_map.specs.Updates.{UpdatesBy}
use Rattle.linked_hash_map.proofs.Callers.Cuts.{find-cut}
use Rattle.linked_hash_map.proofs.Callers.Keys.{find-none, without-absent, set_or_push-present, IsSome-find}
use Rattle.linked_hash_map.proofs.Callers.Texts.{is_text, value_at-updated}
use Rattle.linked_hash_map.proofs.Callers.Turns.{find-others}
use Rattle.json.specs.Find.{is_null}
use Rattle.json.specs.Json.{Json, null, object, Members, no_members, member}
use Rattle.json.specs.Tree.{depth, members_depth}
use Rattle.ordered_json.specs.Merge.{drop_member, merged, merge_each}
use Rattle.ordered_json.specs.Pointers.{find_member}
use Rattle.ordered_json.specs.Read.{put}
use Rattle.ordered_json.specs.Room.{Map, at_name, map_in, merge_member, new_one, new_count, Fits, FitsIn, FitsEach, FitsAt}
use Rattle.ordered_json.specs.View.{view, members_view}
use Rattle.ordered_json.specs.declared.value.Value.{Value, Object, the_lemmas}
use Rattle.ordered_json.proofs.Children.{find_member-view}
use Rattle.ordered_json.proofs.Puts.{without_member-view, without_member-absent}
use Rattle.ordered_json.proofs.Views.{Entry, members_view-put}

-- ---- one member

drop_member-absent : (pairs : List Entry) (name : List ℕ) → value_at is_text pairs name ≡ None
    → drop_member name (members_view pairs) ≡ members_view pairs
drop_member-absent pairs name none = ap (λ o. unwrap_or o (members_view pairs)) (without_member-absent pairs name none)

pub drop_member-view : (pairs : List Entry) (name : List ℕ) → IsDistinct string_eq (keys_of pairs)
    → drop_member name (members_view pairs) ≡ members_view (without is_text pairs name)
drop_member-view pairs name distinct = by_found (value_at is_text pairs name) refl
  where
    by_found : (o : Option Value) → value_at is_text pairs name ≡ o
        → drop_member name (members_view pairs) ≡ members_view (without is_text pairs name)
    by_found None none =
        drop_member-absent pairs name none ∙ ap members_view (sym (without-absent is_text pairs name (find-none is_text pairs name none)))
    by_found (Some v) there = ap (λ o. unwrap_or o (members_view pairs)) (without_member-view pairs name v distinct there)

-- a new name goes behind the others
pub put-new : (pairs : List Entry) (k : String Global) (v : Value) → value_at is_text pairs (string_bytes k) ≡ None
    → put (string_bytes k) (view v) (members_view pairs) ≡ members_view (pairs ++ (k, v) ∷ [])
put-new [] k v none = refl
put-new (pair ∷ pairs) k v none = by_test (bytes_eq (string_bytes k) (string_bytes pair.0)) refl none (put-new pairs k v)
  where
    by_test : (b : Bool) → bytes_eq (string_bytes k) (string_bytes pair.0) ≡ b
        → option_map (λ (p : Entry). p.1) (cond b (Some pair) (find is_text pairs (string_bytes k))) ≡ None
        → (value_at is_text pairs (string_bytes k) ≡ None → put (string_bytes k) (view v) (members_view pairs) ≡ members_view
        (pairs ++ (k, v) ∷ []))
        → put (string_bytes k) (view v) (members_view (pair ∷ pairs)) ≡ members_view (pair ∷ pairs ++ (k, v) ∷ [])
    by_test true same none rest = absurd (cc)
    by_test false apart none rest = rw apart (ap (member (string_bytes pair.0) (view pair.1)) (rest none))

pub put-there : (pairs : List Entry) (k : String Global) (found v : Value) → IsDistinct string_eq (keys_of pairs)
    → value_at is_text pairs (string_bytes k) ≡ Some found
    → put (string_bytes k) (view v) (members_view pairs) ≡ members_view (set_value is_text pairs (string_bytes k) v)
put-there pairs k found v distinct there =
    sym (members_view-put pairs k v distinct)
    ∙ ap members_view (set_or_push-present string_eq pairs k v (IsSome-find string_eq pairs k found there))

pub merge_member-null : (name : List ℕ) (p : Json) (ms : Members) → is_null p ≡ true → merge_member name p ms ≡ drop_member name ms
merge_member-null name p ms null_is = rw null_is refl

pub merge_member-there : (pairs : List Entry) (name : List ℕ) (p : Json) (found : Value) → is_null p ≡ false
    → value_at is_text pairs name ≡ Some found
    → merge_member name p (members_view pairs) ≡ put name (merged p (view found)) (members_view pairs)
merge_member-there pairs name p found some there =
    let found_is : find_member name (members_view pairs) ≡ Some (view found) = find_member-view pairs name ∙ ap (option_map view) there in
    rw (some, found_is) refl

pub merge_member-new : (pairs : List Entry) (name : List ℕ) (p : Json) → is_null p ≡ false → value_at is_text pairs name ≡ None
    → merge_member name p (members_view pairs) ≡ put name (merged p null) (members_view pairs)
merge_member-new pairs name p some none =
    let absent : find_member name (members_view pairs) ≡ None = find_member-view pairs name ∙ ap (option_map view) none in
    rw (some, absent) refl

-- ---- the depth of a member

pub depth-member : (before : List Entry) (e : Entry) (rest : List Entry)
    → depth (view e.1) ≤ members_depth (members_view (before ++ e ∷ rest))
depth-member [] e rest = omega arith
depth-member (pair ∷ before) e rest = omega (arith, depth-member before e rest)

-- ---- names that differ

-- each name but one has the value that it had
abbrev pub KeepsOthers : List ℕ → List Entry → List Entry → Type 0
KeepsOthers name old new = (other : List ℕ) → bytes_eq name other ≡ false → at_name other new ≡ at_name other old

pub KeepsOthers-updated : (name : List ℕ) (old new : List Entry) (value : Option Value)
    → UpdatesBy string_eq old new (is_text name) value → KeepsOthers name old new
KeepsOthers-updated name old new value updates =
    λ other apart. value_at-updated old new name other value updates ∙ ap (λ b. cond b value (at_name other old)) apart

-- a list with a first pair is that pair and the others
pub cons-first : (pairs : List Entry) (e : Entry) → first pairs ≡ Some e → pairs ≡ e ∷ without_first pairs
cons-first [] e there = absurd (cc)
cons-first (pair ∷ pairs) e there = ap (λ (x : Entry). x ∷ pairs) (by_some there)
  where
    by_some : Some pair ≡ Some e → pair ≡ e
    by_some same = cc

pub find_member-before : (done : List Entry) (e : Entry) (left : List Entry) → IsDistinct string_eq (keys_of (done ++ e ∷ left))
    → find_member (string_bytes e.0) (members_view done) ≡ None
find_member-before [] e left distinct = refl
find_member-before (d ∷ done) e left distinct =
    let apart = IsDistinct-tail string_eq d.0 (keys_of (done ++ e ∷ left)) distinct in
    by_test (string_eq e.0 d.0) refl apart (find_member-before done e left apart)
  where
    by_test : (b : Bool) → string_eq e.0 d.0 ≡ b → IsDistinct string_eq (keys_of (done ++ e ∷ left))
        → find_member (string_bytes e.0) (members_view done) ≡ None
        → find_member (string_bytes e.0) (members_view (d ∷ done)) ≡ None
    by_test true same apart rest = absurd (cc (
      find-others (string_eq_equiv {Z = Global}) (done ++ e ∷ left) e.0 d distinct same,
      find-cut (string_eq_equiv {Z = Global}) done e left apart,
    ))
    by_test false other apart rest = rw other rest

-- ---- room

pub map_in-Object : (m : Box Map) → map_in (Object m) ≡ Some m.value
map_in-Object m = search (rules, the_lemmas)

pub Fits-Object : (j : Json) (ps : Members) (m : Box Map) → j ≡ object ps → FitsIn ps m.value → Fits j (Object m)
Fits-Object j ps m is fits =
    subst (λ (k : Json). Fits k (Object m)) (sym is)
    (subst (λ (o : Option Map). IfSome o (λ n. FitsIn ps n)) (sym (map_in-Object m)) fits)

pub new_one-new : (pairs : List Entry) (name : List ℕ) (p : Json) → is_null p ≡ false → value_at is_text pairs name ≡ None
    → new_one name p (members_view pairs) ≡ 1
new_one-new pairs name p some none =
    let absent : find_member name (members_view pairs) ≡ None = find_member-view pairs name ∙ ap (option_map view) none in
    rw (some, absent) refl

pub new_count-most : (pairs : List Entry) (ms : Members) → new_count (members_view pairs) ms ≤ length pairs
new_count-most [] ms = omega arith
new_count-most (pair ∷ pairs) ms =
    omega (arith, one (is_null (view pair.1)) (is_some (find_member (string_bytes pair.0) ms)), new_count-most pairs ms)
  where
    one : (b c : Bool) → cond b 0 (cond c 0 1) ≤ 1
    one true c = omega arith
    one false true = omega arith
    one false false = omega arith

module _ (name : List ℕ) (old new : List Entry) (keeps : KeepsOthers name old new) where
  new_count-kept : (ps : Members) → find_member name ps ≡ None → new_count ps (members_view new) ≡ new_count ps (members_view old)
  new_count-kept no_members gone = refl
  new_count-kept (member other p ps) gone = by_test (bytes_eq name other) refl gone (new_count-kept ps)
    where
      by_test : (b : Bool) → bytes_eq name other ≡ b → cond b (Some p) (find_member name ps) ≡ None
          → (find_member name ps ≡ None → new_count ps (members_view new) ≡ new_count ps (members_view old))
          → new_count (member other p ps) (members_view new) ≡ new_count (member other p ps) (members_view old)
      by_test true same gone rest = absurd (cc)
      by_test false apart gone rest =
          let found : find_member other (members_view new) ≡ find_member other (members_view old) =
          find_member-view new other ∙ ap (option_map view) (keeps other apart) ∙ sym (find_member-view old other) in
          ap (λ o. cond (is_null p) 0 (cond (is_some o) 0 1) + new_count ps (members_view new)) found
          ∙ ap (λ n. new_one other p (members_view old) + n) (rest gone)

  pub FitsEach-kept : (ps : Members) → find_member name ps ≡ None → FitsEach ps old → FitsEach ps new
  FitsEach-kept no_members gone fits = tt
  FitsEach-kept (member other p ps) gone fits = by_test (bytes_eq name other) refl gone (FitsEach-kept ps)
    where
      by_test : (b : Bool) → bytes_eq name other ≡ b → cond b (Some p) (find_member name ps) ≡ None
          → (find_member name ps ≡ None → FitsEach ps old → FitsEach ps new)
          → FitsEach (member other p ps) new
      by_test true same gone rest = absurd (cc)
      by_test false apart gone rest = (subst (λ (o : Option Value). FitsAt p o) (sym (keeps other apart)) fits.0, rest gone fits.1)

pub FitsIn-kept : (name : List ℕ) (p : Json) (ps : Members) (old : Map) (pairs : List Entry) (capacity : ℕ)
    → KeepsOthers name old.pairs pairs → find_member name ps ≡ None
    → length pairs ≤ length old.pairs + new_one name p (members_view old.pairs) → capacity ≡ old.capacity → FitsIn (member name p ps) old
    → (length pairs + new_count ps (members_view pairs) ≤ capacity) × FitsEach ps pairs
FitsIn-kept name p ps old pairs capacity keeps gone few room fits = (
  omega (arith, fits.0, few, room, new_count-kept name old.pairs pairs keeps ps gone),
  FitsEach-kept name old.pairs pairs keeps ps gone fits.1.1,
)

pub FitsIn-first : (name : List ℕ) (p : Json) (ps : Members) (m : Map) → FitsIn (member name p ps) m → FitsIn (member name p no_members) m
FitsIn-first name p ps m fits = (omega (arith, fits.0), (fits.1.0, tt))

pub FitsEach-next : (done : List Entry) (e : Entry) (pairs : List Entry) → FitsEach (members_view done) pairs
    → FitsAt (view e.1) (at_name (string_bytes e.0) pairs) → FitsEach (members_view (done ++ e ∷ [])) pairs
FitsEach-next [] e pairs fits last = (last, tt)
FitsEach-next (d ∷ done) e pairs fits last = (fits.0, FitsEach-next done e pairs fits.1 last)

-- ---- the members of a patch alone, each of which goes from the front to the back

pub record IsStripping (all pairs : List Entry) (turns : ℕ) : Type 0 where
  before : List Entry
  rest : List Entry
  done : List Entry
  all_is : all ≡ before ++ rest
  pairs_is : pairs ≡ rest ++ done
  count : length before ≡ turns
  so_far : merge_each (members_view rest) (members_view done) ≡ merge_each (members_view all) no_members

pub IsStripping-start : (all : List Entry) → IsStripping all all 0
IsStripping-start all = record {
  before = [];
  rest = all;
  done = [];
  all_is = refl;
  pairs_is = sym (append-nil all);
  count = refl;
  so_far = refl;
}

-- of a lookup among the pairs behind others
value_at-behind : (rest done : List Entry) (name : List ℕ) → value_at is_text (rest ++ done) name ≡ None
    → value_at is_text done name ≡ None
value_at-behind [] done name none = none
value_at-behind (pair ∷ rest) done name none = by_test (bytes_eq name (string_bytes pair.0)) none (value_at-behind rest done name)
  where
    by_test : (b : Bool) → option_map (λ (p : Entry). p.1) (cond b (Some pair) (find is_text (rest ++ done) name)) ≡ None
        → (value_at is_text (rest ++ done) name ≡ None → value_at is_text done name ≡ None) → value_at is_text done name ≡ None
    by_test true none below = absurd (cc)
    by_test false none below = below none

-- the first pair, if there is one, is the first of the rest, unless that has ended
record Turn (rest done pairs : List Entry) (e : Entry) : Type 0 where
  left : List Entry
  rest_is : rest ≡ e ∷ left
  next_is : without_first pairs ≡ left ++ done

module _ (all pairs : List Entry) (turns : ℕ) (s : IsStripping all pairs turns) where
  lengths : length all ≡ turns + length s.rest
  lengths = ap length s.all_is ∙ length-append s.before s.rest ∙ ap (λ n. n + length s.rest) s.count

  pub IsStripping-end : length all ≤ turns → members_view pairs ≡ merge_each (members_view all) no_members
  IsStripping-end ended = by_rest s.rest refl
    where
      by_rest : (rest : List Entry) → s.rest ≡ rest → members_view pairs ≡ merge_each (members_view all) no_members
      by_rest [] is =
          ap members_view (s.pairs_is ∙ ap (λ es. es ++ s.done) is)
          ∙ ap (λ es. merge_each (members_view es) (members_view s.done)) (sym is) ∙ s.so_far
      by_rest (e ∷ left) is = absurd (omega (arith, ended, lengths, ap length is))

  pub IsStripping-none : first pairs ≡ None → members_view pairs ≡ merge_each (members_view all) no_members
  IsStripping-none none = by_rest s.rest refl
    where
      by_rest : (rest : List Entry) → s.rest ≡ rest → members_view pairs ≡ merge_each (members_view all) no_members
      by_rest [] is =
          ap members_view (s.pairs_is ∙ ap (λ es. es ++ s.done) is)
          ∙ ap (λ es. merge_each (members_view es) (members_view s.done)) (sym is) ∙ s.so_far
      by_rest (e ∷ left) is = absurd (cc (none, ap first (s.pairs_is ∙ ap (λ es. es ++ s.done) is)))

  module _ (more : turns < length all) (e : Entry) (there : first pairs ≡ Some e) where
    turn : Turn s.rest s.done pairs e
    turn = by_rest s.rest refl
      where
        by_some : {x : Entry} → Some x ≡ Some e → x ≡ e
        by_some same = cc

        by_rest : (rest : List Entry) → s.rest ≡ rest → Turn s.rest s.done pairs e
        by_rest [] is = absurd (omega (arith, more, lengths, ap length is))
        by_rest (x ∷ left) is =
            let pairs_are : pairs ≡ x ∷ (left ++ s.done) = s.pairs_is ∙ ap (λ es. es ++ s.done) is in
            let x_is : x ≡ e = by_some (sym (ap first pairs_are) ∙ there) in
            record { left = left; rest_is = is ∙ ap (λ (y : Entry). y ∷ left) x_is; next_is = ap without_first pairs_are }

    all_are : all ≡ s.before ++ e ∷ turn.left
    all_are = s.all_is ∙ ap (λ es. s.before ++ es) turn.rest_is

    pub IsStripping-less : depth (view e.1) ≤ members_depth (members_view all)
    IsStripping-less = subst (λ (es : List Entry). depth (view e.1) ≤ members_depth (members_view es)) (sym all_are)
        (depth-member s.before e turn.left)

    module _ (popped : List Entry) (popped_is : popped ≡ without_first pairs) (gone : find string_eq popped e.0 ≡ None) where
      next_is : popped ≡ turn.left ++ s.done
      next_is = popped_is ∙ turn.next_is

      none : value_at is_text s.done (string_bytes e.0) ≡ None
      none = value_at-behind turn.left s.done (string_bytes e.0) (ap (option_map (λ (p : Entry). p.1))
          (ap (λ (es : List Entry). find is_text es (string_bytes e.0)) (sym next_is) ∙ gone))

      next : (done after : List Entry) → after ≡ turn.left ++ done
          → members_view done ≡ merge_member (string_bytes e.0) (view e.1) (members_view s.done)
          → IsStripping all after (turns + 1)
      next done after after_is merged_is = record {
        before = s.before ++ e ∷ [];
        rest = turn.left;
        done = done;
        all_is = all_are ∙ sym (append_assoc s.before (e ∷ []) turn.left);
        pairs_is = after_is;
        count = omega (arith, s.count, length-append s.before (e ∷ []));
        so_far = ap (merge_each (members_view turn.left)) merged_is
            ∙ ap (λ (es : List Entry). merge_each (members_view es) (members_view s.done)) (sym turn.rest_is) ∙ s.so_far;
      }

      pub IsStripping-dropped : is_null (view e.1) ≡ true → IsStripping all popped (turns + 1)
      IsStripping-dropped null_is = next s.done popped next_is
          (sym (merge_member-null (string_bytes e.0) (view e.1) (members_view s.done) null_is
          ∙ drop_member-absent s.done (string_bytes e.0) none))

      pub IsStripping-moved : (v : Value) → is_null (view e.1) ≡ false → view v ≡ merged (view e.1) null
          → IsStripping all (popped ++ (e.0, v) ∷ []) (turns + 1)
      IsStripping-moved v some v_is = next (s.done ++ (e.0, v) ∷ []) (popped ++ (e.0, v) ∷ [])
          (ap (λ (es : List Entry). es ++ (e.0, v) ∷ []) next_is ∙ append_assoc turn.left s.done ((e.0, v) ∷ []))
          (sym (merge_member-new s.done (string_bytes e.0) (view e.1) some none
          ∙ ap (λ j. put (string_bytes e.0) j (members_view s.done)) (sym v_is) ∙ put-new s.done e.0 v none))
