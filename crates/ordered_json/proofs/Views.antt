-- A value, level by level, and the pairs of a map beside the members that they stand for.
use Rattle.std.proofs.Common.{◌≡◌, List, [], ◌∷◌, ◌++◌, is_some, cond, Bool, true, false, refl, sym, ap, ◌∙◌, rules}
use Rattle.std.proofs.Common.{String, Vec}
use Rattle.std.specs.Global.{Box}
use Rattle.std.proofs.lemmas.Map.Keys.{IsDistinct-tail}
use Rattle.std.specs.List.{IsDistinct}
use Rattle.std.specs.Map.{keys_of}
use Rattle.std.specs.String.{string_bytes, string_eq, string_eq_equiv}
use Rattle.std.specs.declared.alloc.Global.{Global}
use Rattle.json.specs.Json.{array, object, Members, member}
use Rattle.linked_hash_map.specs.Pairs as pairs
use Rattle.linked_hash_map.specs.Pairs.{find, set_value}
use Rattle.linked_hash_map.specs.declared.map.Mode.TheVariants.{Keep}
use Rattle.linked_hash_map.proofs.Callers.Keys.{set_value-none}
use Rattle.linked_hash_map.proofs.Callers.Cuts.{find-cut}
use Rattle.linked_hash_map.proofs.Callers.Turns.{find-others}
use Rattle.ordered_json.specs.Read.{put}
use Rattle.ordered_json.specs.Room.{Map}
use Rattle.ordered_json.specs.View.{view, items_view, members_view}
use Rattle.ordered_json.specs.declared.value.Value.{Value, Array, Object, the_lemmas}

abbrev pub Entry : Type 0
Entry = String Global × Value

pub view-Array : (v : Vec Value Global) → view (Array v) ≡ array (items_view v.items)
view-Array v = search (rules, the_lemmas)

pub view-Object : (m : Box Map) → view (Object m) ≡ object (members_view m.value.pairs)
view-Object m = search (rules, the_lemmas)

-- the members of a value, as they are lent
pub view-lent : {v : Value} {boxed : Box Map} {m : Map} → v ≡ Object boxed → m ≡ boxed.value → view v ≡ object (members_view m.pairs)
view-lent {v} {boxed} {m} is lent =
    ap view is ∙ view-Object boxed ∙ ap (λ (n : Map). object (members_view n.pairs)) (sym lent)

-- what a replacement leaves of the members
pub members_view-put : (ps : List Entry) (k : String Global) (v : Value) → IsDistinct string_eq (keys_of ps)
    → members_view (pairs.put string_eq Keep ps k v) ≡ put (string_bytes k) (view v) (members_view ps)
members_view-put [] k v distinct = refl
members_view-put (p ∷ ps) k v distinct =
    by_test (string_eq k p.0) refl (members_view-put ps k v (IsDistinct-tail string_eq p.0 (keys_of ps) distinct))
  where
    first : Members → Members
    first = member (string_bytes p.0) (view p.1)

    set : Members → Members
    set = put (string_bytes k) (view v)

    by_found : (b : Bool) → members_view (cond b (set_value string_eq ps k v) (ps ++ (k, v) ∷ [])) ≡ set (members_view ps)
        → members_view (cond b (p ∷ set_value string_eq ps k v) (p ∷ (ps ++ (k, v) ∷ []))) ≡ first (set (members_view ps))
    by_found true rest = ap first rest
    by_found false rest = ap first rest

    by_test : (b : Bool) → string_eq k p.0 ≡ b → members_view (pairs.put string_eq Keep ps k v) ≡ set (members_view ps)
        → members_view (pairs.put string_eq Keep (p ∷ ps) k v) ≡ set (members_view (p ∷ ps))
    by_test true same rest =
        rw (same, set_value-none string_eq ps k v (find-others (string_eq_equiv {Z = Global}) ps k p distinct same)) refl
    by_test false apart rest = rw apart (by_found (is_some (find string_eq ps k)) rest)

-- the members of pairs whose keys differ go in one after another
pub members_view-next : (done : List Entry) (e : Entry) (left : List Entry) → IsDistinct string_eq (keys_of (done ++ e ∷ left))
    → put (string_bytes e.0) (view e.1) (members_view done) ≡ members_view (done ++ e ∷ [])
members_view-next [] e left distinct = refl
members_view-next (d ∷ done) e left distinct =
    let apart = IsDistinct-tail string_eq d.0 (keys_of (done ++ e ∷ left)) distinct in
    by_test (string_eq e.0 d.0) refl apart (members_view-next done e left apart)
  where
    by_test : (b : Bool) → string_eq e.0 d.0 ≡ b → IsDistinct string_eq (keys_of (done ++ e ∷ left))
        → put (string_bytes e.0) (view e.1) (members_view done) ≡ members_view (done ++ e ∷ [])
        → put (string_bytes e.0) (view e.1) (members_view (d ∷ done)) ≡ members_view (d ∷ done ++ e ∷ [])
    by_test true same apart rest = absurd (cc (
      find-others (string_eq_equiv {Z = Global}) (done ++ e ∷ left) e.0 d distinct same,
      find-cut (string_eq_equiv {Z = Global}) done e left apart,
    ))
    by_test false other apart rest = rw other (ap (member (string_bytes d.0) (view d.1)) rest)
