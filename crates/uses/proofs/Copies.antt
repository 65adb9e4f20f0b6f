-- A copy of the members of an object, one behind another.
use Rattle.std.proofs.Common.{◌≡◌, List, [], ◌∷◌, ◌++◌, Option, Some, None, option_map, cond, Bool, true, false, refl, sym, ap}
use Rattle.std.proofs.Common.{ap₂, ◌∙◌, String}
use Rattle.std.proofs.lemmas.Map.Keys.{IsDistinct-tail}
use Rattle.std.specs.List.{IsDistinct}
use Rattle.std.specs.Map.{keys_of}
use Rattle.std.specs.String.{string_bytes, string_eq, string_eq_equiv}
use Rattle.std.specs.declared.alloc.Global.{Global}
use Rattle.linked_hash_map.specs.Pairs.{find, value_at}
use Rattle.linked_hash_map.proofs.Callers.Cuts.{find-cut}
use Rattle.linked_hash_map.proofs.Callers.Texts.{find-is_text}
use Rattle.uses.specs.Trees.{put_member, get_member}
use Rattle.uses.specs.Documents.{view, members_view}
use Rattle.uses.specs.Texts.{names}
use Rattle.uses.specs.declared.nested.Value.{Value}
use Rattle.uses.proofs.TreeViews.{Entry, get_member-view, put_member-new, find-behind}

-- the name of a member is not among those before it
find-front : (done : List Entry) (e : Entry) (left : List Entry) → IsDistinct string_eq (keys_of (done ++ e ∷ left))
    → find names done (string_bytes e.0) ≡ None
find-front [] e left distinct = refl
find-front (d ∷ done) e left distinct =
    by_test (names (string_bytes e.0) d.0) refl
    (find-front done e left (IsDistinct-tail string_eq d.0 (keys_of (done ++ e ∷ left)) distinct))
  where
    by_test : (b : Bool) → names (string_bytes e.0) d.0 ≡ b → find names done (string_bytes e.0) ≡ None
        → cond b (Some d) (find names done (string_bytes e.0)) ≡ None
    by_test true same rest = absurd (cc (
      find-behind d (done ++ e ∷ left) (string_bytes e.0) distinct same,
      find-cut (string_eq_equiv {Z = Global}) done e left (IsDistinct-tail string_eq d.0 (keys_of (done ++ e ∷ left)) distinct),
      find-is_text (done ++ e ∷ left) (string_bytes e.0) e.0 refl,
    ))
    by_test false apart rest = rest

no_value : (o : Option Value) → option_map view o ≡ None → o ≡ None
no_value None is = refl
no_value (Some v) is = absurd (cc)

pub members_view-copied : (done : List Entry) (e : Entry) (left copies : List Entry) (name : String Global) (v : Value) {after : List Entry}
    → IsDistinct string_eq (keys_of (done ++ e ∷ left)) → members_view copies ≡ members_view done
    → string_bytes name ≡ string_bytes e.0 → view v ≡ view e.1
    → (value_at string_eq copies name ≡ None → after ≡ copies ++ (name, v) ∷ [])
    → members_view after ≡ members_view (done ++ e ∷ [])
members_view-copied done e left copies name v distinct same named is pushed =
    let bytes = string_bytes e.0 in
    let new : value_at names done bytes ≡ None = ap (option_map (λ (p : Entry). p.1)) (find-front done e left distinct) in
    let absent : value_at names copies bytes ≡ None =
    no_value (value_at names copies bytes)
    (sym (get_member-view copies bytes) ∙ ap (get_member bytes) same ∙ get_member-view done bytes ∙ ap (option_map view) new) in
    ap members_view (pushed (ap (option_map (λ (p : Entry). p.1)) (find-is_text copies bytes name named) ∙ absent))
    ∙ put_member-new copies bytes name v named (sym absent)
    ∙ ap₂ (λ t ms. put_member t bytes ms) is same
    ∙ sym (put_member-new done bytes e.0 e.1 refl (sym new))
