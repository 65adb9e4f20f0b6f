use Rattle.std.proofs.Common.{◌≡◌, ◌∷◌, ◌<◌, ◌-◌, ◌^◌, min, Some, None, map, length, is_some, unwrap_or, option_and_then}
use Rattle.std.proofs.Common.{option_map, refl, sym, ap, ap₂, ◌∙◌, arith}
use Rattle.std.proofs.lemmas.Option.{slice_get_read, slice_get_past}
use Rattle.std.specs.String.{string_bytes}
use Rattle.std.specs.List.{slice_get}
use Rattle.json.specs.Json.{array, object}
use Rattle.ordered_json.specs.Pointers.{change_at, find_member, get_at, index}
use Rattle.ordered_json.specs.View.{members_view, view}
use Rattle.ordered_json.proofs.Views.{view-Object, view-lent}
use Rattle.ordered_json.proofs.Children.{find_member-view, change_member-view, change_member-own, item-found}
use Rattle.ordered_json.proofs.Children.{items-changed, items-kept}
use Rattle.ordered_json.proofs.pointer.+swap.Goals as goal

pub swap_at-returns-in-Object-clause-there : goal.swap_at-returns-in-Object-clause-there
swap_at-returns-in-Object-clause-there t c =
    let path_is : map string_bytes c.args.names.now ≡ c.as_str-in-Object.result.now ∷ map string_bytes c.in-Some.rest.now =
    ap (map string_bytes) c.in-Some.ensures.cases.0
    ∙ ap (λ n. n ∷ map string_bytes c.in-Some.rest.now) (sym c.as_str-in-Object.ensures.value) in
    let target_is = view-lent (sym c.replace.ensures.value ∙ c.in-Object.is) c.deref_mut.ensures.value in
    c.swap_in_object-there.ensures.there ∙ sym (ap₂ (λ p j. is_some (get_at p j)) path_is target_is)

pub swap_at-returns-in-Object-clause-document : goal.swap_at-returns-in-Object-clause-document
swap_at-returns-in-Object-clause-document t c =
    let path_is : map string_bytes c.args.names.now ≡ c.as_str-in-Object.result.now ∷ map string_bytes c.in-Some.rest.now =
    ap (map string_bytes) c.in-Some.ensures.cases.0
    ∙ ap (λ n. n ∷ map string_bytes c.in-Some.rest.now) (sym c.as_str-in-Object.ensures.value) in
    let target_is = view-lent (sym c.replace.ensures.value ∙ c.in-Object.is) c.deref_mut.ensures.value in
    view-Object _ ∙ c.swap_in_object-there.ensures.document
    ∙ sym (ap₂ (λ p j. change_at (λ _. view c.args.other.now) p j) path_is target_is)

pub swap_at-returns-in-Object-clause-value : goal.swap_at-returns-in-Object-clause-value
swap_at-returns-in-Object-clause-value t c =
    let path_is : map string_bytes c.args.names.now ≡ c.as_str-in-Object.result.now ∷ map string_bytes c.in-Some.rest.now =
    ap (map string_bytes) c.in-Some.ensures.cases.0
    ∙ ap (λ n. n ∷ map string_bytes c.in-Some.rest.now) (sym c.as_str-in-Object.ensures.value) in
    let target_is = view-lent (sym c.replace.ensures.value ∙ c.in-Object.is) c.deref_mut.ensures.value in
    c.swap_in_object-there.ensures.value ∙ sym (ap₂ (λ p j. unwrap_or (get_at p j) (view c.args.other.now)) path_is target_is)

pub swap_in_array-returns-in-Some-get_mut-clause-there : goal.swap_in_array-returns-in-Some-get_mut-clause-there
swap_in_array-returns-in-Some-get_mut-clause-there t c =
    let vs = c.args.items.now.items in let at = c.in-Some.at in let v = c.in-Some-get_mut.item.now in
    let there : slice_get vs at ≡ Some v =
    slice_get_read vs (length vs) at v refl c.in-Some-get_mut.ensures.item.3.0 c.in-Some-get_mut.ensures.value in
    let within : length vs < 2 ^ 64 - 1 = omega arith in
    let is : Some at ≡ option_map (λ n. min n (2 ^ 64 - 1)) (index c.args.name.now) = sym c.in-Some.is ∙ c.index_of.ensures in
    c.swap_at.ensures.there
    ∙ sym (ap (λ o. is_some (option_and_then (get_at (map string_bytes c.args.rest.now)) o))
    (item-found vs within (index c.args.name.now) at is ∙ ap (option_map view) there))

pub swap_in_array-returns-in-Some-get_mut-clause-document : goal.swap_in_array-returns-in-Some-get_mut-clause-document
swap_in_array-returns-in-Some-get_mut-clause-document t c =
    let vs = c.args.items.now.items in let at = c.in-Some.at in let v = c.in-Some-get_mut.item.now in
    let there : slice_get vs at ≡ Some v =
    slice_get_read vs (length vs) at v refl c.in-Some-get_mut.ensures.item.3.0 c.in-Some-get_mut.ensures.value in
    let within : length vs < 2 ^ 64 - 1 = omega arith in
    let is : Some at ≡ option_map (λ n. min n (2 ^ 64 - 1)) (index c.args.name.now) = sym c.in-Some.is ∙ c.index_of.ensures in
    ap array (items-changed vs within (index c.args.name.now) at is _ v c.swap_at.new.target there c.swap_at.ensures.document)

pub swap_in_array-returns-in-Some-get_mut-clause-value : goal.swap_in_array-returns-in-Some-get_mut-clause-value
swap_in_array-returns-in-Some-get_mut-clause-value t c =
    let vs = c.args.items.now.items in let at = c.in-Some.at in let v = c.in-Some-get_mut.item.now in
    let there : slice_get vs at ≡ Some v =
    slice_get_read vs (length vs) at v refl c.in-Some-get_mut.ensures.item.3.0 c.in-Some-get_mut.ensures.value in
    let within : length vs < 2 ^ 64 - 1 = omega arith in
    let is : Some at ≡ option_map (λ n. min n (2 ^ 64 - 1)) (index c.args.name.now) = sym c.in-Some.is ∙ c.index_of.ensures in
    c.swap_at.ensures.value
    ∙ sym (ap (λ o. unwrap_or (option_and_then (get_at (map string_bytes c.args.rest.now)) o) (view c.args.other.now))
    (item-found vs within (index c.args.name.now) at is ∙ ap (option_map view) there))

pub swap_in_array-returns-in-None-clause-there : goal.swap_in_array-returns-in-None-clause-there
swap_in_array-returns-in-None-clause-there t c =
    let vs = c.args.items.now.items in let at = c.in-Some.at in
    let none : slice_get vs at ≡ None = slice_get_past vs at c.in-None.ensures.item.3 in
    let within : length vs < 2 ^ 64 - 1 = omega arith in
    let is : Some at ≡ option_map (λ n. min n (2 ^ 64 - 1)) (index c.args.name.now) = sym c.in-Some.is ∙ c.index_of.ensures in
    sym (ap (λ o. is_some (option_and_then (get_at (map string_bytes c.args.rest.now)) o))
    (item-found vs within (index c.args.name.now) at is ∙ ap (option_map view) none))

pub swap_in_array-returns-in-None-clause-document : goal.swap_in_array-returns-in-None-clause-document
swap_in_array-returns-in-None-clause-document t c =
    let vs = c.args.items.now.items in let at = c.in-Some.at in
    let none : slice_get vs at ≡ None = slice_get_past vs at c.in-None.ensures.item.3 in
    let within : length vs < 2 ^ 64 - 1 = omega arith in
    let is : Some at ≡ option_map (λ n. min n (2 ^ 64 - 1)) (index c.args.name.now) = sym c.in-Some.is ∙ c.index_of.ensures in
    ap array (sym (items-kept vs within (index c.args.name.now) at is _ none))

pub swap_in_array-returns-in-None-clause-value : goal.swap_in_array-returns-in-None-clause-value
swap_in_array-returns-in-None-clause-value t c =
    let vs = c.args.items.now.items in let at = c.in-Some.at in
    let none : slice_get vs at ≡ None = slice_get_past vs at c.in-None.ensures.item.3 in
    let within : length vs < 2 ^ 64 - 1 = omega arith in
    let is : Some at ≡ option_map (λ n. min n (2 ^ 64 - 1)) (index c.args.name.now) = sym c.in-Some.is ∙ c.index_of.ensures in
    sym (ap (λ o. unwrap_or (option_and_then (get_at (map string_bytes c.args.rest.now)) o) (view c.args.other.now))
    (item-found vs within (index c.args.name.now) at is ∙ ap (option_map view) none))

pub swap_in_object-returns-in-Some-clause-there : goal.swap_in_object-returns-in-Some-clause-there
swap_in_object-returns-in-Some-clause-there t c =
    let found : find_member c.args.name.now (members_view c.args.members.now.pairs) ≡ Some (view c.in-Some.member.now) =
    find_member-view c.args.members.now.pairs c.args.name.now ∙ ap (option_map view) (sym c.in-Some.ensures.value) in
    c.swap_at.ensures.there ∙ sym (ap (λ o. is_some (option_and_then (get_at (map string_bytes c.args.rest.now)) o)) found)

pub swap_in_object-returns-in-Some-clause-document : goal.swap_in_object-returns-in-Some-clause-document
swap_in_object-returns-in-Some-clause-document t c =
    ap object (change_member-view _ c.args.members.now.pairs c.args.name.now c.in-Some.member.now c.swap_at.new.target
    c.get_mut.ensures.valid.distinct (sym c.in-Some.ensures.value) c.swap_at.ensures.document)

pub swap_in_object-returns-in-Some-clause-value : goal.swap_in_object-returns-in-Some-clause-value
swap_in_object-returns-in-Some-clause-value t c =
    let found : find_member c.args.name.now (members_view c.args.members.now.pairs) ≡ Some (view c.in-Some.member.now) =
    find_member-view c.args.members.now.pairs c.args.name.now ∙ ap (option_map view) (sym c.in-Some.ensures.value) in
    c.swap_at.ensures.value
    ∙ sym (ap (λ o. unwrap_or (option_and_then (get_at (map string_bytes c.args.rest.now)) o) (view c.args.other.now)) found)

pub swap_in_object-returns-in-None-clause-there : goal.swap_in_object-returns-in-None-clause-there
swap_in_object-returns-in-None-clause-there t c =
    let absent : find_member c.args.name.now (members_view c.args.members.now.pairs) ≡ None =
    find_member-view c.args.members.now.pairs c.args.name.now ∙ ap (option_map view) (sym c.in-None.ensures.value) in
    sym (ap (λ o. is_some (option_and_then (get_at (map string_bytes c.args.rest.now)) o)) absent)

pub swap_in_object-returns-in-None-clause-document : goal.swap_in_object-returns-in-None-clause-document
swap_in_object-returns-in-None-clause-document t c =
    let absent : find_member c.args.name.now (members_view c.args.members.now.pairs) ≡ None =
    find_member-view c.args.members.now.pairs c.args.name.now ∙ ap (option_map view) (sym c.in-None.ensures.value) in
    ap object (sym (change_member-own _ c.args.name.now (members_view c.args.members.now.pairs) (λ j there. absurd (cc (absent, there)))))

pub swap_in_object-returns-in-None-clause-value : goal.swap_in_object-returns-in-None-clause-value
swap_in_object-returns-in-None-clause-value t c =
    let absent : find_member c.args.name.now (members_view c.args.members.now.pairs) ≡ None =
    find_member-view c.args.members.now.pairs c.args.name.now ∙ ap (option_map view) (sym c.in-None.ensures.value) in
    sym (ap (λ o. unwrap_or (option_and_then (get_at (map string_bytes c.args.rest.now)) o) (view c.args.other.now)) absent)
