use Rattle.std.proofs.Common.{◌≡◌, List, ◌++◌, drop}
use Rattle.std.specs.Map.{values_of}
use Rattle.json.specs.Json.{no_members}
use Rattle.json.specs.Tree.{items_tokens, members_tokens}
use Rattle.ordered_json.specs.Read.{each_resolved, put_each}
use Rattle.ordered_json.specs.View.{items_view, members_view}
use Rattle.ordered_json.specs.declared.value.Value.{Value}
use Rattle.ordered_json.proofs.Views.{Entry}
use Rattle.ordered_json.proofs.write.+write.Given as goal

abbrev pub invariant-write_items-loop-item : goal.invariant-write_items-loop-item
invariant-write_items-loop-item g l =
    let all = items_view l.item-items in
    let left = items_view (drop l.item-index l.item-items) in
    (g.W.Tokens.written l.out ++ items_tokens left ≡ g.W.Tokens.written l.initial.out ++ items_tokens all)
    × (each_resolved left ≡ left → each_resolved all ≡ all)

-- the last part is for the measure: a member is less deep than the object
abbrev pub invariant-write_members-loop-name : goal.invariant-write_members-loop-name
invariant-write_members-loop-name g l =
    let all = members_view l.members.pairs in
    let left = members_view l.name-iterator in
    (done : List Entry) × (l.members.pairs ≡ done ++ l.name-iterator)
    × (g.W.Tokens.written l.out ++ members_tokens left ≡ g.W.Tokens.written l.initial.out ++ members_tokens all)
    × (put_each all no_members ≡ put_each left (members_view done))
    × (front : List Value) × (values_of l.members.pairs ≡ front ++ values_of l.name-iterator)
