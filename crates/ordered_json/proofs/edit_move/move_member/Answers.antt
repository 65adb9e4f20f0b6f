use Rattle.std.proofs.Common.{◌&&◌, is_some, ap, sym, ◌∙◌}
use Rattle.linked_hash_map.specs.Pairs.{find}
use Rattle.linked_hash_map.proofs.Callers.Texts.{is_text}
use Rattle.ordered_json.proofs.Moves.{move_child-absent, move_child-moved, move_child-own}
use Rattle.ordered_json.proofs.edit_move.move_member.Goals as goal

pub returns-then-contains_key-clause-child : goal.returns-then-contains_key-clause-child
returns-then-contains_key-clause-child c =
    move_child-own c.args.behind c.args.members.now.pairs c.args.name.now c.args.other.now (sym c.if-eq.ensures)
    (sym c.if-contains_key.ensures)

pub returns-then-eq-clause-why : goal.returns-then-eq-clause-why
returns-then-eq-clause-why c =
    let pairs = c.args.members.now.pairs in let other = c.args.other.now in
    move_child-absent c.args.behind pairs c.args.name.now other
    (ap (λ b. b && is_some (find is_text pairs other)) (sym c.if-contains_key.ensures))

pub returns-then-move_pair-clause-child : goal.returns-then-move_pair-clause-child
returns-then-move_pair-clause-child c =
    move_child-moved c.args.behind c.args.members.now.pairs c.args.name.now c.args.other.now c.move_pair.new.members.pairs
    c.move_pair.ensures.distinct (sym c.if-eq.ensures) (sym c.move_pair.ensures.found ∙ c.if-move_pair.true)
    (c.move_pair.ensures.pairs c.if-move_pair.true)

pub returns-else-move_pair-clause-why : goal.returns-else-move_pair-clause-why
returns-else-move_pair-clause-why c =
    move_child-absent c.args.behind c.args.members.now.pairs c.args.name.now c.args.other.now
    (sym c.move_pair.ensures.found ∙ c.if-move_pair.false)
