use Rattle.std.proofs.Common.{rules, [], arith}
use Rattle.linked_hash_map.proofs.Callers.Groups.{GroupsItems-pushed_number}
use Rattle.uses.proofs.groups.by_letter.Goals as goal

pub loop-word-preserved : goal.loop-word-preserved
loop-word-preserved c = GroupsItems-pushed_number c.args.words.now c.loop-word.word-index
    (record { ref_ptr = (0, 0); now = [] }) c.push.new.self c.loop-word.invariant (omega arith)
    (search rules) c.entry.ensures.acts (search rules) (search rules)
