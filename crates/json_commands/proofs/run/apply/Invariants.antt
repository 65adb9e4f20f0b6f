use Rattle.std.proofs.Common.{◌≡◌, ◌+◌, ℕ, suc, length, map}
use Rattle.std.specs.Vec.Iter.{into_iter_items, into_iter_len}
use Rattle.ordered_json.specs.View.{view}
use Rattle.json_commands.specs.{Commands.edit, Runs.after}
use Rattle.json_commands.proofs.run.apply.Given as goal

-- what is left of the commands leads to the same end
abbrev pub invariant-loop-command : goal.invariant-loop-command
invariant-loop-command l =
    record {
      counted : l.number + into_iter_len l.command-iterator ≡ length l.fn.commands.items;
      len : into_iter_len l.command-iterator ≡ length (into_iter_items l.command-iterator);
      same : after 1 (map edit l.fn.commands.items) (view l.fn.document)
          ≡ after (suc l.number) (map edit (into_iter_items l.command-iterator)) (view l.document);
    }
