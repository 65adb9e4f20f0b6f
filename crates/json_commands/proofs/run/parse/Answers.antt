use Rattle.std.proofs.Common.{◌≡◌, Err, true, rules}
use Rattle.std.specs.Prelude.{is_ok}
use Rattle.json_commands.proofs.Steps.{edits_behind-said, edits_behind-fault}
use Rattle.json_commands.proofs.run.parse.Goals as goal

pub returns-in_err-command : goal.returns-in_err-command
returns-in_err-command c =
    let is : c.from_residual.result ≡ Err c.in_err-command.field-0.0 = search rules in
    rw is (edits_behind-fault c.args.texts.now c.loop-i.i c.index-texts-i.result c.loop-i.commands.items _ (search rules)
    c.index-texts-i.is c.loop-i.invariant c.in_err-command.field-0.0 (rw c.as_str.ensures.value at c.in_err-command.ensures))

pub loop-i-preserved : goal.loop-i-preserved
loop-i-preserved c =
    let ok : is_ok c.push.result ≡ true = search rules in
    rw (c.push.ensures.items, ok) (edits_behind-said c.args.texts.now c.loop-i.i c.index-texts-i.result c.loop-i.commands.items _
    (search rules) c.index-texts-i.is c.loop-i.invariant c.in_ok-command.command
    (rw c.as_str.ensures.value at c.in_ok-command.ensures))
