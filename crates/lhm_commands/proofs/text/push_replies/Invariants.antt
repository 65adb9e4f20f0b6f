use Rattle.std.{proofs.Common.◌≡◌, proofs.Common.◌++◌, proofs.Common.take, proofs.Common.string_bytes, specs.Prelude.flat_map}
use Rattle.lhm_commands.specs.Text.{reply_text}
use Rattle.lhm_commands.proofs.text.push_replies.Given as goal

abbrev pub invariant-loop-reply : goal.invariant-loop-reply
invariant-loop-reply l =
    string_bytes l.text ≡ string_bytes l.initial.text ++ flat_map reply_text (take l.reply-index l.replies)
