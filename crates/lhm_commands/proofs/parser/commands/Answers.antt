use Rattle.std.proofs.Common.{ℕ, ◌≡◌, ◌+◌, List, [], ◌∷◌, rules, arith, append_assoc, add_assoc, ap, Err, inl, inr}
use Rattle.std.proofs.lemmas.List.{append-nil, nil_from_length}
use Rattle.linked_hash_map.specs.declared.replay.Command.{Command}
use Rattle.lhm_commands.specs.{Grammar.lines_of, Grammar.words_of, Commands.IsSaidBy, Commands.AreCommandsOf, Commands.IsFirstInvalid}
use Rattle.lhm_commands.proofs.Lines.{AreCommandsOf-blank, AreCommandsOf-said, IsFirstInvalid-one, IsFirstInvalid-add}
use Rattle.lhm_commands.proofs.parser.commands.Goals as goal

pub returns-in-Err-NotACommand-clause-err : goal.returns-in-Err-NotACommand-clause-err
returns-in-Err-NotACommand-clause-err c =
    let invalid = c.in-Err-NotACommand.ensures.err (ap Err c.in-Err-NotACommand.field-0-is) in
    let line = c.split_line.result.0.now in
    (line, c.loop-rest.invariant.first_invalid 1 line (rw c.split_line.ensures.lines (IsFirstInvalid-one _ _ invalid)))

pub loop-rest-preserved-in-Ok-None : goal.loop-rest-preserved-in-Ok-None
loop-rest-preserved-in-Ok-None c =
    let blank : words_of c.split_line.result.0.now ≡ [] = rw c.in-Ok-None.field-0-is at c.in-Ok-None.ensures.ok in
    record {
      said = λ (cs : List (Command ℕ ℕ)) (said : AreCommandsOf (lines_of c.split_line.result.1.now) cs).
          let more = AreCommandsOf-blank c.split_line.result.0.now (lines_of c.split_line.result.1.now) cs blank said in
          c.loop-rest.invariant.said cs (rw c.split_line.ensures.lines more);
      first_invalid = λ (n : ℕ) (line : List ℕ) (first : IsFirstInvalid (lines_of c.split_line.result.1.now) n line).
          rw add_assoc (c.loop-rest.invariant.first_invalid (1 + n) line
          (rw c.split_line.ensures.lines (IsFirstInvalid-add c.split_line.result.0.now _ n line (inl blank) first)));
      counted = omega arith;
    }

pub loop-rest-preserved : goal.loop-rest-preserved
loop-rest-preserved c =
    let says : IsSaidBy c.in-Ok-Some.command (words_of c.split_line.result.0.now) = rw c.in-Ok-Some.field-0-is at c.in-Ok-Some.ensures.ok in
    record {
      said = λ (cs : List (Command ℕ ℕ)) (said : AreCommandsOf (lines_of c.split_line.result.1.now) cs).
          let command = c.in-Ok-Some.command in
          let more = AreCommandsOf-said c.split_line.result.0.now (lines_of c.split_line.result.1.now) command cs says said in
          let whole = c.loop-rest.invariant.said (command ∷ cs) (rw c.split_line.ensures.lines more) in
          rw (c.in_ok-push-in-Ok-Some.ensures.items, append_assoc) whole;
      first_invalid = λ (n : ℕ) (line : List ℕ) (first : IsFirstInvalid (lines_of c.split_line.result.1.now) n line).
          rw add_assoc (c.loop-rest.invariant.first_invalid (1 + n) line
          (rw c.split_line.ensures.lines (IsFirstInvalid-add c.split_line.result.0.now _ n line (inr (c.in-Ok-Some.command, says)) first)));
      counted = omega arith;
    }

pub returns-clause-ok : goal.returns-clause-ok
returns-clause-ok c =
    let none : c.loop-rest.rest.now ≡ [] = nil_from_length c.loop-rest.rest.now (search rules) in
    let nothing : AreCommandsOf (lines_of c.loop-rest.rest.now) [] = rw none tt in
    rw append-nil at (c.loop-rest.invariant.said [] nothing)
