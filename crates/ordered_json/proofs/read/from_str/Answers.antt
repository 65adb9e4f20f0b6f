use Rattle.std.proofs.Common.{◌≡◌, [], rules}
use Rattle.json.specs.Json.{value}
use Rattle.json.specs.Lex.{tokens}
use Rattle.ordered_json.proofs.Reading.{whole_read}
use Rattle.ordered_json.proofs.Depths.{depth-read}
use Rattle.ordered_json.proofs.read.from_str.Goals as goal

pub returns-in-None-clause-depth : goal.returns-in-None-clause-depth
returns-in-None-clause-depth c =
    let none : c.read.new.reader ≡ [] = search rules in
    let read = rw (c.in-Ok.ensures.ok, none) at c.in-Ok-read.ensures.value in
    depth-read c.args.text.now _ (whole_read (value 127 (tokens c.args.text.now)) _ read)
