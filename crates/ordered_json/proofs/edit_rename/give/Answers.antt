use Rattle.std.proofs.Common.{sym}
use Rattle.linked_hash_map.proofs.Callers.Keys.{find-none, set_value-none}
use Rattle.linked_hash_map.proofs.Callers.Texts.{is_text}
use Rattle.ordered_json.proofs.edit_rename.give.Goals as goal

pub returns-in-None : goal.returns-in-None
returns-in-None c =
    let pairs = c.args.members.now.pairs in let name = c.args.name.now in
    rw c.in-Some.is (sym (set_value-none is_text pairs name c.in-Some.value (find-none is_text pairs name (sym c.in-None.ensures.value))))
