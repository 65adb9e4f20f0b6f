use Rattle.linked_hash_map.proofs.Callers.Texts.{by_bytes-inserted}
use Rattle.upgrade.proofs.text_map.TextMap.set.Goals as goal

pub returns-clause-set : goal.returns-clause-set
returns-clause-set c = let old = c.self.inside.numbers in let name = c.in_ok-to_string in by_bytes-inserted old.mode old.pairs
    name.field-0 c.args.number c.args.text.now c.in_ok-insert.ensures.pairs c.self.invariant name.ensures.ok c.self.view_is
