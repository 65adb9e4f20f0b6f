use Rattle.linked_hash_map.proofs.Callers.Texts.{value_at-by_bytes, by_bytes-removed}
use Rattle.upgrade.proofs.text_map.TextMap.remove.Goals as goal

pub returns-clause-number : goal.returns-clause-number
returns-clause-number c = let e = value_at-by_bytes c.self.inside.numbers.pairs c.args.text.now in cc

pub returns-clause-others : goal.returns-clause-others
returns-clause-others c = by_bytes-removed c.self.inside.numbers.pairs c.args.text.now c.remove.ensures.pairs c.self.view_is
