use Rattle.linked_hash_map.proofs.Callers.Texts.{value_at-by_bytes}
use Rattle.upgrade.proofs.text_map.TextMap.get.Goals as goal

pub returns : goal.returns
returns c = let e = value_at-by_bytes c.self.inside.numbers.pairs c.args.text.now in cc
