use Rattle.linked_hash_map.proofs.Callers.KeyOrder.{keys_of_removed}
use Rattle.uses.proofs.switcher.Switcher.close.Goals as goal

pub returns-clause-order : goal.returns-clause-order
returns-clause-order c = keys_of_removed c.args.self.now.windows.pairs c.remove.new.self.pairs
    c.args.window c.remove.ensures.pairs
