use Rattle.std.proofs.Common.{sym, ◌∙◌}
use Rattle.linked_hash_map.proofs.Callers.KeyOrder.{keys_of_moved}
use Rattle.uses.proofs.switcher.Switcher.focus.Goals as goal

pub returns-clause-order : goal.returns-clause-order
returns-clause-order c = λ there. keys_of_moved c.args.self.now.windows.pairs c.move_to_front.new.self.pairs
    c.args.window c.move_to_front.ensures.pairs (sym c.move_to_front.ensures.found ∙ there)
