use Rattle.linked_hash_map.proofs.Callers.Prelude.{arith, keys_of-front_few, value_at-front_kept}
use Rattle.linked_hash_map.proofs.Callers.Rules.{front_keys, keys_of-put_to_front}
use Rattle.upgrade.proofs.tabs.Closed.close.Goals as goal

pub returns-then-len-self-clause-tabs : goal.returns-then-len-self-clause-tabs
returns-then-len-self-clause-tabs c = search (arith, front_keys, keys_of-put_to_front, c.in-Ok.ensures.pairs, c.pop_back.ensures.pairs)

pub returns-else-len-self-clause-tabs : goal.returns-else-len-self-clause-tabs
returns-else-len-self-clause-tabs c = search (arith, c.in-Ok.ensures.pairs, keys_of-front_few)

pub returns-then-len-self-clause-page : goal.returns-then-len-self-clause-page
returns-then-len-self-clause-page c some = value_at-front_kept c.args.tab c.in-Ok.ensures.updates
    c.move_to_front.ensures.pairs c.pop_back.ensures.pairs (omega arith)
