use Rattle.std.proofs.Common.{arith}
use Rattle.linked_hash_set.proofs.Callers.Texts.{without-push_text}
use Rattle.uses.proofs.members.Members.rename.Goals as goal

pub returns-clause-renamed : goal.returns-clause-renamed
returns-clause-renamed c =
    let stays = without-push_text c.args.self.now.names.items c.args.name.now in grind (arith, stays)
