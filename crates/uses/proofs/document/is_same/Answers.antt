use Rattle.linked_hash_map.proofs.Callers.Prelude.{unsigned_Decides, eq-Decides}
use Rattle.uses.proofs.document.is_same.Goals as goal

pub returns : goal.returns
returns c = eq-Decides c.args.a.now.fields c.args.b.now.fields c.eq.result
    unsigned_Decides unsigned_Decides c.eq.ensures
