use Rattle.std.proofs.Common.{sym, ap, ◌∙◌, []}
use Rattle.linked_hash_set.{specs.Inserts.insert_each, specs.Items.contains, proofs.Callers.Operations.contains-insert_each}
use Rattle.linked_hash_set.proofs.set.LinkedHashSet.from_iter.Goals as goal

pub returns-in-Err-clause-stopped : goal.returns-in-Err-clause-stopped
returns-in-Err-clause-stopped g c =
    let eq = g.T.PartialEq.eq in let until = c.in-Err.ensures.stopped in let item = c.in-Err.refused.item in
    record {
      given = until.given;
      gives = until.gives;
      absent = sym (contains-insert_each g.met.T.Eq.laws [] until.given item)
          ∙ ap (λ items. contains eq (insert_each eq items until.given) item) (sym c.with_hasher-set.ensures.items)
          ∙ ap (λ items. contains eq items item) (sym until.items) ∙ c.in-Err.ensures.absent;
    }
