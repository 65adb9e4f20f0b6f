use Rattle.std.proofs.Common.{option_map, ap, ◌∙◌}
use Rattle.linked_hash_map.proofs.Callers.Texts.{find-is_text}
use Rattle.ordered_json.proofs.Views.{Entry}
use Rattle.ordered_json.proofs.edit_rename.push_name.Goals as goal

pub returns-in-Ok-insert-clause-pairs : goal.returns-in-Ok-insert-clause-pairs
returns-in-Ok-insert-clause-pairs c =
    let pairs = c.args.members.now.pairs in let name = c.args.name.now in (
      c.in-Ok.key,
      c.in-Ok.ensures.ok,
      c.in-Ok-insert.ensures.pushed
          (ap (option_map (λ (pair : Entry). pair.1)) (find-is_text pairs name c.in-Ok.key c.in-Ok.ensures.ok) ∙ c.requires),
    )

pub returns-in-Ok-insert-clause-distinct : goal.returns-in-Ok-insert-clause-distinct
returns-in-Ok-insert-clause-distinct c = c.insert.ensures.valid.distinct
