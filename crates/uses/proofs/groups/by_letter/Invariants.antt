use Rattle.std.{proofs.Common.nat_eq, proofs.Common.take, specs.Prelude.slice_get}
use Rattle.linked_hash_map.proofs.Callers.Groups.{GroupsItems}
use Rattle.uses.specs.Groups.{Word}
use Rattle.uses.proofs.groups.by_letter.Given as goal

abbrev pub invariant-loop-word : goal.invariant-loop-word
invariant-loop-word l = GroupsItems nat_eq (λ (word : Word). slice_get word.now 0)
    l.groups.pairs (take l.word-index l.words)
