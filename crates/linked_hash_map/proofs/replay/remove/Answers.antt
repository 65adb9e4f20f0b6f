use Rattle.linked_hash_map.proofs.Names.{inl, inr, sym, ◌∙◌}
use Rattle.linked_hash_map.proofs.{pairs.Calls.find-none, pairs.Calls.without-absent, runs.Steps.Serves-keeps}
use Rattle.linked_hash_map.proofs.runs.Effects.{Defines-nothing, Defines-remove, HasValue-value, IsAbsent-value}
use Rattle.linked_hash_map.proofs.replay.remove.Goals as goal

pub returns-in-Some : goal.returns-in-Some
returns-in-Some g c =
    let done = c.in-Some.ensures in
    Serves-keeps done.keeps (λ start log defines. (
      HasValue-value g.met.K.Eq.laws defines c.args.key (sym done.value),
      Defines-remove g.met.K.Eq.laws defines c.args.key done.pairs done.keeps.capacity done.keeps.mode,
    )) (inl done.ends_visit)

pub returns : goal.returns
returns g c =
    let done = c.in-None.ensures in
    let none = find-none g.K.PartialEq.eq c.args.map.now.pairs c.args.key (sym done.value) in
    let same = without-absent g.K.PartialEq.eq c.args.map.now.pairs c.args.key none in
    Serves-keeps done.keeps (λ start log defines. (
      IsAbsent-value g.met.K.Eq.laws defines c.args.key (sym done.value),
      Defines-nothing g.met.K.Eq.laws defines (done.pairs ∙ same) done.keeps.capacity done.keeps.mode,
    )) (inr done.to_visit)
