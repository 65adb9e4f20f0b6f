use Rattle.linked_hash_map.proofs.Names.{length, refl, subst, sym, ◌+◌, ◌∙◌, ◌≤◌}
use Rattle.linked_hash_map.proofs.pairs.{Inserts.length-put_most, RehashCounts.rechained_each-insert}
use Rattle.linked_hash_map.proofs.runs.Effects.{Defines-put, HasValue-value, IsAbsent-found, IsAbsent-value, IsFull-contents}
use Rattle.linked_hash_map.proofs.runs.{Steps.Serves-unchanged, VisitEnds.MayEndVisit-insert}
use Rattle.linked_hash_map.proofs.replay.insert.Goals as goal

pub returns-in-Ok-None : goal.returns-in-Ok-None
returns-in-Ok-None g c =
    let done = c.in-Ok-None.ensures in
    record {
      answers = λ start log defines. IsAbsent-value g.met.K.Eq.laws defines c.args.key (sym done.old ∙ c.in-Ok-None.field-0-is);
      defines = λ start log defines. Defines-put g.met.K.Eq.laws defines c.args.key c.args.value
          done.pairs done.capacity done.settings.mode;
      hasher = done.settings.hasher;
      rechained = rechained_each-insert _ done.valid.within
          (subst (λ ps. length ps ≤ length c.args.map.now.pairs + 1) (sym done.pairs)
          (length-put_most g.K.PartialEq.eq c.args.map.now.mode c.args.map.now.pairs c.args.key c.args.value))
          done.capacity done.rechained;
      visit = MayEndVisit-insert c.in-Ok-None.field-0 done.ends_visit done.to_visit;
    }

pub returns-in-Ok-Some : goal.returns-in-Ok-Some
returns-in-Ok-Some g c =
    let done = c.in-Ok-Some.ensures in
    record {
      answers = λ start log defines. HasValue-value g.met.K.Eq.laws defines c.args.key (sym done.old ∙ c.in-Ok-Some.field-0-is);
      defines = λ start log defines. Defines-put g.met.K.Eq.laws defines c.args.key c.args.value
          done.pairs done.capacity done.settings.mode;
      hasher = done.settings.hasher;
      rechained = rechained_each-insert _ done.valid.within
          (subst (λ ps. length ps ≤ length c.args.map.now.pairs + 1) (sym done.pairs)
          (length-put_most g.K.PartialEq.eq c.args.map.now.mode c.args.map.now.pairs c.args.key c.args.value))
          done.capacity done.rechained;
      visit = MayEndVisit-insert c.in-Ok-Some.field-0 done.ends_visit done.to_visit;
    }

pub returns-in-Err : goal.returns-in-Err
returns-in-Err g c =
    let refused = c.in-Err.ensures in
    Serves-unchanged g.met.K.Eq.laws refused.unchanged (λ log. refl) (λ start log defines. (
      (
        IsAbsent-found g.met.K.Eq.laws defines c.args.key refused.absent,
        IsFull-contents g.met.K.Eq.laws defines refused.full,
      ),
      refused.key_back,
      refused.value_back,
    ))
