use Rattle.std.proofs.Common.{◌∷◌, [], ◌∙◌, sym, subst, map-id, arith, length-append}
use Rattle.std.proofs.lemmas.Iterator.{Adapters.YieldsList-from_vec, Consumers.YieldsList-end}
use Rattle.lru_cache.{specs.Runs.Runs, proofs.Runs.Runs-snoc, proofs.Unlimited.HasNewest-run}
use Rattle.lru_cache.proofs.replay.replay.Goals as goal

pub loop-command-preserved : goal.loop-command-preserved
loop-command-preserved g c =
    let i = c.loop-command.invariant in let command = c.in-Some.command in
    record {
      run = rw c.push_reserved.ensures.items (Runs-snoc g.K.PartialEq.eq c.loop-command.cache c.answer_to.new.cache command
          c.answer_to.result c.answer_to.ensures c.args.cache.now c.loop-command.yielded c.loop-command.answers.items i.run);
      count = let l = length-append c.loop-command.yielded (command ∷ []) in
          let n = c.push_reserved.ensures.len in let k = i.count in
          omega arith;
      room = rw c.push_reserved.ensures.capacity i.room;
    }

-- what holds of the commands that the loop took holds of all of them
pub returns-clause-run : goal.returns-clause-run
returns-clause-run g c =
    let gives = c.into_iter-command-iterator.ensures.into_iter_gives in
    let end = YieldsList-end
    (YieldsList-from_vec c.args.commands.items gives.0 (gives.1 ∙ c.args.commands.ok.0))
    c.loop-command.yielded c.loop-command.command-iterator c.loop-command.yielded_by c.next.result
    c.next.new.self c.in-None.is c.next.ensures.steps in
    subst (λ cs. Runs g.K.PartialEq.eq c.args.cache.now cs c.loop-command.answers.items c.loop-command.cache)
    (sym (map-id c.loop-command.yielded) ∙ end.0) c.loop-command.invariant.run

pub returns-clause-newest : goal.returns-clause-newest
returns-clause-newest g c = HasNewest-run g.met.K.Eq.laws c.args.cache.now c.loop-command.cache c.args.commands.items
    c.loop-command.answers.items c.is_empty-is_empty.ensures.valid (returns-clause-run g c)
