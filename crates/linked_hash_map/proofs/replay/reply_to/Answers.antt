use Rattle.linked_hash_map.proofs.Names.{ap, length, sym, ◌∙◌, log_after, rechained_after}
use Rattle.linked_hash_map.proofs.log.HighWater.{size-pairs}
use Rattle.linked_hash_map.proofs.replay.reply_to.Goals as goal

pub returns-clause-reply : goal.returns-clause-reply
returns-clause-reply g c start log defines =
    let after = c.answer_to-answer.ensures.defines start log defines in
    record {
      allowed = record {
        answers = c.answer_to-answer.ensures.answers start log defines;
        limit = rw after.same_capacity c.capacity.ensures.valid.limit;
      };
      len = c.len.ensures.len ∙ ap length (sym after.same_pairs) ∙ sym (size-pairs g.K.PartialEq.eq
          (log_after g.K.PartialEq.eq log c.args.command c.answer_to-answer.result));
      capacity = c.capacity.ensures.capacity ∙ sym after.same_capacity;
    }

pub returns-clause-rechained : goal.returns-clause-rechained
returns-clause-rechained g c =
    let m = c.args.map.now in
    c.answer_to-answer.ensures.rechained
    ∙ ap (rechained_after c.args.command m.rechained (length m.pairs) m.capacity) (sym c.capacity.ensures.capacity)
