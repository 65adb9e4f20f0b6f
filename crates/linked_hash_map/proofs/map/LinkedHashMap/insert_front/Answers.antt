use Rattle.linked_hash_map.proofs.{Names.ap, Names.is_some, Names.sym, Names.◌∙◌, Callers.Fronts.Updates-reordered}
use Rattle.linked_hash_map.proofs.{Callers.Fronts.first-put_front, Callers.Fronts.put_front-put, pairs.Calls.is_some-value_at}
use Rattle.linked_hash_map.proofs.map.LinkedHashMap.insert_front.Goals as goal

pub returns-in-Ok-Some-clause-pairs : goal.returns-in-Ok-Some-clause-pairs
returns-in-Ok-Some-clause-pairs g c =
    let i = c.in-Ok-Some.ensures in
    put_front-put g.K.PartialEq.eq c.args.self.now.mode c.args.self.now.pairs c.args.key c.args.value
    (sym (is_some-value_at g.K.PartialEq.eq c.args.self.now.pairs c.args.key)
    ∙ sym (ap is_some i.old) ∙ ap is_some c.in-Ok-Some.field-0-is) _ _ i.pairs
    (λ touch. c.touch_front.ensures.touch (i.settings.mode ∙ touch)) (λ keep. c.touch_front.ensures.keep (i.settings.mode ∙ keep))

pub returns-in-Ok-Some-clause-updates : goal.returns-in-Ok-Some-clause-updates
returns-in-Ok-Some-clause-updates g c = Updates-reordered c.touch_front.ensures.finds c.in-Ok-Some.ensures.updates

pub returns-in-Ok-Some-clause-first : goal.returns-in-Ok-Some-clause-first
returns-in-Ok-Some-clause-first g c = first-put_front g.K.PartialEq.eq c.args.self.now.mode c.args.self.now.pairs
    c.args.key c.args.value _ (returns-in-Ok-Some-clause-pairs g c)

pub returns-in-Ok-None-clause-updates : goal.returns-in-Ok-None-clause-updates
returns-in-Ok-None-clause-updates g c = Updates-reordered c.last_to_front.ensures.finds c.in-Ok-None.ensures.updates

pub returns-in-Ok-Some-clause-same_room : goal.returns-in-Ok-Some-clause-same_room
returns-in-Ok-Some-clause-same_room g c = λ room. c.touch_front.ensures.keeps.capacity ∙ c.in-Ok-Some.ensures.same_room room

pub returns-in-Ok-None-clause-same_room : goal.returns-in-Ok-None-clause-same_room
returns-in-Ok-None-clause-same_room g c = λ room. c.last_to_front.ensures.keeps.capacity ∙ c.in-Ok-None.ensures.same_room room
