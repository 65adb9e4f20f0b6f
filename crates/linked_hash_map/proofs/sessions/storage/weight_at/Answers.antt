use Rattle.linked_hash_map.proofs.{Names.ap, Names.option_map, Names.sym, Names.◌∙◌, session_table.Pairs.weight-sessions_of}
use Rattle.linked_hash_map.proofs.sessions.storage.weight_at.Goals as goal

pub returns-in-Some : goal.returns-in-Some
returns-in-Some g c = ap (option_map (λ weighted. weighted.weight)) c.in-Some.ensures
    ∙ sym (weight-sessions_of c.args.map.now.pairs c.args.id)

pub returns-in-None : goal.returns-in-None
returns-in-None g c = ap (option_map (λ weighted. weighted.weight)) c.in-None.ensures
    ∙ sym (weight-sessions_of c.args.map.now.pairs c.args.id)
