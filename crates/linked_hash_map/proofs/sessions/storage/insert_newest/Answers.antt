use Rattle.linked_hash_map.proofs.Names.{ap, eqb as nat_eq, option_map, rules, sym, ◌∙◌, ◌≡◌, sessions_of}
use Rattle.linked_hash_map.proofs.session_table.Pairs.{payload_of-sessions_of, sessions_of-to_back}
use Rattle.linked_hash_map.specs.Pairs as pairs
use Rattle.linked_hash_map.proofs.sessions.storage.insert_newest.Goals as goal

pub returns-clause-sessions : goal.returns-clause-sessions
returns-clause-sessions g c =
    let ps = c.args.map.now.pairs in
    ap sessions_of (c.in-Ok.ensures.pairs ∙ ap (λ mode. pairs.put nat_eq mode ps c.args.id
    (record { weight = c.args.weight; payload = c.args.payload })) c.requires.mode)
    ∙ sessions_of-to_back ps c.args.id _

pub returns-clause-old : goal.returns-clause-old
returns-clause-old g c =
    let mapped : c.map.result ≡ option_map (λ weighted. weighted.payload) c.in-Ok.old = search rules in
    mapped ∙ ap (option_map (λ weighted. weighted.payload)) c.in-Ok.ensures.old
    ∙ sym (payload_of-sessions_of c.args.map.now.pairs c.args.id)
