use Rattle.linked_hash_map.proofs.session_table.Leaving.{AreLeaving-past, IsPast, IsPast-more, few-past}
use Rattle.linked_hash_map.proofs.{Names.arith, Names.subst, Names.sessions_of, session_table.Pairs.length-sessions_of}
use Rattle.linked_hash_map.proofs.sessions.storage.find_leaving.Goals as goal

pub returns-then-staying-weight_left : goal.returns-then-staying-weight_left
returns-then-staying-weight_left g c =
    AreLeaving-past c.args.id c.args.weight_left (sessions_of c.args.map.now.pairs)
    (sessions_of c.loop-other.other-iterator) c.loop-other.invariant (omega arith)

pub overflow_add-count : goal.overflow_add-count
overflow_add-count g c =
    let all = sessions_of c.args.map.now.pairs in
    let few = few-past c.args.id c.args.weight_left all (sessions_of c.loop-other.other-iterator) c.loop-other.invariant in
    let valid = c.iter-other-items.ensures.valid in
    omega (arith, valid.within, valid.limit, length-sessions_of c.args.map.now.pairs)

pub loop-other-preserved-then-id-other : goal.loop-other-preserved-then-id-other
loop-other-preserved-then-id-other g c =
    let all = sessions_of c.args.map.now.pairs in
    let past = subst (λ ps. IsPast c.args.id c.args.weight_left all c.loop-other.count
    c.loop-other.staying (sessions_of ps)) c.in-Some.ensures.steps c.loop-other.invariant in
    IsPast-more c.args.id c.args.weight_left all _ _ past c.if-id-other.true c.if-staying-weight_left.false
