use Rattle.linked_hash_map.proofs.Names.{ap, arith, drop, length, length-drop, subst, sym, take, ◌∙◌, without_first, CalledWithSession}
use Rattle.linked_hash_map.proofs.Names.{Session, sessions_of, FoldsTo-push, drop-drop, FoldsTo}
use Rattle.linked_hash_map.proofs.lists.Elements.{cons-without_first, length-first_none}
use Rattle.linked_hash_map.proofs.session_table.{HandOuts.take-at, HandOuts.take-next, Puts.sessions_of-drop}
use Rattle.linked_hash_map.proofs.sessions.storage.remove_oldest.Goals as goal

pub unreachable-requires : goal.unreachable-requires
unreachable-requires g c =
    let none = length-first_none c.loop.map.pairs (sym c.in_default.ensures.pair) in
    let left = length-drop c.loop.counter c.args.map.now.pairs in
    omega (arith, ap length c.loop.invariant.pairs)

pub gone-requires : goal.gone-requires
gone-requires g c =
    let i = c.loop.invariant in let all = sessions_of c.args.map.now.pairs in
    let session : Session g.row.T.Denot = (c.in-Some.id, c.in-Some.weighted.weight, c.in-Some.weighted.payload) in
    let first = cons-without_first c.loop.map.pairs (c.in-Some.id, c.in-Some.weighted) c.in-Some.ensures.pair in
    let split = take-at all c.loop.counter c.args.count session (sessions_of (without_first c.loop.map.pairs)) c.loop-test.true
    (sym (sessions_of-drop c.loop.counter c.args.map.now.pairs) ∙ ap sessions_of (sym i.pairs) ∙ ap sessions_of (sym first)) in
    c.requires.callable.at (take c.loop.counter all) split.0 session c.loop.gone split.1 i.gone

pub loop-preserved : goal.loop-preserved
loop-preserved g c =
    let i = c.loop.invariant in let all = sessions_of c.args.map.now.pairs in
    let session : Session g.row.T.Denot = (c.in-Some.id, c.in-Some.weighted.weight, c.in-Some.weighted.payload) in
    let first = cons-without_first c.loop.map.pairs (c.in-Some.id, c.in-Some.weighted) c.in-Some.ensures.pair in
    let next = take-next all c.loop.counter session (sessions_of (without_first c.loop.map.pairs))
    (sym (sessions_of-drop c.loop.counter c.args.map.now.pairs) ∙ ap sessions_of (sym i.pairs) ∙ ap sessions_of (sym first)) in
    record {
      pairs = c.pop_front.ensures.pairs ∙ ap (drop 1) i.pairs ∙ drop-drop 1 c.loop.counter c.args.map.now.pairs;
      gone =
          subst (λ sessions. FoldsTo (CalledWithSession g.F.FnMut) c.args.gone.now sessions c.gone.new.self) (sym next)
          (FoldsTo-push (CalledWithSession g.F.FnMut) c.args.gone.now (take c.loop.counter all) c.loop.gone session
          c.gone.new.self i.gone (record { called = c.gone.ensures }));
      capacity = c.pop_front.ensures.keeps.capacity ∙ i.capacity;
      mode = c.pop_front.ensures.keeps.mode ∙ i.mode;
      valid = c.pop_front.ensures.stays_valid;
    }
