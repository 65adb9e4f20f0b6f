use Rattle.linked_hash_map.proofs.Names.{ap, arith, drop, length, not, subst, sym, take, true≢false, ◌∙◌, CallableWithEachSession}
use Rattle.linked_hash_map.proofs.Names.{CalledWithSession, payload_of, sessions_of, FoldsTo}
use Rattle.linked_hash_map.proofs.session_table.Puts.{few-new, length-drop_new, not-absent, payload_of-drop_new, sessions_of-drop, take-new}
use Rattle.linked_hash_map.proofs.session_table.Puts.{with_last-drop}
use Rattle.linked_hash_map.proofs.sessions.storage.store.Goals as goal

pub remove_oldest-requires-clause-enough : goal.remove_oldest-requires-clause-enough
remove_oldest-requires-clause-enough g c =
    few-new c.args.map.now.pairs c.args.count c.args.session.0 (c.requires.present ∙ ap not c.if-is_new.true) c.requires.enough

pub remove_oldest-requires-clause-callable : goal.remove_oldest-requires-clause-callable
remove_oldest-requires-clause-callable g c =
    subst (CallableWithEachSession g.F.FnMut c.args.gone.now)
    (take-new c.args.map.now.pairs c.args.count c.args.session.0 (c.requires.present ∙ ap not c.if-is_new.true)
    c.requires.enough c.args.session.1 c.args.session.2) c.requires.callable

pub insert_newest-requires-clause-room : goal.insert_newest-requires-clause-room
insert_newest-requires-clause-room g c = λ _.
    let room = length-drop_new c.args.map.now.pairs c.args.count c.args.session.0 (c.requires.present ∙ ap not c.if-is_new.true)
    c.requires.enough c.requires.valid.within (λ none. c.requires.room none c.if-is_new.true) in
    omega (arith, room, ap length c.remove_oldest.ensures.pairs, c.remove_oldest.ensures.capacity)

pub returns-then-is_new-clause-sessions : goal.returns-then-is_new-clause-sessions
returns-then-is_new-clause-sessions g c =
    rw (c.insert_newest.ensures.sessions, c.remove_oldest.ensures.pairs)
    (with_last-drop c.args.map.now.pairs c.args.count c.args.session.0 (c.requires.present ∙ ap not c.if-is_new.true)
    c.requires.enough c.args.session.1 c.args.session.2)

pub returns-then-is_new-clause-gone : goal.returns-then-is_new-clause-gone
returns-then-is_new-clause-gone g c =
    subst (λ sessions. FoldsTo (CalledWithSession g.F.FnMut) c.args.gone.now sessions c.remove_oldest.new.gone)
    (sym (take-new c.args.map.now.pairs c.args.count c.args.session.0 (c.requires.present ∙ ap not c.if-is_new.true)
    c.requires.enough c.args.session.1 c.args.session.2)) c.remove_oldest.ensures.gone

pub returns-then-is_new-clause-old : goal.returns-then-is_new-clause-old
returns-then-is_new-clause-old g c =
    c.insert_newest.ensures.old ∙ ap (λ ps. payload_of (sessions_of ps) c.args.session.0) c.remove_oldest.ensures.pairs
    ∙ payload_of-drop_new c.args.map.now.pairs c.args.count c.args.session.0
    (c.requires.present ∙ ap not c.if-is_new.true) c.requires.enough

pub insert_newest-old-requires-clause-room : goal.insert_newest-old-requires-clause-room
insert_newest-old-requires-clause-room g c = λ none.
    absurd (true≢false (sym (not-absent c.args.map.now.pairs c.args.session.0 (c.requires.present ∙ ap not c.if-is_new.false) none)))

pub remove_oldest-requires-2-clause-callable : goal.remove_oldest-requires-2-clause-callable
remove_oldest-requires-2-clause-callable g c =
    subst (CallableWithEachSession g.F.FnMut c.args.gone.now)
    (sym (ap (take c.args.count) c.insert_newest-old.ensures.sessions)) c.requires.callable

pub returns-clause-sessions : goal.returns-clause-sessions
returns-clause-sessions g c = ap sessions_of c.remove_oldest-2.ensures.pairs
    ∙ sessions_of-drop c.args.count c.insert_newest-old.new.map.pairs
    ∙ ap (drop c.args.count) c.insert_newest-old.ensures.sessions

pub returns-clause-gone : goal.returns-clause-gone
returns-clause-gone g c =
    subst (λ sessions. FoldsTo (CalledWithSession g.F.FnMut) c.args.gone.now sessions c.remove_oldest-2.new.gone)
    (ap (take c.args.count) c.insert_newest-old.ensures.sessions) c.remove_oldest-2.ensures.gone
