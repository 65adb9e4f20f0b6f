use Rattle.linked_hash_map.proofs.Names.{ap, arith, length, not, subst, sym, ◌∙◌, CallableWithEachSession, CalledWithSession, total_weight}
use Rattle.linked_hash_map.proofs.Names.{FoldsTo}
use Rattle.linked_hash_map.proofs.{log.LiveKeys.none_is, session_table.Pairs.IsValidTable-kept, session_table.Pairs.length-sessions_of}
use Rattle.linked_hash_map.proofs.session_table.Plans.{HasPut-planned, all-fit, staying-within, take-put, total_weight-left}
use Rattle.linked_hash_map.proofs.sessions.Sessions.put_planned.Goals as goal

pub returns-in_default-clause-none_goes : goal.returns-in_default-clause-none_goes
returns-in_default-clause-none_goes g c = all-fit c.requires.light c.requires.plan c.in_default.ensures.none

pub returns-in_default-clause-full : goal.returns-in_default-clause-full
returns-in_default-clause-full g c = rw (← c.self.view_is) (length-sessions_of c.self.inside.map.pairs ∙ c.in_default.ensures.full)

pub returns-in_default-clause-absent : goal.returns-in_default-clause-absent
returns-in_default-clause-absent g c = none_is _ (c.requires.plan.is_new ∙ ap not c.in_default.ensures.new)

pub store-old-requires-clause-present : goal.store-old-requires-clause-present
store-old-requires-clause-present g c =
    let plan = rw (← c.self.view_is) at c.requires.plan in rw c.make_room.ensures.pairs plan.is_new

pub store-old-requires-clause-enough : goal.store-old-requires-clause-enough
store-old-requires-clause-enough g c =
    let plan = rw (← c.self.view_is) at c.requires.plan in rw c.make_room.ensures.pairs plan.leaving.within

pub store-old-requires-clause-room : goal.store-old-requires-clause-room
store-old-requires-clause-room g c = λ none new.
    omega (arith, c.in-Ok.ensures.raised none new, ap length c.make_room.ensures.pairs)

pub store-old-requires-clause-callable : goal.store-old-requires-clause-callable
store-old-requires-clause-callable g c =
    let callable = subst (CallableWithEachSession g.F.FnMut c.args.gone.now)
    (sym (take-put c.requires.light c.requires.plan c.args.payload)) c.requires.callable in
    rw c.make_room.ensures.pairs (rw (← c.self.view_is) at callable)

pub overflow_add-self : goal.overflow_add-self
overflow_add-self g c =
    let within = staying-within c.requires.light c.requires.plan in
    omega (arith, rw (← c.self.view_is) at within)

pub invariant_of-self-2 : goal.invariant_of-self-2
invariant_of-self-2 g c =
    let light = rw (← c.self.view_is) at c.requires.light in
    let plan = rw (← c.self.view_is) at c.requires.plan in
    let now = rw c.make_room.ensures.pairs at c.store-old.ensures.sessions in
    record {
      valid = c.store-old.ensures.stays_valid;
      mode = c.store-old.ensures.mode;
      sum = total_weight-left light plan c.args.payload ∙ sym (ap total_weight now);
      within = staying-within light plan;
    }

pub returns-clause-put : goal.returns-clause-put
returns-clause-put g c =
    let light = rw (← c.self.view_is) at c.requires.light in
    let plan = rw (← c.self.view_is) at c.requires.plan in
    let now = rw c.make_room.ensures.pairs at c.store-old.ensures.sessions in
    let valid = c.self.invariant.valid in
    rw (← c.self.view_is) (HasPut-planned c.args.payload c.self.inside.map.pairs light plan valid.within valid.distinct now
    (λ none new. c.store-old.ensures.capacity ∙ c.in-Ok.ensures.raised none new)
    (λ stays. c.store-old.ensures.capacity ∙ c.in-Ok.ensures.same_room stays))

pub returns-clause-gone : goal.returns-clause-gone
returns-clause-gone g c =
    let light = rw (← c.self.view_is) at c.requires.light in
    let plan = rw (← c.self.view_is) at c.requires.plan in
    let gone = rw c.make_room.ensures.pairs at c.store-old.ensures.gone in
    rw (← c.self.view_is) (subst (λ sessions. FoldsTo (CalledWithSession g.F.FnMut) c.args.gone.now sessions c.store-old.new.gone)
    (take-put light plan c.args.payload) gone)

pub returns-clause-old : goal.returns-clause-old
returns-clause-old g c = rw (← c.self.view_is) (rw c.make_room.ensures.pairs at c.store-old.ensures.old)

pub returns-clause-stays_valid : goal.returns-clause-stays_valid
returns-clause-stays_valid g c = IsValidTable-kept (invariant_of-self-2 g c)
