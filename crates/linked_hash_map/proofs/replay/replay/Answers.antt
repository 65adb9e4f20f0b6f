use Rattle.linked_hash_map.proofs.Names.{[], append-nil, ap₂, arith, inr, length, length-append, map-id, refl, rules, subst, sym, ◌∙◌, ◌∷◌}
use Rattle.linked_hash_map.proofs.Names.{◌≡◌, rechained_after_all, Replayed, first_log, last_log, YieldsList-from_vec, YieldsList-end}
use Rattle.linked_hash_map.proofs.runs.{Rehashes.GoesOn-snoc, VisitEnds.MayEndVisit-trans}
use Rattle.linked_hash_map.proofs.runs.Steps.{Defines-first_log, IsRun-snoc, last_log-snoc}
use Rattle.linked_hash_map.proofs.replay.replay.Goals as goal

pub loop-command-init : goal.loop-command-init
loop-command-init g c = record {
  run = rw c.in-Ok.ensures.items tt;
  defines = Defines-first_log g.met.K.Eq.laws c.args.map.now.mode c.args.map.now.pairs
      c.args.map.now.capacity c.allocator.ensures.valid.distinct c.allocator.ensures.valid.within;
  hasher = refl;
  rechained = rw c.in-Ok.ensures.items (record { from = λ commands replies. refl });
  visit = inr refl;
  valid = c.allocator.ensures.valid;
  count = c.in-Ok.ensures.len;
  room = let exact = c.in-Ok.ensures.exact in let len = c.len.ensures in let of_commands = c.args.commands.ok.0 in omega arith;
}

pub loop-command-preserved : goal.loop-command-preserved
loop-command-preserved g c =
    let eq = g.K.PartialEq.eq in let start = c.args.map.now.capacity in
    let first = first_log c.args.map.now.mode c.args.map.now.pairs in
    let i = c.loop-command.invariant in let command = c.in-Some.command in
    let reply = c.reply_to.result in let replies = c.loop-command.replies.items in
    let log = last_log eq first c.loop-command.yielded replies in
    let last = last_log-snoc eq start command reply first c.loop-command.yielded replies i.run in
    record {
      run = rw c.push_reserved.ensures.items (IsRun-snoc eq start command reply first
          c.loop-command.yielded replies i.run (c.reply_to.ensures.reply start log i.defines));
      defines = rw (c.push_reserved.ensures.items, last) (c.reply_to.ensures.defines start log i.defines);
      hasher = c.reply_to.ensures.hasher ∙ i.hasher;
      rechained = rw c.push_reserved.ensures.items (GoesOn-snoc command reply i.rechained
          c.reply_to.ensures.rechained c.reply_to.ensures.len c.reply_to.ensures.capacity);
      visit = MayEndVisit-trans i.visit c.reply_to.ensures.visit;
      valid = c.reply_to.ensures.stays_valid;
      count = let l = length-append c.loop-command.yielded (command ∷ []) in
          let n = c.push_reserved.ensures.len in let k = i.count in
          omega arith;
      room = rw c.push_reserved.ensures.capacity i.room;
    }

-- what holds of the commands that the loop took holds of all of them
pub returns : goal.returns
returns g c =
    let gives = c.into_iter-command-iterator.ensures.into_iter_gives in
    let end = YieldsList-end
    (YieldsList-from_vec c.args.commands.items gives.0 (gives.1 ∙ c.args.commands.ok.0))
    c.loop-command.yielded c.loop-command.command-iterator c.loop-command.yielded_by c.next.result
    c.next.new.self c.in-None.is c.next.ensures.steps in
    let all = sym (map-id c.loop-command.yielded) ∙ end.0 in
    let m = c.args.map.now in let i = c.loop-command.invariant in let replies = c.loop-command.replies.items in
    let replayed = subst (λ cs. Replayed g.K.PartialEq.eq m cs replies c.loop-command.map) all
    (record { run = i.run; pairs = sym i.defines.same_pairs; capacity = sym i.defines.same_capacity; mode = sym i.defines.same_mode }) in
    record {
      run = replayed.run;
      pairs = replayed.pairs;
      capacity = replayed.capacity;
      mode = replayed.mode;
      hasher = i.hasher;
      rechained = subst (λ cs. c.loop-command.map.rechained ≡ rechained_after_all m.rechained (length m.pairs) m.capacity cs replies) all
          (sym (i.rechained.from [] []) ∙ ap₂ (rechained_after_all m.rechained (length m.pairs) m.capacity)
          (append-nil c.loop-command.yielded) (append-nil replies));
      visit = i.visit;
      valid = c.allocator.ensures.valid;
      stays_valid = i.valid;
      replayed = replayed;
      handed_back = tt;
      unchanged = tt;
      no_commands = search rules;
    }
