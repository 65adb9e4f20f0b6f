use Rattle.linked_hash_map.proofs.Names.{length, vec_capacity, vec_len, ◌≡◌, ◌≤◌, Defines, IsRun, MayEndVisit, first_log, last_log, IsValid}
use Rattle.linked_hash_map.proofs.runs.Rehashes.{GoesOn}
use Rattle.linked_hash_map.proofs.replay.replay.Given as goal

-- the commands so far and their replies are a run, whose last log defines the map
abbrev pub invariant-loop-command : goal.invariant-loop-command
invariant-loop-command g l =
    let eq = g.K.PartialEq.eq in let first = first_log l.fn.map.mode l.fn.map.pairs in
    record {
      run : IsRun eq l.fn.map.capacity first l.yielded l.replies.items;
      defines : Defines eq l.fn.map.capacity (last_log eq first l.yielded l.replies.items) l.map.pairs l.map.capacity l.map.mode;
      hasher : l.map.hasher ≡ l.fn.map.hasher;
      rechained : GoesOn l.fn.map l.yielded l.replies.items l.map;
      visit : MayEndVisit l.fn.map l.map;
      valid : IsValid eq l.map;
      count : vec_len l.replies ≡ length l.yielded;
      room : length l.fn.commands.items ≤ vec_capacity l.replies;
    }
