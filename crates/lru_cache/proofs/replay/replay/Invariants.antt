use Rattle.std.proofs.Common.{◌≡◌, ◌≤◌, length, vec_len, vec_capacity}
use Rattle.lru_cache.specs.Runs.{Runs}
use Rattle.lru_cache.proofs.replay.replay.Given as goal

-- the commands so far and their answers are a run
abbrev pub invariant-loop-command : goal.invariant-loop-command
invariant-loop-command g l = record {
  run : Runs g.K.PartialEq.eq l.fn.cache l.yielded l.answers.items l.cache;
  count : vec_len l.answers ≡ length l.yielded;
  room : length l.fn.commands.items ≤ vec_capacity l.answers;
}
