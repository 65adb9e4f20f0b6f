-- For callers: the sessions that fit a limit, and those that `retain` keeps.
use Rattle.linked_hash_map.proofs.session_table.Lists.{fit-all, fit-only}
pub use Rattle.linked_hash_map.proofs.session_table.Lists.{fit-all, fit-only}
pub use Rattle.linked_hash_map.proofs.session_table.Retained.{filter_same_sessions}

-- as the longest end that does
pub ruleset longest_ends = (fit-all, fit-only)
