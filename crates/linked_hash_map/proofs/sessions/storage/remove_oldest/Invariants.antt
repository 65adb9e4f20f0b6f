use Rattle.linked_hash_map.proofs.Names.{drop, eqb as nat_eq, take, ◌≡◌, CalledWithSession, sessions_of, IsValid, FoldsTo}
use Rattle.linked_hash_map.proofs.sessions.storage.remove_oldest.Given as goal

-- the closure was called with those that are gone so far
abbrev pub invariant-loop : goal.invariant-loop
invariant-loop g l = record {
  pairs : l.map.pairs ≡ drop l.counter l.fn.map.pairs;
  gone : FoldsTo (CalledWithSession g.F.FnMut) l.fn.gone (take l.counter (sessions_of l.fn.map.pairs)) l.gone;
  capacity : l.map.capacity ≡ l.fn.map.capacity;
  mode : l.map.mode ≡ l.fn.map.mode;
  valid : IsValid nat_eq l.map;
}
