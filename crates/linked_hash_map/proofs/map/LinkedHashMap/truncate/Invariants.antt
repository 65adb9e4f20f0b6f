use Rattle.linked_hash_map.proofs.Names.{[], length, take, ◌≡◌, Keeps, to_visit, IsValid}
use Rattle.linked_hash_map.proofs.map.LinkedHashMap.truncate.Given as goal

-- the first pairs stand, and nothing is left to visit
abbrev pub invariant-loop-self : goal.invariant-loop-self
invariant-loop-self g l = record {
  pairs : take l.len l.self.pairs ≡ take l.len l.fn.self.pairs;
  keeps : Keeps l.fn.self l.self;
  ends_visit : to_visit l.self ≡ [];
  valid : IsValid g.K.PartialEq.eq l.self;
}

abbrev pub decreases-loop-self : goal.decreases-loop-self
decreases-loop-self g l = length l.self.pairs
