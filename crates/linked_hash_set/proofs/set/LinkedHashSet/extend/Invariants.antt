use Rattle.std.proofs.Common.{◌≡◌, length, max}
use Rattle.linked_hash_set.specs.{Inserts.insert_each, Validity.IsValid}
use Rattle.linked_hash_set.proofs.set.LinkedHashSet.extend.Given as goal

abbrev pub invariant-loop-item : goal.invariant-loop-item
invariant-loop-item g l = record {
  items : l.self.items ≡ insert_each g.T.PartialEq.eq l.fn.self.items l.yielded;
  capacity : l.self.capacity ≡ max l.fn.self.capacity (length l.self.items);
  hasher : l.self.hasher ≡ l.fn.self.hasher;
  valid : IsValid g.T.PartialEq.eq l.self;
}
