-- What is said of a result, in either case.
use Rattle.linked_hash_map.proofs.Names.{IsTrue, OnErr, OnOk, Result, arith}
use Rattle.std.specs.Result.{is_ok}

pub OnOk-given : {A E : Type 0} (Given P : Type 0) (r : Result A E) → OnOk r P → OnOk r (Given → P)
OnOk-given Given P r p = grind arith

pub OnErr-always : {A E P : Type 0} (r : Result A E) → P → OnErr r P
OnErr-always r p = grind arith

pub of-OnOk : {A E P : Type 0} (r : Result A E) → OnOk r P → IsTrue (is_ok r) → P
of-OnOk r p given = grind arith
