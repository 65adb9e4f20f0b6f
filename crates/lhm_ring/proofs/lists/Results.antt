-- What is said of a result, by what follows from it.
use Rattle.lhm_ring.proofs.Names.{OnErr, OnOk, Result, arith}

pub OnOk-always : {X E P : Type 0} (r : Result X E) → P → OnOk r P
OnOk-always r h = grind arith

pub OnOk-then : {X E P Q : Type 0} (r : Result X E) → OnOk r P → (P → Q) → OnOk r Q
OnOk-then r h f = grind arith

pub OnErr-always : {X E P : Type 0} (r : Result X E) → P → OnErr r P
OnErr-always r h = grind arith
