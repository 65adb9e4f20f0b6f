-- What is said of an option, once its case is known.
use Rattle.linked_hash_map.proofs.Names.{Bool, IfNone, IfSome, None, OnSome, Option, Some, arith, cond, is_some, subst, true, unwrap_or}
use Rattle.linked_hash_map.proofs.Names.{◌≡◌}

pub of-Some : {X : Type 0} (P : X → Type 0) {o : Option X} {x : X} → o ≡ Some x → IfSome o P → P x
of-Some P e h = subst (λ (r : Option _). IfSome r P) e h

pub of-OnSome : {X P : Type 0} {o : Option X} {x : X} → o ≡ Some x → OnSome o P → P
of-OnSome {P = P} e h = subst (λ (r : Option _). OnSome r P) e h

pub of-None : {X P : Type 0} {o : Option X} → o ≡ None → IfNone o P → P
of-None {P = P} e h = subst (λ (r : Option _). IfNone r P) e h

-- one that is there, by what it is unwrapped to
pub Some-unwrap_or : {X : Type 0} (o : Option X) (x y : X) → is_some o ≡ true → y ≡ unwrap_or o x → o ≡ Some y
Some-unwrap_or o x y some same = grind arith

pub cond-None : {X : Type 0} (b : Bool) → cond {A = Option X} b None None ≡ None
cond-None b = grind arith
