use Rattle.std.proofs.Common.{◌≡◌, refl, map, List}
use mathlib.Core.Option.{Option, none, some}
use borrow.Follows.Either.{either}
use Rattle.lhm_ring.proofs.memory.ValuesInOrder.{unvalued-set_held_values, IsHeld-unvalued, AtHeld-unvalued}
use Rattle.tests.proofs.tests.rings.hash_after_writing.Goals as goal
use Rattle.lhm_ring.specs.{Pointer.pointer_of, Ring.State, Ring.unvalued, RingAfterLoan.with_values}

module _ {K V : Type 0} (s : State (K × V)) where
  same_held : (o : Option (List V)) → map unvalued (either (with_values s) s o).held ≡ map unvalued s.held
  same_held none = refl
  same_held (some vs) = unvalued-set_held_values s.held vs

  same_spares : (o : Option (List V)) → (either (with_values s) s o).spares ≡ s.spares
  same_spares none = refl
  same_spares (some vs) = refl

pub links-requires : goal.links-requires
links-requires c = let s = c.args.ring.now in IsHeld-unvalued _ s.held (pointer_of c.args.at) (same_held s _) c.requires

pub returns : goal.returns
returns c =
    let s = c.args.ring.now in record {
      hash = AtHeld-unvalued _ s.held (pointer_of c.args.at) (same_held s _) (λ t. c.links.result.now.hash ≡ t.hash) c.links.ensures.hash;
      held = same_held s _;
      spares = same_spares s _;
    }
