use Rattle.linked_hash_map.proofs.Names.{refl, subst, sym, IsAt-index_of, index_of-held, pointer_of, IsTouched}
use Rattle.linked_hash_map.proofs.map.insert.touch.Goals as goal

pub returns-in-Touch-clause-touched : goal.returns-in-Touch-clause-touched
returns-in-Touch-clause-touched g c = subst
    (λ m. IsTouched m (pointer_of c.args.at) c.args.table.now.held c.move_to_back.new.self.held)
    (sym c.in-Touch.is) (
      c.move_to_back.ensures.held _ (IsAt-index_of _ c.args.table.now.held (index_of-held c.requires)),
      c.move_to_back.ensures.last,
    )

pub returns-in-Keep-clause-touched : goal.returns-in-Keep-clause-touched
returns-in-Keep-clause-touched g c =
    subst (λ m. IsTouched m (pointer_of c.args.at) c.args.table.now.held c.args.table.now.held)
    (sym c.in-Keep.is) refl
