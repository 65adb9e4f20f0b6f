use Rattle.lhm_ring.proofs.Names.{Held, IfSome, IsHeld, List, None, Option, Position, Some, [], first_at, pointer_of, pointer_of_some}
use Rattle.lhm_ring.proofs.tables.Positions.{PlaceAt-first_at, to_before_at-first}
use Rattle.lhm_ring.proofs.{Names.refl, Names.sym, Names.◌∙◌, Names.◌∷◌, Names.◌≡◌, lists.Options.Some-injective, lists.Options.none_some}
use Rattle.lhm_ring.proofs.table.Table.move_to_front.Goals as goal

-- the first position, if there is one, is held
IfSome-first : {K V : Type 0} (hs : List (Held (K × V))) (o : Option (Position K V)) → pointer_of_some o ≡ first_at hs
    → IfSome o (λ next. IsHeld hs (pointer_of next))
IfSome-first hs None is = tt
IfSome-first [] (Some p) is = absurd (none_some _ (sym is))
IfSome-first (t ∷ hs) (Some p) is = record { before = []; node = t; after = hs; is = refl; at_is = Some-injective _ _ (sym is) }

pub move_before-requires-clause-before : goal.move_before-requires-clause-before
move_before-requires-clause-before g c = IfSome-first c.args.self.now.held _ c.first-front.ensures

pub returns-clause-held : goal.returns-clause-held
returns-clause-held g c =
    let hs = c.args.self.now.held in
    λ i at. c.move_before.ensures.held i 0 at (PlaceAt-first_at hs ∙ sym c.first-front.ensures) ∙ to_before_at-first hs i
