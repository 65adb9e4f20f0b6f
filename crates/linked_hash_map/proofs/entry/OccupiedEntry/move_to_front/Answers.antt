use Rattle.linked_hash_map.proofs.Names.{ap, length, ◌∙◌, occupied_key, occupied_map, find}
use Rattle.linked_hash_map.proofs.Callers.Moves.{find-to_front, length-to_front}
use Rattle.linked_hash_map.proofs.pairs.OccupiedEntries.{IsIndex-occupied, within-moved}
use Rattle.linked_hash_map.proofs.entry.OccupiedEntry.move_to_front.Goals as goal

pub invariant_of-self : goal.invariant_of-self
invariant_of-self g c =
    let moves = c.move_current_to_front.ensures.moves in record { within = within-moved c.args.self.now moves; outside = moves.outside }

pub returns-clause-finds : goal.returns-clause-finds
returns-clause-finds g c q =
    let o = c.args.self.now in let laws = g.met.K.Eq.laws in
    ap (λ pairs. find g.K.PartialEq.eq pairs q) (c.move_current_to_front.ensures.pairs (occupied_key o) (IsIndex-occupied o laws))
    ∙ find-to_front laws (occupied_map o).pairs (occupied_key o) q

pub returns-clause-len : goal.returns-clause-len
returns-clause-len g c =
    let o = c.args.self.now in let laws = g.met.K.Eq.laws in let moved = c.move_current_to_front.ensures in
    ap length (moved.pairs (occupied_key o) (IsIndex-occupied o laws))
    ∙ length-to_front laws (occupied_map o).pairs (occupied_key o) moved.moves.valid.distinct
