use Rattle.lhm_ring.proofs.Names.{IsHeld, ap, arith, entries, pointer_of, rekeyed, ◌++◌, ◌∙◌, ◌∷◌, ◌≡◌}
use Rattle.lhm_ring.proofs.indexes.Entries.{entries-append}
use Rattle.lhm_ring.proofs.tables.Tables.{AtHeld-table, IsHeld-table, IsTable-rekeyed, KeepsCounts-table, length-rekeyed}
use Rattle.lhm_ring.proofs.table.Table.replace_key.Goals as goal

-- the pair is held in the ring
held : (g : _) (c : goal.After-replace_key g) → IsHeld c.self.inside.ring.held (pointer_of c.args.at)
held g c = IsHeld-table c.self.invariant c.self.view_is c.requires

pub replace_key-requires : goal.replace_key-requires
replace_key-requires g c = IsHeld-table c.self.invariant c.self.view_is c.requires

pub invariant_of-self : goal.invariant_of-self
invariant_of-self g c =
    let written = c.replace_key.ensures in
    IsTable-rekeyed c.self.invariant c.replace_key.new.self c.args.key (held g c) written.held written.spares written.nodes

pub returns-clause-held : goal.returns-clause-held
returns-clause-held g c =
    AtHeld-table c.self.invariant c.self.view_is
    (λ xs t ys. entries c.replace_key.new.self.held ≡ xs ++ rekeyed c.args.key t ∷ ys)
    (λ xs t ys e at. ap entries (c.replace_key.ensures.held xs t ys e at)
    ∙ entries-append xs (rekeyed c.args.key t ∷ ys))

pub returns-clause-old : goal.returns-clause-old
returns-clause-old g c =
    AtHeld-table c.self.invariant c.self.view_is
    (λ xs t ys. c.replace_key.result ≡ t.pair.0) c.replace_key.ensures.old

pub returns-clause-keeps : goal.returns-clause-keeps
returns-clause-keeps g c =
    let written = c.replace_key.ensures in
    let long = length-rekeyed c.self.invariant c.replace_key.new.self c.args.key (held g c) written.held in
    KeepsCounts-table c.self.invariant c.self.view_is _ (omega (arith, long, written.spares)) written.nodes
