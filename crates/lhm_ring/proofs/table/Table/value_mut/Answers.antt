use Rattle.lhm_ring.proofs.Names.{pointer_of, refl, ◌≡◌}
use Rattle.lhm_ring.proofs.tables.Tables.{AtHeld-table, IsHeld-table, IsTable-value, WritesOnly-table, table_of-value}
use Rattle.lhm_ring.proofs.table.Table.value_mut.Goals as goal

pub value_mut-requires : goal.value_mut-requires
value_mut-requires g c = IsHeld-table c.self.invariant c.self.view_is c.requires

pub invariant_of-self-lent : goal.invariant_of-self-lent
invariant_of-self-lent g c w = IsTable-value c.self.invariant (pointer_of c.args.at) w

pub returns : goal.returns
returns g c =
    let i = c.self.inside in
    let p = pointer_of c.args.at in (
      (refl, λ w. table_of-value c.self.invariant c.self.view_is p w),
      record {
        writes_back = tt;
        value = AtHeld-table c.self.invariant c.self.view_is
            (λ xs t ys. c.value_mut.result.now ≡ t.pair.1) c.value_mut.ensures.value;
        alone = WritesOnly-table c.self.invariant c.self.view_is c.value_mut.ensures.alone;
      },
    )
