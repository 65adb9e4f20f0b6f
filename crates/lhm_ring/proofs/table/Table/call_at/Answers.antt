use Rattle.lhm_ring.proofs.Names.{CalledAtPair, IsTable, TakesPair, ap, pointer_of, subst, sym, table_of, ◌∙◌}
use Rattle.lhm_ring.proofs.tables.Retained.{TakesAt-table}
use Rattle.lhm_ring.proofs.tables.Tables.{AtHeld-table, IsTable-value, WritesOnly-table, table_of-value}
use Rattle.lhm_ring.proofs.table.Table.call_at.Goals as goal

pub call_at-requires : goal.call_at-requires
call_at-requires g c = TakesAt-table (TakesPair g.F.FnMut) c.args.keep.now c.self.invariant c.self.view_is c.requires

pub invariant_of-self : goal.invariant_of-self
invariant_of-self g c =
    let called = c.call_at.ensures.called in
    subst (λ s. IsTable c.self.inside.index s c.self.inside.rechained) (sym called.new_is)
    (IsTable-value c.self.invariant (pointer_of c.args.at) called.value)

pub returns-clause-called : goal.returns-clause-called
returns-clause-called g c =
    let called = c.call_at.ensures.called in record {
      value = called.value;
      at_pair = AtHeld-table c.self.invariant c.self.view_is
          (λ xs t ys. CalledAtPair g.F.FnMut c.args.keep.now t.pair.0 t.pair.1 c.call_at.result
          called.value c.call_at.new.keep) called.at_pair;
      new_is = ap (λ s. table_of s c.self.inside.rechained) called.new_is
          ∙ table_of-value c.self.invariant c.self.view_is (pointer_of c.args.at) called.value;
    }

pub returns-clause-alone : goal.returns-clause-alone
returns-clause-alone g c = WritesOnly-table c.self.invariant c.self.view_is c.call_at.ensures.alone
