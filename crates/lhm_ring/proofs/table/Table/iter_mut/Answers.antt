use Rattle.lhm_ring.proofs.Names.{TableState, ap, loan_name, map, sym, ◌∙◌}
use Rattle.lhm_ring.proofs.tables.TableValues.{IsTable-values, pairs-entries, table_of-values}
use borrow.Follows.Closed.{read_of}
use Rattle.lhm_ring.proofs.table.Table.iter_mut.Goals as goal

pub invariant_of-self-lent : goal.invariant_of-self-lent
invariant_of-self-lent g c = λ _. ((λ vs. IsTable-values vs c.self.invariant), c.self.invariant)

pub returns : goal.returns
returns g c =
    let i = c.self.inside in (
      (λ j. read_of (loan_name c.iter_mut.result) (λ vs. table_of-values i.ring i.rechained c.self.view_is vs j) (c.self.view_is j)),
      record {
        writes_back = tt;
        rest = ap (map (λ t. t.pair)) c.iter_mut.ensures.rest ∙ sym (pairs-entries i.ring.held)
            ∙ ap (λ (z : TableState (g.row.K.Denot × g.row.V.Denot)). map (λ t. t.pair) z.held)
            c.self.view_is;
      },
    )
