use Rattle.lhm_ring.proofs.Names.{ap, entries, pointer_of, sym, ◌++◌, ◌∙◌, ◌≡◌}
use Rattle.lhm_ring.proofs.indexes.Entries.{HasKey-entries, HasKey-kept, LacksKey-entries, entries-append}
use Rattle.lhm_ring.proofs.tables.Tables.{AtHeld-same_entries, IsTable-removed, KeepsCounts-table, length-with_spares}
use Rattle.lhm_ring.proofs.table.Table.remove.Goals as goal

pub returns-in_err-at-clause-absent : goal.returns-in_err-at-clause-absent
returns-in_err-at-clause-absent g c =
    let absent = rw c.in_err-at.was at c.take_out.ensures.absent in
    rw (c.from_residual.ensures, ← c.self.view_is)
    (LacksKey-entries (g.Q.Equivalent.equivalent c.args.key) c.args.hash c.self.inside.ring.held absent)

pub invariant_of-self-2 : goal.invariant_of-self-2
invariant_of-self-2 g c =
    let taken = c.take_out.ensures in let unlinked = c.unlink-key.ensures in
    let lacks = rw c.in_ok-at.was at taken.lacks in
    IsTable-removed c.self.invariant taken.links lacks unlinked.others unlinked.spares unlinked.nodes taken.buckets

pub returns-clause-removed : goal.returns-clause-removed
returns-clause-removed g c =
    let hs = c.self.inside.ring.held in let p = pointer_of c.in_ok-at.at in
    let ks = c.take_out.new.ring.held in let taken = c.take_out.ensures in
    let has = HasKey-kept ks hs p (sym taken.links.held) (g.Q.Equivalent.equivalent c.args.key) c.args.hash
    (rw c.in_ok-at.was at taken.found) in
    record {
      at = p;
      has = rw (← c.self.view_is) (HasKey-entries (g.Q.Equivalent.equivalent c.args.key) c.args.hash hs p has);
      others = AtHeld-same_entries c.self.invariant c.self.view_is ks taken.links.held
          (λ xs t ys. entries c.unlink-key.new.self.held ≡ xs ++ ys)
          (λ xs t ys e at. ap entries (c.unlink-key.ensures.others xs t ys e at) ∙ entries-append xs ys);
      pair_is = AtHeld-same_entries c.self.invariant c.self.view_is ks taken.links.held
          (λ xs t ys. (c.unlink-key.result.1, c.unlink-key.result.2) ≡ t.pair)
          (λ xs t ys e at. ap (λ z. (z.1, z.2)) (c.unlink-key.ensures.triple xs t ys e at));
    }

pub returns-clause-keeps : goal.returns-clause-keeps
returns-clause-keeps g c =
    let taken = c.take_out.ensures in let unlinked = c.unlink-key.ensures in
    KeepsCounts-table c.self.invariant c.self.view_is _ (sym (length-with_spares c.self.invariant taken.links
    (rw c.in_ok-at.was at taken.lacks) unlinked.others unlinked.spares unlinked.nodes)) (unlinked.nodes ∙ taken.links.nodes)
