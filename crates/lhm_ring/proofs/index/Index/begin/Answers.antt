use Rattle.lhm_ring.proofs.Names.{None, Some, pointer_of, refl, sym, ◌∙◌}
use Rattle.lhm_ring.proofs.indexes.Searches.{IsHeld-head, IsPart-first, IsPart-passed}
use Rattle.lhm_ring.proofs.index.Index.begin.Goals as goal

pub returns-then-buckets-gt-FEW_BUCKETS : goal.returns-then-buckets-gt-FEW_BUCKETS
returns-then-buckets-gt-FEW_BUCKETS g c =
    let new = c.new.ensures in
    record {
      part = λ is_key.
          IsPart-first new.before (new.next ∙ sym c.requires.first) new.visited new.compared c.requires.within c.requires.indexed.chains;
    }

pub links-links-requires : goal.links-links-requires
links-links-requires g c = IsHeld-head _ c.requires.within c.requires.indexed.chains c.requires.first

pub returns-then-links-hash : goal.returns-then-links-hash
returns-then-links-hash g c = record {
  part = λ is_key.
      IsPart-passed (IsPart-first {is_key = is_key} {before = None} {pointer =
      Some (pointer_of c.args.first)} {visited = 0} {compared = 0}
      refl (sym c.requires.first) refl refl c.requires.within c.requires.indexed.chains)
      refl c.links-links.result.now.hash c.is_some.result c.links-links.ensures.hash
      c.if-links-hash.true (λ b x a i j. sym c.position.ensures ∙ c.links-links.ensures.link b x a i j);
}

pub returns-else-links-hash : goal.returns-else-links-hash
returns-else-links-hash g c =
    let new = c.new-else-links-hash.ensures in
    record {
      part = λ is_key.
          IsPart-first new.before (new.next ∙ sym c.requires.first) new.visited new.compared c.requires.within c.requires.indexed.chains;
    }
