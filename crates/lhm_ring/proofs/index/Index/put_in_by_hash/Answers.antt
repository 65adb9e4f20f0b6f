use Rattle.lhm_ring.proofs.Names.{None, SetsBit, Some, ap, get_or, length, linked_to, pointer_of, set, subst, sym, ◌%◌, ◌++◌, ◌∙◌, ◌∷◌}
use Rattle.lhm_ring.proofs.indexes.IndexPuts.{Indexes-put_first}
use Rattle.lhm_ring.proofs.index.Index.put_in_by_hash.Goals as goal

pub returns-clause-first : goal.returns-clause-first
returns-clause-first g c = λ before x after e at.
    let heads = c.args.self.now.heads in
    let own = c.requires.hash before x after e at in
    let bucket = c.bucket_of-bucket.ensures.of_hash ∙ ap (λ h. h % length heads) own in
    record {
      nodes_is = c.set_link.ensures.held before x after e at
          ∙ ap (λ o. before ++ linked_to o x ∷ after) (c.put_first-behind.ensures.old ∙ ap (λ b. get_or heads b None) bucket);
      heads_is = c.put_first-behind.ensures.heads ∙ (λ i. set heads (bucket i) (Some (sym at i)));
      words_is = subst (λ h. SetsBit c.args.self.now.words c.put_first-behind.new.self.words h) own c.put_first-behind.ensures.words;
    }

pub returns-clause-indexed : goal.returns-clause-indexed
returns-clause-indexed g c = λ lacks. Indexes-put_first (pointer_of c.args.at) _ _ _ _ (returns-clause-first g c) lacks c.requires.some
