use Rattle.linked_hash_map.proofs.Names.{map, subst, ◌∙◌, AreClones, MatchResult-from_err}
use Rattle.linked_hash_map.proofs.pairs.Clones.{AreClones-of, none-of}
use Rattle.linked_hash_map.proofs.iter.into_iter.IntoIterClone.clone.Goals as goal

pub returns-in_err-clone : goal.returns-in_err-clone
returns-in_err-clone g c = record {
  cases = MatchResult-from_err c.from_residual.result _ _ c.from_residual.ensures.0
      (λ _ none.
      c.in_err-clone.ensures.cases (none-of c.self.inside.nodes (c.self.view_is ∙ none)));
}

pub returns : goal.returns
returns g c = record {
  cases = subst (λ ps. AreClones g.K.Clone.is_clone g.V.Clone.is_clone ps (map (λ t. t.1) c.in_ok-clone.field-0)) c.self.view_is
      (AreClones-of g.K.Clone.is_clone g.V.Clone.is_clone c.self.inside.nodes c.in_ok-clone.field-0 c.in_ok-clone.ensures.cases);
}
