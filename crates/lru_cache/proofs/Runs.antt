-- Runs that go on by one command.
use Rattle.std.proofs.Common.{Bool, List, [], ◌∷◌, ◌++◌, refl, subst}
use Rattle.lru_cache.specs.{Cache.Cache, declared.replay.Command.Command, declared.replay.Answer.Answer, Runs.Steps, Runs.Runs}

module _ {K V S : Type 0} (eq : K → K → Bool) (d e : Cache K V S) (command : Command K V) (answer : Answer K V)
    (step : Steps eq d command answer e) where
  pub Runs-snoc : (c : Cache K V S) (commands : List (Command K V)) (answers : List (Answer K V)) → Runs eq c commands answers d
      → Runs eq c (commands ++ command ∷ []) (answers ++ answer ∷ []) e
  Runs-snoc c [] [] same = (e, subst (λ x. Steps eq x command answer e) same step, refl)
  Runs-snoc c [] (other ∷ answers) run = absurd run
  Runs-snoc c (other ∷ commands) [] run = absurd run
  Runs-snoc c (other ∷ commands) (first ∷ answers) run = (run.0, run.1, Runs-snoc run.0 commands answers run.2)
