use Rattle.std.proofs.Common.{◌≡◌, ℕ, List, [], ◌∷◌, ◌++◌, true, Some, option_to_list, nat_eq, take, sym, ap, ◌∙◌, arith}
use Rattle.std.proofs.lemmas.Bool.Decides.{nat_tests}
use Rattle.linked_hash_set.specs.Items.{contains, find, without}
use Rattle.uses.proofs.selection.Selection.keep_only.Goals as goal

-- a number that is found is the one looked up
find_is : (items : List ℕ) (x : ℕ) → contains nat_eq items x ≡ true → find nat_eq items x ≡ Some x
find_is [] x has = absurd (cc)
find_is (y ∷ ys) x has = grind (arith, find_is ys x, nat_tests)

pub returns-clause-shapes : goal.returns-clause-shapes
returns-clause-shapes c = λ done.
    let items = c.args.self.now.shapes.items in let shape = c.args.shape in
    let has : contains nat_eq items shape ≡ true = sym c.if-not-to_front.ensures.present in
    c.truncate.ensures.items
    ∙ ap (take 1) (c.to_front.ensures.items ∙ ap (λ o. option_to_list o ++ without nat_eq items shape) (find_is items shape has))
