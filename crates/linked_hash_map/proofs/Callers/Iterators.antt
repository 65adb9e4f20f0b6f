-- For callers: the laws of iterators, for a wrapper that has an iterator of its own. It is seen as
-- the list of what it has left.
use Rattle.std.proofs.Common.{◌≡◌, List, [], ◌∷◌, length, reverse, Result, IfOk, Vec, vec_items, subst, ap, ◌∙◌}
use Rattle.std.proofs.lemmas.Iterator.{YieldsList, IsCollectResult, items_from_collect}
use Rattle.std.proofs.lemmas.{List.length-reverse, List.reverse-append, Iterator.Consumers.YieldsList-from_shown}
use Rattle.std.specs.{Iterator.Adapters.rev_source, Iterator.Adapters.rev_steps, Map.Iter.TakesLast}
pub use Rattle.linked_hash_map.proofs.pairs.IteratorLaws.{shows_in_order, shows_in_reverse, gives_in_order, gives_in_reverse}
pub use Rattle.linked_hash_map.proofs.pairs.IteratorLaws.{lends_in_order, lends_in_reverse, keys_stand}

-- and what such an iterator that owns its items gives from the back, as `into_iter().rev()`
pub YieldsList-from_rev : {X : Type 0} {s : _} (xs : List X) → rev_source s ≡ xs
    → YieldsList (rev_steps (TakesLast (λ (x : X). x))) (λ x. x) s (reverse xs)
YieldsList-from_rev {X} {s} xs is =
    subst (λ ys. YieldsList (rev_steps (TakesLast (λ (x : X). x))) (λ x. x) s (reverse ys)) is
    (YieldsList-from_shown (rev_steps (TakesLast (λ (x : X). x))) (λ x. x) (λ t. reverse (rev_source t))
    (λ s t ends. length-reverse (rev_source s) ∙ ap length ends.0)
    (λ s x t goes. ap reverse goes ∙ reverse-append (rev_source t) (x ∷ [])) s)

pub items_from_rev_collect : {X Z E : Type 0} {s : _} (xs : List X) (r : Result (Vec X Z) E)
    → IsCollectResult (rev_steps (TakesLast (λ (x : X). x))) s r → rev_source s ≡ xs → IfOk r (λ items. vec_items items ≡ reverse xs)
items_from_rev_collect xs r told is = items_from_collect r told (YieldsList-from_rev xs is)
