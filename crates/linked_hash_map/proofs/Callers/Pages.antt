-- For callers: a page of what an iterator over a map has left.
use Rattle.std.proofs.Common.{◌≡◌, ℕ, List, map, take, drop, Result, IfOk, Vec, vec_items}
use Rattle.std.proofs.lemmas.Iterator.{IsCollectResult, YieldsList-from_take}
use Rattle.std.proofs.lemmas.Iterator.{Adapters.YieldsList-from_skip, Consumers.YieldsList-from_rest, Consumers.map_from_collect}
use Rattle.std.specs.Iterator.Adapters.{skip_source, skip_count, skip_steps, take_source, take_count, take_steps}
use Rattle.std.specs.Map.Iter.{TakesFirst}

-- the first n, as by `take(n)`
pub map_from_take_collect : {X Y Z E : Type 0} (shows : X → Y) {s : _} (all : List Y) (n : ℕ) (r : Result (Vec X Z) E)
    → IsCollectResult (take_steps (TakesFirst shows)) s r → take_source s ≡ all → take_count s ≡ n
    → IfOk r (λ page. map shows (vec_items page) ≡ take n all)
map_from_take_collect shows all n r ran is count = map_from_collect r ran (YieldsList-from_take n (YieldsList-from_rest all is) count)

-- the first n behind m others, as by `skip(m).take(n)`
pub map_from_skip_take_collect : {X Y Z E : Type 0} (shows : X → Y) {s : _} (all : List Y) (m n : ℕ) (r : Result (Vec X Z) E)
    → IsCollectResult (take_steps (skip_steps (TakesFirst shows))) s r → skip_source (take_source s) ≡ all → skip_count (take_source s) ≡ m
    → take_count s ≡ n → IfOk r (λ page. map shows (vec_items page) ≡ take n (drop m all))
map_from_skip_take_collect shows all m n r ran is skipped count = map_from_collect r ran
    (YieldsList-from_take n (YieldsList-from_skip {ys = all} m (YieldsList-from_rest all is) skipped) count)
