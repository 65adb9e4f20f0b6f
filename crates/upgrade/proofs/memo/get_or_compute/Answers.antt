use Rattle.std.proofs.Common.{◌≡◌, ℕ, ap, nat_eq}
use Rattle.std.proofs.lemmas.List.Elements.{All-same}
use Rattle.linked_hash_map.proofs.Callers.EachPair.{All-to_back_as_is}
use Rattle.upgrade.proofs.memo.get_or_compute.Goals as goal

pub returns-in-Some-clause-stored : goal.returns-in-Some-clause-stored
returns-in-Some-clause-stored g c = let P = λ (pair : ℕ × ℕ). pair.1 ≡ g.F.Function.of pair.0 in
    All-same P _ _ (ap (λ cache. cache.pairs) c.get.follows.holds-at-none)
    (All-to_back_as_is P nat_eq c.args.cache.now.pairs c.args.number c.requires.stored)
