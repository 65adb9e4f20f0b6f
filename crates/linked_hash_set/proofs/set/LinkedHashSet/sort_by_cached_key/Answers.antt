use Rattle.std.{proofs.Common.rules, specs.Ordering.is_lt, proofs.lemmas.List.Sorted.IsPermutation-map, proofs.lemmas.Result.on_ok_weaker}
use Rattle.linked_hash_set.proofs.Compared.{callable_once, computes, IsSortedBy-keys_of, IsStableBy-keys_of}
use Rattle.linked_hash_set.proofs.set.LinkedHashSet.sort_by_cached_key.Goals as goal

pub sort_by_cached_key-requires : goal.sort_by_cached_key-requires
sort_by_cached_key-requires g c = callable_once g.F.FnMut _ (λ s. s.0.now)
    (λ s a r t called. search rules) (λ s a always. search rules) _ c.requires

pub returns-clause-permutation : goal.returns-clause-permutation
returns-clause-permutation g c = rw (← c.self.view_is)
    (IsPermutation-map (λ pair. pair.0) c.self.inside.map.pairs c.sort_by_cached_key.new.self.pairs
    c.sort_by_cached_key.ensures.permutation)

pub returns-clause-sorted : goal.returns-clause-sorted
returns-clause-sorted g c = on_ok_weaker c.sort_by_cached_key.result
    (λ sorted key computed. IsSortedBy-keys_of (λ x y. is_lt (g.K.Ord.cmp (key x) (key y))) c.sort_by_cached_key.new.self.pairs
    (sorted (λ pair. key pair.0) (computes g.F.FnMut _ (λ s. s.0.now)
    (λ s a r t called. search rules) key _ computed)))
    c.sort_by_cached_key.ensures.sorted

pub returns-clause-stable : goal.returns-clause-stable
returns-clause-stable g c = rw (← c.self.view_is) (on_ok_weaker c.sort_by_cached_key.result
    (λ stable key computed. IsStableBy-keys_of (λ x y. is_lt (g.K.Ord.cmp (key x) (key y))) c.self.inside.map.pairs
    c.sort_by_cached_key.new.self.pairs tt
    (stable (λ pair. key pair.0) (computes g.F.FnMut _ (λ s. s.0.now)
    (λ s a r t called. search rules) key _ computed)))
    c.sort_by_cached_key.ensures.stable)
