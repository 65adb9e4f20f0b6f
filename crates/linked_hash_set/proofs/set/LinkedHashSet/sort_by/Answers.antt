use Rattle.std.proofs.{Common.MutBor, Common.rules, lemmas.List.Sorted.IsPermutation-map}
use Rattle.linked_hash_set.proofs.Compared.{callable, compares, by_keys, IsSortedBy-keys_of, IsStableBy-keys_of}
use Rattle.linked_hash_set.proofs.set.LinkedHashSet.sort_by.Goals as goal

pub sort_by-requires : goal.sort_by-requires
sort_by-requires g c = callable g.F.FnMut _ (λ (s : record { 0 : MutBor g.row.F.Denot }). s.0.now)
    (λ s a r t called. search rules) (λ s a always. search rules) _ c.requires

pub returns-clause-permutation : goal.returns-clause-permutation
returns-clause-permutation g c = rw (← c.self.view_is)
    (IsPermutation-map (λ pair. pair.0) c.self.inside.map.pairs c.sort_by.new.self.pairs c.sort_by.ensures.permutation)

pub returns-clause-sorted : goal.returns-clause-sorted
returns-clause-sorted g c lt order compared = IsSortedBy-keys_of lt c.sort_by.new.self.pairs
    (c.sort_by.ensures.sorted (λ one other. lt one.0 other.0) (by_keys lt order)
    (compares g.F.FnMut _ (λ (s : record { 0 : MutBor g.row.F.Denot }). s.0.now) (λ s a r t called. search rules) lt _ compared))

pub returns-clause-stable : goal.returns-clause-stable
returns-clause-stable g c lt order compared = rw (← c.self.view_is)
    (IsStableBy-keys_of lt c.self.inside.map.pairs c.sort_by.new.self.pairs tt
    (c.sort_by.ensures.stable (λ one other. lt one.0 other.0) (by_keys lt order)
    (compares g.F.FnMut _ (λ (s : record { 0 : MutBor g.row.F.Denot }). s.0.now) (λ s a r t called. search rules) lt _ compared)))
