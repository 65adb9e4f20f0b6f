use Rattle.linked_hash_map.proofs.Names.{ap, option_map, refl, subst, sym, ◌∙◌, ◌≤◌, IsAt-index_of}
use Rattle.linked_hash_map.proofs.lists.Options.{of-None, of-OnSome, of-Some}
use Rattle.linked_hash_map.proofs.nodes.AbsentKeys.{find-LacksKey, hash_by-respects}
use Rattle.linked_hash_map.proofs.nodes.{CutNodes.part-at, Kept.IsValid-view, Kept.distinct_keys}
use Rattle.linked_hash_map.proofs.{nodes.FoundKeys.IsIndex-index_of, nodes.FoundKeys.index_of-HasKey, pairs.Indexes.value_at-slice_get}
use Rattle.linked_hash_map.proofs.nodes.LookupCounts.{count_in_bucket-spots, count_with_hash-spots}
use Rattle.linked_hash_map.proofs.map.LinkedHashMap.get_counted.Goals as goal

pub returns-in-Some : goal.returns-in-Some
returns-in-Some g c =
    let hs = c.self.inside.table.held in let h = of-Some _ c.in-Some.is c.find-found.ensures.found in
    let counts = of-OnSome c.in-Some.is c.find-found.ensures.counts_found in
    let with_hash = count_with_hash-spots hs c.self.invariant c.args.key.now c.hash_one-hash.ensures in
    let in_bucket = count_in_bucket-spots hs c.self.invariant c.args.key.now c.hash_one-hash.ensures in
    rw (← c.self.view_is) (record {
      value = sym (value_at-slice_get g.met.K.Eq.laws (distinct_keys hs c.self.invariant) (IsIndex-index_of h)
          ∙ part-at hs _ (IsAt-index_of _ hs (index_of-HasKey h)) (λ pair. pair.1) c.value.ensures);
      valid = IsValid-view c.self.inside refl c.self.invariant;
      compared = tt;
      visited = tt;
      compared_some = counts.some;
      compared_few = subst (λ n. c.find-found.result.1.compared ≤ n) with_hash counts.compared_few;
      visited_all = counts.order;
      visited_few = subst (λ n. c.find-found.result.1.visited ≤ n) in_bucket counts.visited_few;
    })

pub returns-in-None-clause-value : goal.returns-in-None-clause-value
returns-in-None-clause-value g c =
    let m = c.self.inside in
    rw (← c.self.view_is) (sym (ap (option_map (λ pair. pair.1))
    (find-LacksKey (hash_by-respects g.S.Hasher.Hasher.finish
    g.S.Hasher.Hasher.write g.S.BuildHasher.build_hasher g.met.K.Hash.respects_eq) m.hasher
    c.args.key.now c.hash_one-hash.ensures m.table.held c.self.invariant.hashed
    (of-None c.in-None.is c.find-found.ensures.absent))))

pub returns-in-None-clause-compared : goal.returns-in-None-clause-compared
returns-in-None-clause-compared g c =
    let counts = of-None c.in-None.is c.find-found.ensures.counts_absent in
    rw (← c.self.view_is) (counts.compared_all
    ∙ count_with_hash-spots c.self.inside.table.held c.self.invariant c.args.key.now c.hash_one-hash.ensures)

pub returns-in-None-clause-visited : goal.returns-in-None-clause-visited
returns-in-None-clause-visited g c =
    let counts = of-None c.in-None.is c.find-found.ensures.counts_absent in
    rw (← c.self.view_is) (counts.visited_all
    ∙ count_in_bucket-spots c.self.inside.table.held c.self.invariant c.args.key.now c.hash_one-hash.ensures)
