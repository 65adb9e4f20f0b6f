use Rattle.linked_hash_map.proofs.Names.{None, Some, ap, drop, length, map, option_map, refl, rules, sym, take, ◌∙◌, ◌≡◌, pointer_of}
use Rattle.linked_hash_map.proofs.Names.{HasKey, bare, bookmark_at, pairs_of, visit_of, find, replaced, set_key, value_at, drop-map}
use Rattle.linked_hash_map.proofs.Callers.ReplacedKeys.{keys_of-set_key, length-set_key, set_key-absent, value_at-set_key}
use Rattle.linked_hash_map.proofs.nodes.{AbsentKeys.hash_by-respects, Kept.IsValid-kept, Kept.IsValid-view, Kept.distinct_keys}
use Rattle.linked_hash_map.proofs.nodes.ReplacedKey.{IsKept-rekeyed, cursor_at-rekeyed, set_key-rekeyed}
use Rattle.linked_hash_map.proofs.{Names.take-map, Names.keys_of, lists.Options.of-None, lists.Options.of-Some}
use Rattle.linked_hash_map.proofs.map.LinkedHashMap.replace_key.Goals as goal

-- a position that is found is that of the key
has : (g : _) (c : goal.After-replace_key g)
    → HasKey (g.K.PartialEq.eq c.args.key) c.locate-found.result.0 c.self.inside.table.held
    (pointer_of c.in-Some.at)
has g c = (of-Some _ c.in-Some.is c.locate-found.ensures.found).has

-- and the pairs have the key there
pairs : (g : _) (c : goal.After-replace_key g) → pairs_of c.replace_key.new.self.held
    ≡ set_key g.K.PartialEq.eq (pairs_of c.self.inside.table.held) c.args.key
pairs g c =
    let h = (has g c).held in
    set_key-rekeyed h c.args.key c.replace_key.ensures.held g.met.K.Eq.laws
    ((has g c).key_is h.before h.node h.after h.is h.at_is) (distinct_keys c.self.inside.table.held c.self.invariant)

-- a key that is not found is absent
absent : (g : _) (c : goal.In-None g) → find g.K.PartialEq.eq (pairs_of c.self.inside.table.held) c.args.key ≡ None
absent g c = of-None c.in-None.is c.locate-found.ensures.absent

same_keys : (g : _) (c : goal.In-None g) → keys_of (pairs_of c.self.inside.table.held)
    ≡ map (replaced g.K.PartialEq.eq c.args.key) (keys_of (pairs_of c.self.inside.table.held))
same_keys g c =
    let ps = pairs_of c.self.inside.table.held in
    sym (ap keys_of (set_key-absent g.K.PartialEq.eq ps c.args.key (absent g c))) ∙ keys_of-set_key g.K.PartialEq.eq ps c.args.key

pub replace_key-requires : goal.replace_key-requires
replace_key-requires g c = (of-Some _ c.in-Some.is c.locate-found.ensures.found).has.held

pub invariant_of-self : goal.invariant_of-self
invariant_of-self g c =
    let h = (has g c).held in let same = (has g c).key_is h.before h.node h.after h.is h.at_is in
    IsKept-rekeyed h c.args.key c.replace_key.ensures.held g.met.K.Eq.laws same c.self.invariant
    (hash_by-respects g.S.Hasher.Hasher.finish g.S.Hasher.Hasher.write g.S.BuildHasher.build_hasher
    g.met.K.Hash.respects_eq c.self.inside.hasher c.args.key h.node.pair.0 same)
    c.replace_key.ensures.keeps.capacity

pub returns-in-Some : goal.returns-in-Some
returns-in-Some g c =
    let it = of-Some _ c.in-Some.is c.locate-found.ensures.found in let h = it.has.held in
    let eq = g.K.PartialEq.eq in let k = c.args.key in let f = replaced eq k in let new = c.replace_key.new.self.held in
    let visit = visit_of c.self.inside.state in let ps = pairs_of c.self.inside.table.held in
    let b = bookmark_at visit.bookmark (bare c.self.inside.table.held) in
    rw (← c.self.view_is) (record {
      stored = ap (option_map (λ pair. pair.0)) it.pair ∙ ap Some (sym (c.replace_key.ensures.old h.before h.node h.after h.is h.at_is));
      pairs = pairs g c;
      keeps = search rules;
      to_visit =
          ap (λ start. take visit.unvisited (drop start (keys_of (pairs_of new))))
          (ap (λ cursor. cursor.bookmark) (cursor_at-rekeyed (has g c).held k c.replace_key.ensures.held visit))
          ∙ ap (λ qs. take visit.unvisited (drop b (keys_of qs))) (pairs g c)
          ∙ ap (λ ks. take visit.unvisited (drop b ks)) (keys_of-set_key eq ps k)
          ∙ ap (take visit.unvisited) (drop-map f b (keys_of ps)) ∙ take-map f visit.unvisited (drop b (keys_of ps));
      valid = IsValid-view c.self.inside refl c.self.invariant;
      stays_valid = IsValid-kept _ (invariant_of-self g c) refl refl refl;
      keys = ap keys_of (pairs g c) ∙ keys_of-set_key eq ps k;
      values = λ q. ap (λ qs. value_at eq qs q) (pairs g c) ∙ value_at-set_key g.met.K.Eq.laws ps k q;
      len = ap length (pairs g c) ∙ length-set_key eq ps k;
      key_back = tt;
      unchanged = tt;
      absent = tt;
    })

pub returns-in-None-clause-pairs : goal.returns-in-None-clause-pairs
returns-in-None-clause-pairs g c =
    rw (← c.self.view_is) (sym (set_key-absent g.K.PartialEq.eq (pairs_of c.self.inside.table.held) c.args.key (absent g c)))

pub returns-in-None-clause-to_visit : goal.returns-in-None-clause-to_visit
returns-in-None-clause-to_visit g c =
    let hs = c.self.inside.table.held in let visit = visit_of c.self.inside.state in
    let keys = keys_of (pairs_of hs) in let b = bookmark_at visit.bookmark (bare hs) in
    let f = replaced g.K.PartialEq.eq c.args.key in
    rw (← c.self.view_is)
    (ap (λ ks. take visit.unvisited (drop b ks)) (same_keys g c)
    ∙ ap (take visit.unvisited) (drop-map f b keys) ∙ take-map f visit.unvisited (drop b keys))

pub returns-in-None-clause-keys : goal.returns-in-None-clause-keys
returns-in-None-clause-keys g c = rw (← c.self.view_is) (same_keys g c)

pub returns-in-None-clause-absent : goal.returns-in-None-clause-absent
returns-in-None-clause-absent g c = rw (← c.self.view_is) (absent g c)
