use Rattle.linked_hash_map.proofs.Names.{None, arith, length, refl, rules, subst, sym, ◌<◌, ◌≡◌, pointer_of, held, hash_by, LinkedMap}
use Rattle.linked_hash_map.proofs.Names.{cursor_state, pairs_of, unvisited_of, find}
use Rattle.linked_hash_map.proofs.nodes.{HeldPairs.length-pairs_of, Kept.IsValid-kept}
use Rattle.linked_hash_map.proofs.nodes.PushedPair.{IsKept-push, bookmark_at-push, current_at-push, pairs_of-push, to_visit-push}
use Rattle.linked_hash_map.proofs.map.LinkedHashMap.push_back.Goals as goal

pub push_back-requires : goal.push_back-requires
push_back-requires g c =
    let t = c.self.inside.table in let room : length (pairs_of t.held) < t.capacity =
    subst (λ (z : LinkedMap g.row.K.Denot g.row.V.Denot g.row.S.Denot). length z.pairs < z.capacity)
    (sym c.self.view_is) c.requires.room in
    let of_pairs = length-pairs_of t.held in
    omega (arith, room, of_pairs)

pub invariant_of-self : goal.invariant_of-self
invariant_of-self g c =
    let m = c.self.inside in let eq = g.K.PartialEq.eq in
    let of_pairs = length-pairs_of m.table.held in
    let hash = hash_by g.S.Hasher.Hasher.finish g.S.Hasher.Hasher.write g.S.BuildHasher.build_hasher g.K.Hash.hash_input in
    let given : (length (pairs_of m.table.held) < m.table.capacity)
    × ((find eq (pairs_of m.table.held) c.args.key ≡ None) × (c.args.hash ≡ hash m.hasher c.args.key)) =
    subst (λ (z : LinkedMap g.row.K.Denot g.row.V.Denot g.row.S.Denot). (length z.pairs < z.capacity)
    × ((find eq z.pairs c.args.key ≡ None) × (c.args.hash ≡ hash z.hasher c.args.key)))
    (sym c.self.view_is) (c.requires.room, (c.requires.absent, c.requires.hash)) in
    IsKept-push m.table.held
    (held (pointer_of c.push_back.result) c.args.hash None (c.args.key, c.args.value))
    c.push_back.ensures.last c.self.invariant g.met.K.Eq.laws given.1.1 given.1.0 (omega (arith, given.0, of_pairs))
    c.push_back.ensures.keeps.capacity

pub returns : goal.returns
returns g c =
    let u = held (pointer_of c.push_back.result) c.args.hash None (c.args.key, c.args.value) in
    let m = c.self.inside in let hs = m.table.held in let last = c.push_back.ensures.last in
    rw (← c.self.view_is) (record {
      pairs = pairs_of-push hs u last;
      keeps = search rules;
      cursor = λ i. cursor_state (bookmark_at-push hs u last c.self.invariant i) (unvisited_of m.state)
          (current_at-push hs u last c.self.invariant i);
      to_visit = to_visit-push hs u last c.self.invariant;
      stays_valid = IsValid-kept _ (invariant_of-self g c) refl refl refl;
    })
