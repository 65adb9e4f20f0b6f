use Rattle.linked_hash_map.proofs.Names.{Some, ap, refl, sym, ◌-◌, ◌∙◌, pointer_of, pointer_of_some, visit_of}
use Rattle.linked_hash_map.proofs.nodes.BookmarkMoves.{Goes, IsAt-bookmark, kept_on, outside_on, to_visit_on}
use Rattle.linked_hash_map.proofs.nodes.CutNodes.{held-at}
use Rattle.linked_hash_map.proofs.map.LinkedHashMap.visit_next.Goals as goal

-- the visit goes on from the pair at its bookmark
goes : (g : _) (c : goal.After-self-1 g)
    → Goes c.self.inside.table.held (pointer_of c.in-Some.at) (visit_of c.self.inside.state)
    (record {
      bookmark = pointer_of_some c.bookmark_behind-next.result;
      unvisited = c.unvisited-unvisited.result - 1;
      current = Some (pointer_of c.in-Some.at);
    })
goes g c =
    let m = c.bookmark_behind-next in
    record {
      bookmarked = sym c.bookmark.ensures ∙ ap pointer_of_some c.in-Some.is;
      fewer = ap (λ n. n - 1) c.unvisited-unvisited.ensures;
      current = refl;
      none = λ z. ap pointer_of_some (m.ensures.none z);
      next = m.ensures.next;
      apart = m.ensures.apart;
    }

pub bookmark_behind-next-requires : goal.bookmark_behind-next-requires
bookmark_behind-next-requires g c =
    held-at _ _ (IsAt-bookmark c.self.inside.table.held c.self.invariant (sym c.bookmark.ensures ∙ ap pointer_of_some c.in-Some.is))

pub invariant_of-self : goal.invariant_of-self
invariant_of-self g c =
    let on = c.on-self-inside.ensures in
    rw (on.bookmark, on.unvisited, on.current) (kept_on c.self.inside.table.held c.self.invariant (goes g c))

pub returns-clause-key : goal.returns-clause-key
returns-clause-key g c =
    let on = c.on-self-inside.ensures in
    rw (← c.self.view_is, on.bookmark, on.unvisited, on.current)
    (λ _ key there. to_visit_on c.self.inside.table.held c.self.invariant (goes g c) key there)

pub returns-clause-outside : goal.returns-clause-outside
returns-clause-outside g c =
    let on = c.on-self-inside.ensures in
    rw (on.bookmark, on.unvisited, on.current) (λ _. outside_on c.self.inside.table.held c.self.invariant (goes g c))
