use Rattle.std.proofs.{Common.◌≡◌, Common.◌||◌, Common.ap, Common.◌∙◌, lemmas.Result.IfOk-weaker}
use Rattle.std.specs.Map.{keys_of}
use Rattle.linked_hash_map.specs.Inserts as inserts
use Rattle.linked_hash_set.specs.{Inserts.insert_each, Items.contains}
use Rattle.linked_hash_set.proofs.Kept.{keys_of-insert_each, contains-insert_each, length-insert_each}
use Rattle.linked_hash_set.proofs.set.LinkedHashSet.append.Goals as goal

pub returns-clause-items : goal.returns-clause-items
returns-clause-items g c =
    let map = c.self.inside.map in let other = c.other.inside.map in
    rw (← c.self.view_is, ← c.other.view_is) (IfOk-weaker c.append.result
    (λ _. c.append.new.self.pairs ≡ inserts.insert_each g.T.PartialEq.eq map.mode map.pairs other.pairs)
    (λ _. keys_of c.append.new.self.pairs ≡ insert_each g.T.PartialEq.eq (keys_of map.pairs) (keys_of other.pairs))
    (λ _ appended. ap keys_of appended ∙ keys_of-insert_each g.T.PartialEq.eq c.self.invariant.mode map.pairs other.pairs)
    c.append.ensures.pairs)

pub returns-clause-contains : goal.returns-clause-contains
returns-clause-contains g c =
    let map = c.self.inside.map in let other = c.other.inside.map in let eq = g.T.PartialEq.eq in
    rw (← c.self.view_is, ← c.other.view_is) (IfOk-weaker c.append.result
    (λ _. c.append.new.self.pairs ≡ inserts.insert_each eq map.mode map.pairs other.pairs)
    (λ _. (q : _) → contains eq (keys_of c.append.new.self.pairs) q
    ≡ (contains eq (keys_of map.pairs) q || contains eq (keys_of other.pairs) q))
    (λ _ appended q. ap (λ pairs. contains eq (keys_of pairs) q) appended
    ∙ contains-insert_each g.met.T.Eq.laws map.mode map.pairs other.pairs q)
    c.append.ensures.pairs)

pub returns-clause-too_large : goal.returns-clause-too_large
returns-clause-too_large g c =
    let same = length-insert_each g.T.PartialEq.eq c.self.invariant.mode c.self.inside.map.pairs c.other.inside.map.pairs in
    rw (← c.self.view_is, ← c.other.view_is, ← same) c.append.ensures.too_large

pub returns-clause-no_room : goal.returns-clause-no_room
returns-clause-no_room g c =
    let same = length-insert_each g.T.PartialEq.eq c.self.invariant.mode c.self.inside.map.pairs c.other.inside.map.pairs in
    rw (← c.self.view_is, ← c.other.view_is, ← same) c.append.ensures.no_room

pub returns-clause-no_room_within : goal.returns-clause-no_room_within
returns-clause-no_room_within g c =
    let same = length-insert_each g.T.PartialEq.eq c.self.invariant.mode c.self.inside.map.pairs c.other.inside.map.pairs in
    rw (← c.self.view_is, ← c.other.view_is, ← same) c.append.ensures.no_room_within
