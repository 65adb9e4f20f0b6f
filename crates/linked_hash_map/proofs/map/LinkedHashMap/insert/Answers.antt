use Rattle.linked_hash_map.proofs.Names.{IsSome, None, Some, [], ap, arith, drop, option_map, refl, subst, sym, take, true≢false, ◌++◌, ◌∙◌}
use Rattle.linked_hash_map.proofs.Names.{◌∷◌, ◌≡◌, pointer_of, HasKey, pairs_of, find, put, keys_of}
use Rattle.linked_hash_map.proofs.{Callers.Lookups.last-put, Callers.Updates.Updates-put, nodes.CutNodes.held-at, pairs.Calls.put-absent}
use Rattle.linked_hash_map.proofs.lists.Options.{of-None, of-Some}
use Rattle.linked_hash_map.proofs.nodes.FoundKeys.{IsIndex-index_of, index_of-HasKey}
use Rattle.linked_hash_map.proofs.nodes.Kept.{IsValid-kept, IsValid-view, distinct_keys}
use Rattle.linked_hash_map.proofs.nodes.PutPair.{IsKept-put, IsTouchedAt, length-put, pairs-put, touched_at, value_at-touched}
use Rattle.linked_hash_map.proofs.map.LinkedHashMap.insert.Goals as goal

-- a position that is found is that of the key
has : (g : _) (c : goal.After-drop-key g)
    → HasKey (g.K.PartialEq.eq c.args.key) c.locate-hash.result.0 c.self.inside.table.held
    (pointer_of c.in-Some.at)
has g c = (of-Some _ c.in-Some.is c.locate-hash.ensures.found).has

-- and the node there is moved by the map's mode
moved : (g : _) (c : goal.After-drop-key g) → IsTouchedAt (pointer_of c.in-Some.at)
    c.self.inside.state.mode c.self.inside.table.held c.touch.new.table.held
moved g c = record { lies = index_of-HasKey (has g c); touched = c.touch.ensures.touched }

-- a key that is not found is absent
absent : (g : _) (c : goal.After-push_back g) → find g.K.PartialEq.eq c.args.self.now.pairs c.args.key ≡ None
absent g c = rw (← c.self.view_is) (of-None c.in_default.is c.locate-hash.ensures.absent)

pub value_mut-requires : goal.value_mut-requires
value_mut-requires g c =
    let hs = c.self.inside.table.held in
    let there = (of-Some _ c.in-Some.is c.locate-hash.ensures.found).has in
    let moved : IsTouchedAt (pointer_of c.in-Some.at) c.self.inside.state.mode hs c.touch.new.table.held =
    record { lies = index_of-HasKey there; touched = c.touch.ensures.touched } in
    held-at _ _ (touched_at moved)

pub invariant_of-self : goal.invariant_of-self
invariant_of-self g c = IsKept-put g.met.K.Eq.laws (moved g c) c.self.invariant
    c.touch.ensures.keeps.capacity c.replace.new.dest

pub returns-in-Some-clause-old : goal.returns-in-Some-clause-old
returns-in-Some-clause-old g c =
    let there = has g c in
    rw (← c.self.view_is) (
    ap Some c.replace.ensures.value
    ∙ value_at-touched g.met.K.Eq.laws (IsIndex-index_of there) (distinct_keys c.self.inside.table.held c.self.invariant)
    (moved g c) c.value_mut.ensures.value
    )

pub returns-in-Some-clause-pairs : goal.returns-in-Some-clause-pairs
returns-in-Some-clause-pairs g c =
    let m = c.self.inside in let there = has g c in
    rw (← c.self.view_is) (
    pairs-put g.met.K.Eq.laws (IsIndex-index_of there) (distinct_keys c.self.inside.table.held c.self.invariant) (moved g c)
    c.value_mut.ensures.alone c.replace.new.dest
    ∙ ap (put g.K.PartialEq.eq m.state.mode (pairs_of m.table.held) c.args.key) c.replace.ensures.after
    )

pub returns-in-Some-clause-updates : goal.returns-in-Some-clause-updates
returns-in-Some-clause-updates g c = Updates-put g.met.K.Eq.laws c.args.self.now.mode
    c.args.self.now.pairs _ c.args.key c.args.value (returns-in-Some-clause-pairs g c)

pub returns-in-Some-clause-valid : goal.returns-in-Some-clause-valid
returns-in-Some-clause-valid g c = IsValid-view c.self.inside c.self.view_is c.self.invariant

pub returns-in-Some-clause-stays_valid : goal.returns-in-Some-clause-stays_valid
returns-in-Some-clause-stays_valid g c = IsValid-kept _ (invariant_of-self g c) refl refl refl

pub returns-in-Some-clause-as_many : goal.returns-in-Some-clause-as_many
returns-in-Some-clause-as_many g c = λ _. rw (← c.self.view_is) (length-put (moved g c) c.replace.new.dest)

pub returns-in-Some-clause-capacity : goal.returns-in-Some-clause-capacity
returns-in-Some-clause-capacity g c =
    let within = (returns-in-Some-clause-valid g c).within in
    let len = returns-in-Some-clause-as_many g c (subst IsSome (returns-in-Some-clause-old g c) refl) in
    let same : c.touch.new.table.capacity ≡ c.args.self.now.capacity =
    rw (← c.self.view_is) c.touch.ensures.keeps.capacity in
    omega (arith, within, len, same)

pub returns-in-Some-clause-pushed : goal.returns-in-Some-clause-pushed
returns-in-Some-clause-pushed g c = λ none. absurd (let no : Some c.replace.result ≡ None = returns-in-Some-clause-old g c ∙ none in cc)

pub returns-in-Some-clause-more : goal.returns-in-Some-clause-more
returns-in-Some-clause-more g c = λ none. absurd (let no : Some c.replace.result ≡ None = returns-in-Some-clause-old g c ∙ none in cc)

pub returns-then-not-make_room-clause-absent : goal.returns-then-not-make_room-clause-absent
returns-then-not-make_room-clause-absent g c = rw (← c.self.view_is) (of-None c.in_default.is c.locate-hash.ensures.absent)

pub push_back-requires-clause-absent : goal.push_back-requires-clause-absent
push_back-requires-clause-absent g c =
    ap (λ pairs. find g.K.PartialEq.eq pairs c.args.key) c.make_room.ensures.pairs
    ∙ rw (← c.self.view_is) (of-None c.in_default.is c.locate-hash.ensures.absent)

pub returns-clause-old : goal.returns-clause-old
returns-clause-old g c = sym (ap (option_map (λ pair. pair.1)) (absent g c))

pub returns-clause-as_many : goal.returns-clause-as_many
returns-clause-as_many g c = λ there. absurd (true≢false (sym (subst IsSome (sym (returns-clause-old g c)) there)))

pub returns-clause-same_room : goal.returns-clause-same_room
returns-clause-same_room g c = λ room. omega (
  arith,
  room (absent g c),
  c.make_room.ensures.made c.if-not-make_room.false,
  c.push_back.ensures.keeps.capacity,
)

pub returns-clause-pairs : goal.returns-clause-pairs
returns-clause-pairs g c = c.push_back.ensures.pairs
    ∙ ap (λ pairs. pairs ++ (c.args.key, c.args.value) ∷ []) c.make_room.ensures.pairs
    ∙ sym (put-absent g.K.PartialEq.eq c.args.self.now.mode c.args.self.now.pairs c.args.key
    c.args.value (absent g c))

pub returns-clause-to_visit : goal.returns-clause-to_visit
returns-clause-to_visit g c =
    let room = c.make_room.ensures in
    c.push_back.ensures.to_visit
    ∙ (λ i. take (room.cursor i).unvisited (drop (room.cursor i).bookmark (keys_of (room.pairs i))))

pub returns-clause-updates : goal.returns-clause-updates
returns-clause-updates g c = Updates-put g.met.K.Eq.laws c.args.self.now.mode c.args.self.now.pairs
    c.push_back.new.self.pairs c.args.key c.args.value (returns-clause-pairs g c)

pub returns-in-Some-clause-last : goal.returns-in-Some-clause-last
returns-in-Some-clause-last g c = last-put g.K.PartialEq.eq c.args.self.now.mode c.args.self.now.pairs _
    c.args.key c.args.value (returns-in-Some-clause-pairs g c)

pub returns-clause-last : goal.returns-clause-last
returns-clause-last g c = last-put g.K.PartialEq.eq c.args.self.now.mode c.args.self.now.pairs
    c.push_back.new.self.pairs c.args.key c.args.value (returns-clause-pairs g c)
