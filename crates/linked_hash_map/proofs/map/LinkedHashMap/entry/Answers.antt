use Rattle.linked_hash_map.proofs.Names.{Some, ap, refl, sym, ◌∙◌, cursor_state, nowhere, key_or}
use Rattle.linked_hash_map.proofs.Callers.{Keys.without-absent, Updates.Updates-put, Updates.Updates-set_or_push, Updates.Updates-without}
use Rattle.linked_hash_map.proofs.{log.ActsAs.ActsAs-same, log.ActsAs.put-ActsAs, pairs.OccupiedEntries.occupied_pair-index}
use Rattle.linked_hash_map.proofs.pairs.Indexes.{find-index, is_some-index, value_at-index}
use Rattle.linked_hash_map.proofs.map.LinkedHashMap.entry.Goals as goal

pub returns-then-found-clause-occupied : goal.returns-then-found-clause-occupied
returns-then-found-clause-occupied g c = sym (is_some-index g.met.K.Eq.laws
    c.seek-hash.ensures.valid.distinct (c.seek-hash.ensures.found c.if-found.true))

pub returns-then-found-clause-key : goal.returns-then-found-clause-key
returns-then-found-clause-key g c =
    let index = c.seek-hash.ensures.found c.if-found.true in
    let same = ap (λ m. m.pairs) (c.seek-hash.ensures.ends_visit c.if-found.true) in
    sym (ap (λ pair. pair.0) (occupied_pair-index _ same index))
    ∙ sym (ap (key_or c.args.key) (find-index g.met.K.Eq.laws c.seek-hash.ensures.valid.distinct index index.there))

pub returns-then-found-clause-acts : goal.returns-then-found-clause-acts
returns-then-found-clause-acts g c =
    let index = c.seek-hash.ensures.found c.if-found.true in
    let same = ap (λ m. m.pairs) (c.seek-hash.ensures.ends_visit c.if-found.true) in
    ActsAs-same g.met.K.Eq.laws c.args.self.now.pairs _ c.args.key
    (sym (ap (λ pair. g.K.PartialEq.eq c.args.key pair.0) (occupied_pair-index _ same index)) ∙ index.same)
    (is_some-index g.met.K.Eq.laws c.seek-hash.ensures.valid.distinct index)

pub returns-then-found-clause-value : goal.returns-then-found-clause-value
returns-then-found-clause-value g c =
    let index = c.seek-hash.ensures.found c.if-found.true in
    let same = ap (λ m. m.pairs) (c.seek-hash.ensures.ends_visit c.if-found.true) in
    sym (ap (λ pair. Some pair.1) (occupied_pair-index _ same index))
    ∙ value_at-index g.met.K.Eq.laws c.seek-hash.ensures.valid.distinct index index.there

pub returns-then-found-clause-ends_visit : goal.returns-then-found-clause-ends_visit
returns-then-found-clause-ends_visit g c = λ _.
    let same = c.seek-hash.ensures.ends_visit c.if-found.true in
    (λ i. record c.seek-hash.new.self {
      cursor = cursor_state (c.seek-hash.ensures.bookmark c.if-found.true i)
          (c.seek-hash.ensures.visited c.if-found.true i) nowhere;
    })
    ∙ same

pub returns-then-found-clause-updates : goal.returns-then-found-clause-updates
returns-then-found-clause-updates g c v = Updates-set_or_push g.met.K.Eq.laws _ _ _ v
    ((returns-then-found-clause-acts g c).sets_or_pushes v)

pub returns-then-found-clause-inserts : goal.returns-then-found-clause-inserts
returns-then-found-clause-inserts g c v = Updates-put g.met.K.Eq.laws c.args.self.now.mode _ _ _ v
    (put-ActsAs (returns-then-found-clause-acts g c) c.args.self.now.mode v)

pub returns-then-found-clause-removes : goal.returns-then-found-clause-removes
returns-then-found-clause-removes g c = Updates-without g.met.K.Eq.laws _ _ _ (returns-then-found-clause-acts g c).removes

pub returns-clause-updates : goal.returns-clause-updates
returns-clause-updates g c v = Updates-set_or_push g.met.K.Eq.laws c.args.self.now.pairs _ c.args.key v refl

pub returns-clause-inserts : goal.returns-clause-inserts
returns-clause-inserts g c v = Updates-put g.met.K.Eq.laws c.args.self.now.mode c.args.self.now.pairs _ c.args.key v refl

pub returns-clause-removes : goal.returns-clause-removes
returns-clause-removes g c = Updates-without g.met.K.Eq.laws c.args.self.now.pairs _ c.args.key refl

pub returns-clause-absent : goal.returns-clause-absent
returns-clause-absent g c = λ _.
    without-absent g.K.PartialEq.eq c.args.self.now.pairs c.args.key (c.seek-hash.ensures.absent c.if-found.false)
