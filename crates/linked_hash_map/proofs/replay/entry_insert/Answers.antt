use Rattle.linked_hash_map.proofs.Names.{Some, [], ap, arith, cond, inl, inr, length, length-append, max, refl, rules, subst, sym, ◌++◌}
use Rattle.linked_hash_map.proofs.Names.{◌+◌, ◌∙◌, ◌∷◌, ◌≡◌, ◌≤◌, pushed, rechained_raised, to_visit, occupied_key, find, key_or, put}
use Rattle.linked_hash_map.proofs.{log.ActsAs.put-ActsAs, log.LiveKeys.none_is, runs.Steps.Serves-same, runs.Steps.Serves-unchanged}
use Rattle.linked_hash_map.proofs.pairs.{Calls.length-put, Calls.put-absent, Inserts.length-put_most}
use Rattle.linked_hash_map.proofs.pairs.RehashCounts.{rechained_each-insert, rechained_each-same}
use Rattle.linked_hash_map.proofs.runs.Effects.{Defines-put, HasValue-value, IsAbsent-found, IsFull-contents}
use Rattle.linked_hash_map.proofs.replay.entry_insert.Goals as goal

pub returns-in-Occupied : goal.returns-in-Occupied
returns-in-Occupied g c =
    let m = c.args.map.now in let entry = c.in-Occupied.ensures in let done = c.insert.ensures in
    let left = c.insert.new.self.map.now in
    let moved : left.pairs ≡ put g.K.PartialEq.eq m.mode m.pairs c.args.key c.args.value =
    done.pairs
    ∙ (λ i. put g.K.PartialEq.eq (entry.keeps.mode i) (entry.pairs i) (occupied_key c.in-Occupied.entry) c.args.value)
    ∙ put-ActsAs entry.acts m.mode c.args.value in
    let as_long : length left.pairs ≡ length m.pairs =
    ap length moved
    ∙ length-put g.met.K.Eq.laws m.mode m.pairs c.args.key c.args.value entry.valid.distinct
    ∙ ap (λ b. cond b (length m.pairs) (length m.pairs + 1)) (sym entry.occupied) in
    let room : left.capacity ≡ max m.capacity (length left.pairs) = let same = done.keeps.capacity
    ∙ entry.keeps.capacity in
    omega (arith, entry.valid.within) in
    Serves-same left (search rules)
    (record {
      answers = λ start log defines. HasValue-value g.met.K.Eq.laws defines c.args.key (sym entry.value ∙ ap Some (sym done.old));
      defines = λ start log defines. Defines-put g.met.K.Eq.laws defines c.args.key c.args.value
          moved room (done.keeps.mode ∙ entry.keeps.mode);
      hasher = done.keeps.hasher ∙ entry.keeps.hasher;
      rechained = rechained_each-same _ (done.keeps.capacity ∙ entry.keeps.capacity) (done.keeps.rechained ∙ entry.keeps.rechained);
      visit = inl (done.to_visit ∙ ap to_visit (entry.ends_visit refl));
    })

pub returns-in-Ok : goal.returns-in-Ok
returns-in-Ok g c =
    let eq = g.K.PartialEq.eq in let m = c.args.map.now in let entry = c.in-Vacant.ensures in
    let lent_map = c.in-Vacant.entry.map.now in let key = c.in-Vacant.entry.key in
    let value = c.in-Ok._lent.now in let same_map = entry.unchanged refl in
    let absent = none_is (find eq m.pairs c.args.key) (sym entry.occupied) in
    let same_key : key ≡ c.args.key = entry.key ∙ ap (key_or c.args.key) absent in
    let left = pushed lent_map key value in
    let went_in : left.pairs ≡ put eq m.mode m.pairs c.args.key c.args.value =
    (λ i. entry.pairs i ++ (same_key i, c.in-Ok.ensures.value i) ∷ [])
    ∙ sym (put-absent eq m.mode m.pairs c.args.key c.args.value absent) in
    let room : left.capacity ≡ max m.capacity (length left.pairs) =
    let longer = length-append lent_map.pairs ((key, value) ∷ []) in let same = entry.keeps.capacity in omega arith in
    Serves-same left (search rules)
    (record {
      answers = λ start log defines. IsAbsent-found g.met.K.Eq.laws defines c.args.key absent;
      defines = λ start log defines. Defines-put g.met.K.Eq.laws defines c.args.key c.args.value went_in room entry.keeps.mode;
      hasher = entry.keeps.hasher;
      rechained = rechained_each-insert _ entry.valid.within
          (subst (λ ps. length ps ≤ length m.pairs + 1) (sym went_in)
          (length-put_most eq m.mode m.pairs c.args.key c.args.value))
          room (λ i. rechained_raised (entry.keeps.rechained i) (length (entry.pairs i)) (entry.keeps.capacity i) left.capacity);
      visit = inr (c.in-Ok.ensures.to_visit value ∙ ap to_visit same_map);
    })

pub returns-in-Err : goal.returns-in-Err
returns-in-Err g c =
    let eq = g.K.PartialEq.eq in let m = c.args.map.now in let entry = c.in-Vacant.ensures in
    let refused = c.in-Err.ensures in let same_map = entry.unchanged refl in
    let absent = none_is (find eq m.pairs c.args.key) (sym entry.occupied) in
    let same_key = entry.key ∙ ap (key_or c.args.key) absent in
    let full : length m.pairs ≡ m.capacity = sym (ap (λ n. length n.pairs) same_map) ∙ refused.full ∙ ap (λ n. n.capacity) same_map in
    Serves-unchanged g.met.K.Eq.laws (search rules) (λ log. refl) (λ start log defines. (
      (
        IsAbsent-found g.met.K.Eq.laws defines c.args.key absent,
        IsFull-contents g.met.K.Eq.laws defines full,
      ),
      refused.key_back ∙ same_key,
      refused.value_back,
    ))
