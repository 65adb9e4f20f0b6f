use Rattle.linked_hash_map.proofs.Names.{None, Some, ap, arith, false, inl, inr, is_some, length, max, option_map, refl, rules, subst, sym}
use Rattle.linked_hash_map.proofs.Names.{true, unwrap_or, ◌+◌, ◌∙◌, ◌≡◌, ◌≤◌, set_or_pushed, rechained_raised, to_visit, entry_key}
use Rattle.linked_hash_map.proofs.Names.{entry_map, is_occupied, find, key_or, put, set_or_push, value_at}
use Rattle.linked_hash_map.proofs.{lists.Options.Some-unwrap_or, log.LiveKeys.none_is, runs.Effects.IsFull-contents}
use Rattle.linked_hash_map.proofs.pairs.Calls.{find-none, is_some-value_at, put-absent, set_or_push-absent, set_or_push-present}
use Rattle.linked_hash_map.proofs.pairs.{Indexes.set_value-own, Inserts.length-put_most, RehashCounts.rechained_each-insert}
use Rattle.linked_hash_map.proofs.runs.Effects.{Defines-nothing, Defines-put, HasValue-value, IsAbsent-found, IsAbsent-value}
use Rattle.linked_hash_map.proofs.runs.Steps.{Serves-same, Serves-unchanged}
use Rattle.linked_hash_map.proofs.replay.or_insert.Goals as goal

pub returns-then-present : goal.returns-then-present
returns-then-present g c =
    let eq = g.K.PartialEq.eq in let m = c.args.map.now in let k = c.args.key in
    let entry = c.entry-entry.ensures in let lent_map = entry_map c.entry-entry.result in
    let key = entry_key c.entry-entry.result in let value = c.in-Ok._lent.now in
    let occupied : is_occupied c.entry-entry.result ≡ true = search rules in
    let there : is_some (find eq m.pairs k) ≡ true = sym entry.occupied ∙ occupied in
    let own : value_at eq m.pairs k ≡ Some value =
    Some-unwrap_or (value_at eq m.pairs k) c.args.value value
    (is_some-value_at eq m.pairs k ∙ there)
    (c.in-Ok.ensures.value ∙ ap (λ o. unwrap_or o c.args.value) entry.value) in
    let left = set_or_pushed eq lent_map key value in
    let pairs_stay : left.pairs ≡ m.pairs =
    ap (λ ps. set_or_push eq ps key value) entry.pairs
    ∙ entry.acts.sets_or_pushes value
    ∙ set_or_push-present eq m.pairs k value there
    ∙ set_value-own g.met.K.Eq.laws m.pairs k value entry.valid.distinct own in
    let room : left.capacity ≡ m.capacity = let as_long = ap length pairs_stay in
    let same = entry.keeps.capacity in
    omega (arith, entry.valid.within) in
    Serves-same left (search rules)
    (record {
      answers = λ start log defines. (HasValue-value g.met.K.Eq.laws defines k own).0;
      defines = λ start log defines. Defines-nothing g.met.K.Eq.laws defines pairs_stay room entry.keeps.mode;
      hasher = entry.keeps.hasher;
      rechained = rechained_each-insert _ entry.valid.within
          (let at_most : length left.pairs ≤ length m.pairs + 1 = (let as_long = ap length pairs_stay in omega arith) in at_most)
          (ap (λ n. max n (length left.pairs)) entry.keeps.capacity)
          (λ i. rechained_raised (entry.keeps.rechained i) (length (entry.pairs i)) (entry.keeps.capacity i) left.capacity);
      visit = inl (c.in-Ok.ensures.to_visit value ∙ ap to_visit (entry.ends_visit occupied));
    })

pub returns-else-present : goal.returns-else-present
returns-else-present g c =
    let eq = g.K.PartialEq.eq in let m = c.args.map.now in let k = c.args.key in
    let entry = c.entry-entry.ensures in let lent_map = entry_map c.entry-entry.result in
    let key = entry_key c.entry-entry.result in let value = c.in-Ok._lent.now in
    let vacant : is_occupied c.entry-entry.result ≡ false = search rules in
    let absent = none_is (find eq m.pairs k) (sym entry.occupied ∙ vacant) in
    let given : value ≡ c.args.value =
    c.in-Ok.ensures.value ∙ ap (λ o. unwrap_or o c.args.value) (entry.value ∙ ap (option_map (λ pair. pair.1)) absent) in
    let left = set_or_pushed eq lent_map key value in
    let pushed : left.pairs ≡ put eq m.mode m.pairs k c.args.value =
    ap (λ ps. set_or_push eq ps key value) entry.pairs
    ∙ entry.acts.sets_or_pushes value
    ∙ set_or_push-absent eq m.pairs k value absent
    ∙ sym (put-absent eq m.mode m.pairs k value absent)
    ∙ ap (put eq m.mode m.pairs k) given in
    Serves-same left (search rules)
    (record {
      answers = λ start log defines. IsAbsent-found g.met.K.Eq.laws defines k absent;
      defines = λ start log defines. Defines-put g.met.K.Eq.laws defines k c.args.value pushed
          (ap (λ n. max n (length left.pairs)) entry.keeps.capacity) entry.keeps.mode;
      hasher = entry.keeps.hasher;
      rechained = rechained_each-insert _ entry.valid.within
          (subst (λ ps. length ps ≤ length m.pairs + 1) (sym pushed) (length-put_most eq m.mode m.pairs k c.args.value))
          (ap (λ n. max n (length left.pairs)) entry.keeps.capacity)
          (λ i. rechained_raised (entry.keeps.rechained i) (length (entry.pairs i)) (entry.keeps.capacity i) left.capacity);
      visit = inr (c.in-Ok.ensures.to_visit value ∙ ap to_visit (entry.unchanged (entry.value ∙ ap (option_map (λ pair. pair.1)) absent)));
    })

pub returns-in-Err : goal.returns-in-Err
returns-in-Err g c =
    let eq = g.K.PartialEq.eq in let m = c.args.map.now in let k = c.args.key in
    let entry = c.entry-entry.ensures in let refused = c.in-Err.ensures in
    let lent_map = entry_map c.entry-entry.result in
    let none : value_at eq m.pairs k ≡ None = sym entry.value ∙ refused.absent in
    let absent = find-none eq m.pairs k none in let same_map = entry.unchanged refused.absent in
    let full : length m.pairs ≡ m.capacity = sym (ap (λ n. length n.pairs) same_map) ∙ refused.full ∙ ap (λ n. n.capacity) same_map in
    Serves-same lent_map (search rules) (Serves-unchanged g.met.K.Eq.laws same_map (λ log. refl) (λ start log defines. (
      (
        IsAbsent-value g.met.K.Eq.laws defines k none,
        IsFull-contents g.met.K.Eq.laws defines full,
      ),
      refused.key_back ∙ entry.key ∙ ap (key_or k) absent,
      refused.value_back,
    )))
