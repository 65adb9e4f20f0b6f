use Rattle.linked_hash_map.proofs.Names.{Bool, Err, Ok, ap, arith, count_by, is_some, length, not, sym, ℕ, ◌+◌, ◌-◌, ◌∙◌, ◌≡◌}
use Rattle.linked_hash_map.proofs.Names.{rechained_each, rechained_raised, drain_rest, insert_each, LinkedMap, find, IsValid}
use Rattle.linked_hash_map.proofs.Names.{err_from_is_err_and, IsEquivalence, keys_of}
use Rattle.linked_hash_map.proofs.Callers.Appended.{length-insert_each_distinct, length-insert_each_next}
use Rattle.linked_hash_map.proofs.Callers.Extended.{YieldsList-from_drain, pairs-InsertsAll_drain, pairs-InsertsUntil}
use Rattle.linked_hash_map.proofs.map.LinkedHashMap.append.Goals as goal

ok_is_no_err : {A E : Type 0} {x : A} {e : E} → Ok x ≡ Err e → ⊥
ok_is_no_err told = cc

-- the new length, once the absent keys are counted
length-appended : {K V S S2 : Type 0} {eq : K → K → Bool} → IsEquivalence eq
    → {map : LinkedMap K V S} {other : LinkedMap K V S2} → IsValid eq map → IsValid eq other → {absent : ℕ}
    → absent ≡ count_by (λ key. not (is_some (find eq map.pairs key))) (keys_of other.pairs)
    → length (insert_each eq map.mode map.pairs other.pairs) ≡ length map.pairs + absent
length-appended laws {map} {other} valid other_valid counted =
    length-insert_each_distinct laws map.mode map.pairs other.pairs valid.distinct other_valid.distinct
    ∙ ap (λ n. length map.pairs + n) (sym counted)

pub returns-in_err-reserve-clause-too_large : goal.returns-in_err-reserve-clause-too_large
returns-in_err-reserve-clause-too_large g c =
    let counted = c.count_absent-absent.ensures in let refused = c.in_err-reserve.ensures in
    let longer = length-appended g.met.K.Eq.laws c.reserve.ensures.valid counted.other_valid counted.count in
    let handed = err_from_is_err_and c.from_residual.result c.from_residual.ensures.1 in
    let same = ap Err (sym handed.2) in (
      λ told. omega (arith, longer, refused.too_large.0 (same ∙ sym handed.1 ∙ told)),
      λ above. handed.1 ∙ sym same ∙ refused.too_large.1 (omega (arith, longer, above)),
    )

pub returns-in_err-reserve-clause-no_room : goal.returns-in_err-reserve-clause-no_room
returns-in_err-reserve-clause-no_room g c =
    let counted = c.count_absent-absent.ensures in let refused = c.in_err-reserve.ensures in
    let longer = length-appended g.met.K.Eq.laws c.reserve.ensures.valid counted.other_valid counted.count in
    let handed = err_from_is_err_and c.from_residual.result c.from_residual.ensures.1 in
    λ told. omega (arith, longer, refused.no_room (ap Err (sym handed.2) ∙ sym handed.1 ∙ told))

pub returns-in_err-reserve-clause-no_room_within : goal.returns-in_err-reserve-clause-no_room_within
returns-in_err-reserve-clause-no_room_within g c =
    let counted = c.count_absent-absent.ensures in let refused = c.in_err-reserve.ensures in
    let longer = length-appended g.met.K.Eq.laws c.reserve.ensures.valid counted.other_valid counted.count in
    let handed = err_from_is_err_and c.from_residual.result c.from_residual.ensures.1 in
    λ told. omega (arith, longer, refused.no_room_within (ap Err (sym handed.2) ∙ sym handed.1 ∙ told))

pub unreachable-requires : goal.unreachable-requires
unreachable-requires g c =
    let all = c.args.other.now.pairs in let counted = c.count_absent-absent.ensures in
    let longer = length-appended g.met.K.Eq.laws c.reserve.ensures.valid counted.other_valid counted.count in
    let made = c.in_ok-reserve.ensures in let room = c.reserve.new.self in
    let same : length (insert_each g.K.PartialEq.eq room.mode room.pairs all)
    ≡ length (insert_each g.K.PartialEq.eq c.args.self.now.mode c.args.self.now.pairs all) =
    λ i. length (insert_each g.K.PartialEq.eq (made.settings.mode i) (made.pairs i) all) in
    let refused = c.in-Err.ensures in let key = c.in-Err.field-0.key in
    let until = pairs-InsertsUntil refused.stopped
    (λ it is. YieldsList-from_drain it all (ap drain_rest is ∙ c.drain.ensures.rest)) in
    let next = length-insert_each_next g.met.K.Eq.laws room.mode room.pairs all key c.in-Err.field-0.value
    (length refused.stopped.given) made.stays_valid.distinct until.1
    (ap (λ pairs. find g.K.PartialEq.eq pairs key) (sym until.0) ∙ refused.absent) in
    omega (arith, longer, same, next, ap length until.0, refused.full, refused.capacity, made.capacity)

pub returns-clause-pairs : goal.returns-clause-pairs
returns-clause-pairs g c =
    let all = c.args.other.now.pairs in let made = c.in_ok-reserve.ensures in
    ap (λ m. m.pairs) c.self.view_is
    ∙ pairs-InsertsAll_drain all c.in-Ok.ensures.all (λ it is. ap drain_rest is ∙ c.drain.ensures.rest)
    ∙ (λ i. insert_each g.K.PartialEq.eq (made.settings.mode i) (made.pairs i) all)

pub returns-clause-capacity : goal.returns-clause-capacity
returns-clause-capacity g c =
    let counted = c.count_absent-absent.ensures in
    let longer = length-appended g.met.K.Eq.laws c.reserve.ensures.valid counted.other_valid counted.count in
    omega (
      arith,
      longer,
      counted.count,
      ap length (returns-clause-pairs g c),
      ap (λ m. m.capacity) c.self.view_is,
      ap (λ m. length m.pairs) c.self.view_is,
      c.in-Ok.ensures.capacity,
      c.in_ok-reserve.ensures.capacity,
    )

pub returns-clause-rechained : goal.returns-clause-rechained
returns-clause-rechained g c =
    let self = c.args.self.now in let counted = c.count_absent-absent.ensures in
    let longer = length-appended g.met.K.Eq.laws c.reserve.ensures.valid counted.other_valid counted.count in
    let made = c.in_ok-reserve.ensures in let room = c.reserve.new.self in
    let fits : c.extend.new.self.capacity ≡ room.capacity =
    omega (
      arith,
      longer,
      counted.count,
      ap length (returns-clause-pairs g c),
      ap (λ m. length m.pairs) c.self.view_is,
      c.in-Ok.ensures.capacity,
      made.capacity,
    ) in
    let none : c.extend.new.self.capacity - room.capacity ≡ 0 = omega (arith, fits) in
    ap (λ m. m.rechained) c.self.view_is ∙ c.in-Ok.ensures.rechained
    ∙ ap (rechained_each room.rechained room.capacity) none ∙ made.rechained
    ∙ ap (rechained_raised self.rechained (length self.pairs) self.capacity)
    (sym (ap (λ m. m.capacity) c.self.view_is ∙ fits))

pub returns-clause-too_large : goal.returns-clause-too_large
returns-clause-too_large g c =
    let counted = c.count_absent-absent.ensures in let made = c.in_ok-reserve.ensures in
    let longer = length-appended g.met.K.Eq.laws c.reserve.ensures.valid counted.other_valid counted.count in (
      λ told. absurd (ok_is_no_err told),
      λ above. absurd (omega (arith, longer, above, made.capacity, made.stays_valid.limit)),
    )
