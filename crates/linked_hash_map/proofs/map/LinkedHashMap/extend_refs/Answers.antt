use Rattle.linked_hash_map.proofs.pairs.ExtendSteps.{InsertsUntil-IsExtended, IsExtended-none, IsExtended-put, find-IsExtended_absent}
use Rattle.linked_hash_map.proofs.{Names.ap, Names.rules, Names.◌∙◌, Names.find, pairs.ExtendSteps.room-IsExtended}
use Rattle.linked_hash_map.proofs.map.LinkedHashMap.extend_refs.Goals as goal

pub loop-key-preserved : goal.loop-key-preserved
loop-key-preserved g c =
    let put = c.in-Ok.ensures in
    IsExtended-put g.met.K.Eq.laws c.len-len.ensures.valid.distinct c.loop-key.invariant c.in-Some.ensures.goes
    (record { pairs = put.pairs; capacity = put.capacity; rechained = put.rechained; settings = put.settings })
    put.stays_valid
    (record { value = c.in-Ok._old; is = put.old; ends = put.ends_visit; stands = put.to_visit; as_many = put.as_many; more = put.more })

pub loop-key-init : goal.loop-key-init
loop-key-init g c =
    IsExtended-none g.met.K.Eq.laws c.len-len.ensures.valid
    (c.requires.ends _ c.into_iter-key-iterator.ensures.into_iter_gives).1

pub returns-in-Err-clause-visit_stopped : goal.returns-in-Err-clause-visit_stopped
returns-in-Err-clause-visit_stopped g c =
    let refused = c.in-Err.ensures in
    InsertsUntil-IsExtended g.met.K.Eq.laws c.len-len.ensures.valid.distinct c.loop-key.invariant
    c.in-Some.ensures.goes c.into_iter-key-iterator.ensures.into_iter_gives
    (c.loop-key.key-iterator, c.loop-key.yielded_by, c.in-Some.ensures.steps) refused.unchanged
    refused.key_back refused.value_back

pub returns-in-Err-clause-stopped : goal.returns-in-Err-clause-stopped
returns-in-Err-clause-stopped g c = (returns-in-Err-clause-visit_stopped g c).0

pub returns-in-Err-clause-new_key : goal.returns-in-Err-clause-new_key
returns-in-Err-clause-new_key g c =
    let refused = c.in-Err.ensures in
    ap (find g.K.PartialEq.eq c.args.self.now.pairs) refused.key_back
    ∙ find-IsExtended_absent g.met.K.Eq.laws c.len-len.ensures.valid.distinct
    c.loop-key.invariant c.in-Some.ensures.goes refused.absent

pub returns-in-Err-clause-succeeds : goal.returns-in-Err-clause-succeeds
returns-in-Err-clause-succeeds g c = λ n most fits.
    absurd (room-IsExtended g.met.K.Eq.laws c.len-len.ensures.valid.distinct c.loop-key.invariant
    c.in-Some.ensures.goes n (most _ c.into_iter-key-iterator.ensures.into_iter_gives).1
    c.in-Err.ensures.full fits)

pub returns-clause-to_visit : goal.returns-clause-to_visit
returns-clause-to_visit g c = (
  record { given = c.loop-key.yielded; gives = search rules; pairs = c.loop-key.invariant.inserted.pairs },
  c.loop-key.invariant.visit,
)
