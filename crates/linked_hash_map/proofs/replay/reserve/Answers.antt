use Rattle.linked_hash_map.proofs.Names.{Err, ap, arith, inr, refl}
use Rattle.linked_hash_map.proofs.runs.{Effects.Defines-reserve, Effects.size-contents, Steps.Serves-unchanged}
use Rattle.linked_hash_map.proofs.replay.reserve.Goals as goal

pub returns-in-Ok : goal.returns-in-Ok
returns-in-Ok g c =
    let done = c.in-Ok.ensures in
    record {
      answers = λ start log defines. let size_is = size-contents g.met.K.Eq.laws defines in
          let limit = done.stays_valid.limit in let room = done.capacity in
          omega arith;
      defines = λ start log defines. Defines-reserve g.met.K.Eq.laws defines c.args.additional done.pairs done.capacity done.settings.mode;
      hasher = done.settings.hasher;
      rechained = done.rechained;
      visit = inr done.to_visit;
    }

pub returns-in-Err-TooLarge : goal.returns-in-Err-TooLarge
returns-in-Err-TooLarge g c =
    let refused = c.in-Err-TooLarge.ensures in
    Serves-unchanged g.met.K.Eq.laws refused.unchanged (λ log. refl) (λ start log defines.
    let size_is = size-contents g.met.K.Eq.laws defines in
    let over = refused.too_large.0 (ap Err c.in-Err-TooLarge.field-0-is) in
    omega arith)

pub returns-in-Err-NoRoom : goal.returns-in-Err-NoRoom
returns-in-Err-NoRoom g c =
    let refused = c.in-Err-NoRoom.ensures in let told = ap Err c.in-Err-NoRoom.field-0-is in
    Serves-unchanged g.met.K.Eq.laws refused.unchanged (λ log. refl) (λ start log defines.
    let size_is = size-contents g.met.K.Eq.laws defines in
    let high_water = defines.same_capacity in let over = refused.no_room told in
    let within = refused.no_room_within told in
    (omega arith, omega arith))
