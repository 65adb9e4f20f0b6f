use Rattle.linked_hash_map.proofs.Names.{[], ap, arith, inl, length, length-append, option_map, sym, ◌++◌, ◌-◌, ◌∙◌, ◌∷◌, ◌≡◌}
use Rattle.linked_hash_map.proofs.Names.{Some-injective, rechained_raised}
use Rattle.linked_hash_map.proofs.Callers.{Keys.set_or_push-absent, Updates.Updates-set_or_push}
use Rattle.linked_hash_map.proofs.pairs.{EntryMaps.to_visit-pushed, Indexes.set_value_at-pushed, Indexes.slice_get-pushed}
use Rattle.linked_hash_map.proofs.entry.VacantEntry.insert.Goals as goal

pub returns : goal.returns
returns g c =
    let key = c.args.self.key in let m = c.args.self.map.now in let room = c.make_room in
    let pushed = c.push_back in let longer = ap length pushed.ensures.pairs in
    let one = length-append room.new.self.pairs ((key, c.args.value) ∷ []) in
    let at_end : length pushed.new.self.pairs - 1 ≡ length room.new.self.pairs = omega (arith, longer, one) in
    let pairs = λ (v : g.row.V.Denot).
    set_value_at-pushed room.new.self.pairs pushed.new.self.pairs (key, c.args.value)
    (length pushed.new.self.pairs - 1) pushed.ensures.pairs at_end v
    ∙ ap (λ pairs. pairs ++ (key, v) ∷ []) room.ensures.pairs in
    let last = slice_get-pushed room.new.self.pairs pushed.new.self.pairs (key, c.args.value)
    (length pushed.new.self.pairs - 1) pushed.ensures.pairs at_end in (
      (λ i. inl (
        c.last_value_mut.result.ghost_name,
        λ v. record m {
          pairs = pairs v i;
          capacity = (pushed.ensures.keeps.capacity ∙ room.ensures.made c.if-not-make_room.false) i;
          hasher = (pushed.ensures.keeps.hasher ∙ room.ensures.settings.hasher) i;
          cursor = (pushed.ensures.cursor ∙ room.ensures.cursor) i;
          rechained =
              (pushed.ensures.keeps.rechained ∙ room.ensures.rechained c.if-not-make_room.false
              ∙ ap (rechained_raised m.rechained (length m.pairs) m.capacity)
              (room.ensures.made c.if-not-make_room.false)) i;
          mode = (pushed.ensures.keeps.mode ∙ room.ensures.settings.mode) i;
        },
      )),
      record {
        writes_back = tt;
        value = Some-injective _ _ (sym c.last_value_mut.ensures.value ∙ ap (option_map (λ pair. pair.1)) last);
        limit = omega (
          arith,
          longer,
          one,
          ap length room.ensures.pairs,
          pushed.ensures.stays_valid.within,
          pushed.ensures.stays_valid.limit,
        );
        key_back = tt;
        value_back = tt;
        absent = tt;
        full = tt;
        valid = room.ensures.valid;
        to_visit = λ v. to_visit-pushed g.K.PartialEq.eq m key v room.ensures.valid;
        updates = λ v. Updates-set_or_push g.met.K.Eq.laws _ _ _ v
            (sym (set_or_push-absent g.K.PartialEq.eq m.pairs key v c.args.self.absent));
      },
    )
