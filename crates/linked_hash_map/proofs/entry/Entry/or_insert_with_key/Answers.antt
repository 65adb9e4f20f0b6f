use Rattle.linked_hash_map.proofs.Names.{ap, inl, is_some, refl, rules, subst, sym, true≢false, occupied_key, occupied_map, IfErr-weaker}
use Rattle.linked_hash_map.proofs.Names.{IfOk-weaker, name_if_ok, FnOnceReturnsAt, read_of}
use Rattle.linked_hash_map.proofs.{lists.Results.OnErr-always, lists.Results.OnOk-given, pairs.OccupiedEntries.is_some-occupied}
use Rattle.linked_hash_map.proofs.pairs.EntryMaps.{set_or_pushed-absent, set_or_pushed-present, to_visit-set_or_pushed}
use Rattle.linked_hash_map.proofs.entry.Entry.or_insert_with_key.Goals as goal

pub returns-in-Occupied : goal.returns-in-Occupied
returns-in-Occupied g c =
    let eq = g.K.PartialEq.eq in let o = c.in-Occupied.entry in
    rw c.in-Occupied.is (
      (λ i. inl (
        c.into_mut.result.ghost_name,
        λ v. set_or_pushed-present eq (occupied_map o)
            (occupied_key o) v (is_some-occupied o g.met.K.Eq.laws) c.into_mut.ensures.valid.within i,
      )),
      record {
        writes_back = tt;
        value = search rules;
        limit = λ none. absurd (true≢false (ap is_some none));
        key_back = tt;
        value_back = tt;
        absent = tt;
        full = tt;
        valid = c.into_mut.ensures.valid;
        to_visit = λ v. to_visit-set_or_pushed eq (occupied_map o) (occupied_key o) v c.into_mut.ensures.valid;
      },
    )

pub returns : goal.returns
returns g c =
    let eq = g.K.PartialEq.eq in let e = c.in-Vacant.vacant in let m = e.map.now in
    let r = c.insert.result in let made = FnOnceReturnsAt g.F.FnOnce c.args.f e.key in
    let gave : made c.f-value.result = (_, c.f-value.ensures, c.key.ensures) in
    rw c.in-Vacant.is (
      (λ i. read_of (name_if_ok (λ lent. lent.ghost_name) r) (λ v. set_or_pushed-absent eq m e.key v e.absent i) m),
      record {
        writes_back = tt;
        value = IfOk-weaker r _ (λ lent. made lent.now)
            (λ lent h. subst made (sym h) gave)
            c.insert.ensures.value;
        limit = OnOk-given _ _ r c.insert.ensures.limit;
        key_back = c.insert.ensures.key_back;
        value_back = IfErr-weaker r _ (λ refused. made refused.value)
            (λ refused h. subst made (sym h) gave)
            c.insert.ensures.value_back;
        absent = OnErr-always r refl;
        full = c.insert.ensures.full;
        valid = c.insert.ensures.valid;
        to_visit = λ v. to_visit-set_or_pushed eq m e.key v c.insert.ensures.valid;
      },
    )
