use Rattle.linked_hash_map.proofs.Names.{Some, ap, inl, refl, rules, sym, ◌∙◌, to_visit, occupied_key, without}
use Rattle.linked_hash_map.proofs.runs.Effects.{Defines-remove, HasValue-value, IsAbsent-value}
use Rattle.linked_hash_map.proofs.runs.Steps.{Serves-keeps, Serves-same, Serves-unchanged}
use Rattle.linked_hash_map.proofs.replay.entry_remove.Goals as goal

pub returns-in-Occupied : goal.returns-in-Occupied
returns-in-Occupied g c =
    let entry = c.in-Occupied.ensures in let done = c.remove.ensures in
    Serves-same c.remove.new.self.0 (search rules)
    (Serves-keeps (record {
      capacity = done.keeps.capacity ∙ entry.keeps.capacity;
      rechained = done.keeps.rechained ∙ entry.keeps.rechained;
      hasher = done.keeps.hasher ∙ entry.keeps.hasher;
      mode = done.keeps.mode ∙ entry.keeps.mode;
    }) (λ start log defines. (
      HasValue-value g.met.K.Eq.laws defines c.args.key (sym entry.value ∙ ap Some (sym done.value)),
      Defines-remove g.met.K.Eq.laws defines c.args.key
          (done.pairs ∙ ap (λ pairs. without g.K.PartialEq.eq pairs (occupied_key c.in-Occupied.entry)) entry.pairs ∙ entry.acts.removes)
          (done.keeps.capacity ∙ entry.keeps.capacity) (done.keeps.mode ∙ entry.keeps.mode),
    )) (inl (done.to_visit ∙ ap to_visit (entry.ends_visit refl))))

pub returns-in-Vacant : goal.returns-in-Vacant
returns-in-Vacant g c =
    let entry = c.in-Vacant.ensures in
    Serves-same c.drop-entry.new.self.0 (search rules)
    (Serves-unchanged g.met.K.Eq.laws (c.drop-entry.ensures ∙ entry.unchanged refl) (λ log. refl)
    (λ start log defines. IsAbsent-value g.met.K.Eq.laws defines c.args.key (sym entry.value)))
