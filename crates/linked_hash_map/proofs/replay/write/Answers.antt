use Rattle.linked_hash_map.proofs.Names.{Some, ap, drop, inr, refl, sym, take, ◌∙◌, set_value}
use Rattle.linked_hash_map.proofs.{Callers.Keys.keys_of-set_value, runs.Steps.Serves-keeps, runs.Steps.Serves-unchanged}
use Rattle.linked_hash_map.proofs.runs.Effects.{Defines-write, HasValue-value, IsAbsent-value}
use Rattle.linked_hash_map.proofs.replay.write.Goals as goal

pub returns-in-Some : goal.returns-in-Some
returns-in-Some g c =
    let m = c.args.map.now in
    Serves-keeps (record { capacity = refl; rechained = refl; hasher = refl; mode = refl }) (λ start log defines. (
      HasValue-value g.met.K.Eq.laws defines c.args.key (sym (ap Some c.replace.ensures.value ∙ c.in-Some.ensures.value)),
      Defines-write g.met.K.Eq.laws defines c.args.key c.args.value
          (ap (set_value g.K.PartialEq.eq m.pairs c.args.key) c.replace.ensures.after) refl refl,
    ))
    (inr (ap (λ ks. take m.cursor.unvisited (drop m.cursor.bookmark ks)) (keys_of-set_value g.K.PartialEq.eq m.pairs c.args.key _)))

pub returns-in-None : goal.returns-in-None
returns-in-None g c = Serves-unchanged g.met.K.Eq.laws refl (λ log. refl)
    (λ start log defines. (IsAbsent-value g.met.K.Eq.laws defines c.args.key (sym c.in-None.ensures.value), refl, refl))
