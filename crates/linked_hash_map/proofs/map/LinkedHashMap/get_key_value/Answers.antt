use Rattle.linked_hash_map.proofs.{Names.Some, Names.ap₂, Names.sym, Names.◌∙◌, lists.Options.of-None, lists.Options.of-Some}
use Rattle.linked_hash_map.proofs.map.LinkedHashMap.get_key_value.Goals as goal

pub returns : goal.returns
returns g c =
    let it = of-Some _ c.in_ok-at.was c.locate-found.ensures.found in let held = it.has.held in
    rw (← c.self.view_is) (
    ap₂ (λ k v. Some (k, v)) (c.key.ensures held.before held.node held.after held.is held.at_is)
    (c.value.ensures held.before held.node held.after held.is held.at_is)
    ∙ sym it.pair)

pub returns-in_err-at : goal.returns-in_err-at
returns-in_err-at g c =
    rw (c.from_residual.ensures, ← c.self.view_is) (sym (of-None c.in_err-at.was c.locate-found.ensures.absent))
