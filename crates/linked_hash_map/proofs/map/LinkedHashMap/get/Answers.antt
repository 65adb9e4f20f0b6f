use Rattle.linked_hash_map.proofs.Names.{Some, ap, option_map, sym, ◌∙◌}
use Rattle.linked_hash_map.proofs.lists.Options.{of-None, of-Some}
use Rattle.linked_hash_map.proofs.map.LinkedHashMap.get.Goals as goal

pub returns : goal.returns
returns g c =
    let it = of-Some _ c.in_ok-found.was c.locate-found.ensures.found in let held = it.has.held in
    rw (← c.self.view_is) (
    ap Some (c.value.ensures held.before held.node held.after held.is held.at_is)
    ∙ sym (ap (option_map (λ pair. pair.1)) it.pair)
    )

pub returns-in_err-found : goal.returns-in_err-found
returns-in_err-found g c =
    rw (c.from_residual.ensures, ← c.self.view_is)
    (sym (ap (option_map (λ pair. pair.1)) (of-None c.in_err-found.was c.locate-found.ensures.absent)))
