use Rattle.linked_hash_map.proofs.Names.{ap, sym, ◌∙◌, ◌≡◌, Keep, Touch}
use Rattle.linked_hash_map.proofs.map.LinkedHashMap.touch_front.Goals as goal

pub returns-in-Touch-clause-keep : goal.returns-in-Touch-clause-keep
returns-in-Touch-clause-keep g c keep = absurd (let no : Touch ≡ Keep = sym c.in-Touch.is ∙ ap (λ m. m.mode) c.self.view_is ∙ keep in cc)

pub returns-in-Keep-clause-touch : goal.returns-in-Keep-clause-touch
returns-in-Keep-clause-touch g c touch = absurd (let no : Keep ≡ Touch = sym c.in-Keep.is ∙ ap (λ m. m.mode) c.self.view_is ∙ touch in cc)
