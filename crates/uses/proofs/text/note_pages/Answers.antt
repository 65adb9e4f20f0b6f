use Rattle.linked_hash_map.proofs.Callers.Prelude.{rules, ℕ, value_at-insert_each, same_text-laws}
use Rattle.uses.proofs.text.note_pages.Goals as goal

pub returns : goal.returns
returns c = let all = c.in_ok-insert_all.ensures.all in
    record { noted = λ word. search (rules, all, value_at-insert_each {V = ℕ} same_text-laws) }
