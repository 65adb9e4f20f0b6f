use Rattle.std.proofs.Common.{ℕ, [], ◌∷◌, ◌++◌, None, refl, ap, ◌∙◌}
use Rattle.tests.proofs.tests.rings.follows_the_worked_row.Goals as goal
use Rattle.lhm_ring.specs.Ring.{Held, held}

-- b, c and a are held then
pub unlink-requires : goal.unlink-requires
unlink-requires g c =
    let a : Held (ℕ × ℕ) = held c.put-a.result.pointer.ptr 7 None (97, 1) in
    let b : Held (ℕ × ℕ) = held c.put.result.pointer.ptr 7 None (98, 2) in
    let last : Held (ℕ × ℕ) = held c.put-c.result.pointer.ptr 9 None (99, 3) in
    let one = c.put-a.ensures ∙ ap (λ hs. hs ++ a ∷ []) c.with_spares-ring.ensures in
    let three = c.put-c.ensures ∙ ap (λ hs. hs ++ last ∷ []) (c.put.ensures ∙ ap (λ hs. hs ++ b ∷ []) one) in
    record { before = b ∷ []; node = last; after = a ∷ []; is = c.move_to_back.ensures.last [] a (b ∷ last ∷ []) three refl; at_is = refl }
