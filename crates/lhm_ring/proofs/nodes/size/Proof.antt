-- `size` reads the size of a type. Assumes `Logic`.
use Rattle.lhm_ring.proofs.Names.{ !, Args, List, Val, [], a_type, alloc_all, by, capped, capped_fits, feq_i, fjoin, flft, flt_i, free_all}
use Rattle.lhm_ring.proofs.Names.{ftrue, id⊢, inst_fn, keep, layout, layouts, look_at, nothing, of_opd, pass_all, qed, raw, refl, returns}
use Rattle.lhm_ring.proofs.Names.{sets, size, size_word, split, vint, w64, ‵, ℕ, ◌$◌, ◌^◌, ◌∵◌, ◌∷◌, ◌⊛◌}
use Rattle.lhm_ring.proofs.{memory.Steps.runs_at, memory.Steps.walks, memory.Steps.with_facts, nodes.size.Statement.statement}
use Rattle.lhm_ring.specs.contracts.nodes.size.{clauses, ended, Key.name as #self}
use Rattle.lhm_ring.proofs.nodes.size.Code as code

pub size_spec : {M : Type 1} → statement M
size_spec 𝓤 𝓛 𝓜 𝓡 wired X L =
    let args : Args = layouts (a_type ∷ []) (X, tt) in
    let En = ended X in let c = clauses X 𝓛 𝓜.mem 𝓡.returns in let fn = inst_fn args code.function in
    walks 𝓛 En c 𝓡 tt (#self args) fn (code.unfolded 𝓤 𝓛.H 𝓜 𝓡 wired (X, tt)) (λ κs qs _ a _ gh _ Post leave.
    let n : ℕ = size (layout X) in let s : ℕ = capped n in
    qed 𝓛 (((‵ (flft κs.0 qs.0) ⊛ ‵ ftrue) ⊛ ‵ ftrue) ∷ raw ((c κs a).requires gh) ∷ []) ∵ split ! $ keep ! (0 ∷ []) $
    runs_at ! fn [] refl $ alloc_all ! (λ l. pass_all ! refl tt $
    sets ! (of_opd ! (size_word !)) refl (tt, record { fits = capped_fits n }) $
    flt_i ! s (2 ^ 64) (capped_fits n) $ feq_i ! (List Val) (vint w64 s ∷ []) (vint w64 s ∷ []) refl $ fjoin ! $ nothing ! $
    returns ! (look_at ! 0 refl) $ free_all ! refl $ keep ! (2 ∷ 0 ∷ 1 ∷ []) $
    by ! (with_facts 𝓛 (_ ∷ []) (leave (vint w64 s) s tt) (id⊢ 𝓤 _) (refl, tt))))
