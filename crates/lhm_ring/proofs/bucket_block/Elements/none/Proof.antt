-- `none` owns no element. Assumes `Logic`.
use Rattle.lhm_ring.proofs.Names.{ !, Args, RattleType, [], a_type, agg, alloc_all, and_then, arith, block_ptr, by, fjoin, flt_i, free_all}
use Rattle.lhm_ring.proofs.Names.{ftrue, get, id⊢, inst_fn, keep, layouts, look_at, no_more, nothing, param, pass_all, qed, raw, refl}
use Rattle.lhm_ring.proofs.Names.{returns, sets, split, type_size, use0, ‵, ◌$◌, ◌*◌, ◌^◌, ◌∵◌, ◌∷◌, ◌⊛◌}
use Rattle.lhm_ring.proofs.memory.ElementsOwned.{Field, Owner, elements_made}
use Rattle.lhm_ring.proofs.memory.Steps.{runs_at, tokens, walks, with_facts}
use Rattle.lhm_ring.proofs.{bucket_block.Elements.none.Statement.statement, memory.NodeFields.marker}
use Rattle.lhm_ring.specs.contracts.bucket_block.Elements.none.{clauses, ended, Key.name as #self}
use Rattle.lhm_ring.proofs.bucket_block.Elements.none.Code as code

pub none_spec : {M : Type 1} → statement M
none_spec 𝓤 𝓛 𝓜 𝓡 wired X L =
    let args : Args = layouts (a_type ∷ []) (X, tt) in
    let R : RattleType = param 0 X in
    let En = ended X in let c = clauses X 𝓛 𝓜.mem 𝓡.returns in let fn = inst_fn args code.function in
    walks 𝓛 En c 𝓡 tt (#self args) fn (code.unfolded 𝓤 𝓛.H 𝓜 𝓡 wired (X, tt)) (λ κs qs _ a _ gh _ Post leave.
    let out : (Owner R).Denot = record { marker = record {}; at = block_ptr 0 0; items = [] } in
    qed 𝓛 ((‵ (tokens 1 κs qs) ⊛ ‵ ftrue) ∷ raw ((c κs a).requires gh) ∷ []) ∵ split ! $ keep ! (0 ∷ []) $
    runs_at ! fn [] refl $ alloc_all ! (λ l. pass_all ! refl tt $
    sets ! (agg ! (no_more !)) refl (tt, tt) $ sets ! (agg ! (and_then ! (get ! refl) (no_more !))) refl (tt, (tt, tt)) $
    nothing ! $ flt_i ! (0 * type_size R) (2 ^ 63) (omega arith) $ fjoin ! $
    use0 𝓛 (‵ ((Field R).own_val (record {}, tt) (marker ∷ []))) (elements_made R 𝓛) $ fjoin ! $ nothing ! $
    returns ! (look_at ! 0 refl) $ free_all ! refl $ keep ! (2 ∷ 0 ∷ 1 ∷ []) $
    by ! (with_facts 𝓛 (_ ∷ []) (leave marker out tt) (id⊢ 𝓤 _) (refl, tt))))
