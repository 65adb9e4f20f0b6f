-- `none` owns nothing. Assumes `Logic`.
use Rattle.lhm_ring.proofs.Names.{ !, [], agg, alive, alloc_all, by, fjoin, free_all, ftrue, id⊢, keep, look_at, no_more, nothing, null_ptr}
use Rattle.lhm_ring.proofs.Names.{pass_all, qed, raw, refl, returns, sets, split, vnil, vstruct, ‵, ◌$◌, ◌∵◌, ◌∷◌, ◌⊛◌}
use Rattle.lhm_ring.proofs.memory.Steps.{runs_at, walks, with_facts}
use Rattle.lhm_ring.proofs.{bucket_block.Dealloc.none.Statement.statement, memory.Lodging.none_made}
use Rattle.lhm_ring.specs.contracts.bucket_block.Dealloc.{the_row as dealloc, none.clauses, none.ended, none.Key.name as #self}
use Rattle.lhm_ring.proofs.bucket_block.Dealloc.none.Code as code

pub none_spec : {M : Type 1} → statement M
none_spec 𝓤 𝓛 𝓜 𝓡 wired =
    walks 𝓛 ended (clauses 𝓛 𝓜.mem 𝓡.returns) 𝓡 tt #self code.function (code.unfolded 𝓤 𝓛.H 𝓜 𝓡 wired) (λ κs qs _ a _ gh _ Post leave.
    let out : dealloc.Denot = record { at = null_ptr; count = 0 } in
    qed 𝓛 ((raw (alive 𝓛 ended.signature κs qs) ⊛ ‵ ftrue)
    ∷ raw ((clauses 𝓛 𝓜.mem 𝓡.returns κs a).requires gh) ∷ []) ∵ split ! $ keep ! (0 ∷ []) $
    runs_at ! code.function [] refl $ alloc_all ! (λ l. pass_all ! refl tt $
    sets ! (agg ! (no_more !)) refl (tt, tt) $
    nothing ! $ none_made ! $ fjoin ! $ nothing ! $
    returns ! (look_at ! 0 refl) $ free_all ! refl $ keep ! (2 ∷ 0 ∷ 1 ∷ []) $
    by ! (with_facts 𝓛 (_ ∷ []) (leave (vstruct vnil) out tt) (id⊢ 𝓤 _) (refl, tt))))
