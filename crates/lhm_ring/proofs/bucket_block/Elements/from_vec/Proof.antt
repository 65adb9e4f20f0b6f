-- `from_vec` keeps the memory of a vector. Assumes `Logic`.
use Rattle.lhm_ring.proofs.Names.{ !, Args, RattleType, [], a_type, agg, alive, alloc_all, and_then, await, by, calls_at, fjoin, framed}
use Rattle.lhm_ring.proofs.Names.{free_all, fsplit, get, given, id⊢, inst_fn, keep, lands_as, later, layouts, learn, length, lodged}
use Rattle.lhm_ring.proofs.Names.{look_at, no, no_more, of_opd, owns, param, pass_all, raw, refl, returns, rewrite, sets, sym, tables}
use Rattle.lhm_ring.proofs.Names.{timeless, timeless_laws, types_at, use0, use1, vint, w64, ‵, ℕ, ◌$◌, ◌++◌, ◌<◌, ◌^◌, ◌∙◌, ◌∷◌, ◌≡◌}
use Rattle.lhm_ring.proofs.memory.ElementsOwned.{Field, Owner, elements_made}
use Rattle.lhm_ring.proofs.memory.Lodging.{Dislodges, Lodging, at_dislodge, dislodge_gives, dislodge_goes, lodging_laws, tells}
use Rattle.lhm_ring.proofs.memory.Steps.{all_spent, known, runs_at, used, walks, with_facts, ◌&◌}
use Rattle.lhm_ring.proofs.{bucket_block.Elements.from_vec.Statement.statement, memory.NodeFields.marker}
use denote.Param.Laws.{param_laws}
use Rattle.lhm_ring.specs.contracts.bucket_block.Elements.from_vec.{clauses, ended, Key.name as #self}
use Rattle.std_alloc.proofs.vec.lodged.Vec+T+Lodged.dislodge.Met as dislodge_met
use Rattle.lhm_ring.proofs.bucket_block.Elements.from_vec.Code as code

pub from_vec_spec : {M : Type 1} → statement M
from_vec_spec 𝓤 𝓛 𝓜 𝓡 wired X L =
    let H = 𝓛.H in let 𝓣 = tables 𝓤 H 𝓜 𝓡 𝓡.env in let args : Args = layouts (a_type ∷ []) (X, tt) in
    let R : RattleType = param 0 X in let V : RattleType = Lodging R in
    let En = ended X in let c = clauses X 𝓛 𝓜.mem 𝓡.returns in let fn = inst_fn args code.function in
    let Called = Dislodges X 𝓛 𝓜.mem 𝓡.returns in
    walks 𝓛 En c 𝓡 (used 𝓛 1 V no (λ κs x f. tt) & tt) (#self args) fn
    (code.unfolded 𝓤 H 𝓜 𝓡 wired (X, tt)) (λ κs qs _ a vss _ are Post leave.
    let d : V.Denot = a.0 in let n : ℕ = length d.items in
    known 𝓛 (raw (alive 𝓛 En.signature κs qs) ∷ []) (owns (types_at En.signature.params κs) a vss) (_ ∷ (d.len ≡ d.cap) ∷ []) (λ req.
    let full = req.1.0 in fsplit ! $ keep ! (0 ∷ 2 ∷ []) $
    -- [the vector; what is alive]
    tells ! V (lodging_laws R (param_laws 0 X L)) d vss.0 (λ v ev gv.
    runs_at ! fn (v ∷ []) (λ i. ev i ++ []) $
    alloc_all ! (λ l. pass_all ! refl (gv, tt) $
    sets ! (of_opd ! (get ! refl)) refl gv $
    use1 𝓛 (raw (Called.pre (at_dislodge X 𝓛 𝓜.mem 𝓡.returns d v))) (dislodge_goes X 𝓛 𝓜.mem 𝓡.returns d v) $
    calls_at ! (framed 𝓤 H 𝓜 𝓣) Called
    (dislodge_met.met 𝓤 𝓛 𝓜 𝓡 (code.calls-std_alloc::vec::lodged::Vec+T+Lodged::dislodge 𝓡.env wired) (timeless X) (timeless_laws X L))
    (at_dislodge X 𝓛 𝓜.mem 𝓡.returns d v) (and_then ! (get ! refl) (no_more !)) (λ u.
    use1 𝓛 (later (given ((u ≡ vint w64 d.len) × (d.len < 2 ^ 64)) (‵ (lodged R d.ptr d.len d.cap d.items))))
    (dislodge_gives X 𝓛 𝓜.mem 𝓡.returns d v u) $ await ! tt $ learn ! (λ is.
    lands_as ! is.0 refl (tt, record { fits = is.1 }) $
    sets ! (agg ! (no_more !)) refl (tt, tt) $ sets ! (agg ! (and_then ! (get ! refl) (no_more !))) refl (tt, (tt, tt)) $
    rewrite ! 0 (λ (k : ℕ × ℕ). ‵ (lodged R d.ptr k.0 k.1 d.items)) {x = (n, n)} (λ i. (d.ok.0 i, (sym full ∙ d.ok.0) i)) refl $
    let out : (Owner R).Denot = record { marker = record {}; at = d.ptr; items = d.items } in
    use0 𝓛 (‵ ((Field R).own_val (record {}, tt) (marker ∷ []))) (elements_made R 𝓛) $ fjoin ! $
    -- [the elements; what is alive]
    all_spent ! 1 $
    returns ! (look_at ! 0 refl) $ free_all ! refl $ keep ! (2 ∷ 0 ∷ 1 ∷ []) $
    by ! (with_facts 𝓛 (_ ∷ _ ∷ []) (leave marker out (tt, tt)) (id⊢ 𝓤 _) (refl, (refl, tt)))))))))
