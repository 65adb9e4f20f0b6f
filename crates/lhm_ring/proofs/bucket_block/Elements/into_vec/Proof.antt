-- `into_vec` makes the memory of the elements a vector. Assumes `Logic`.
use Rattle.lhm_ring.proofs.Names.{ !, Args, Lodged, Ptr, RattleType, RawPtr, T, Vec, WT, [], a_type, alive, alloc_all, and_then, ap, arith}
use Rattle.lhm_ring.proofs.Names.{await, by, calls_at, flt, framed, free_all, fsplit, get, given, has_ty, id⊢, in_a_block, inst_fn, keep}
use Rattle.lhm_ring.proofs.Names.{lands_as, later, layout, layouts, learn, length, lodged, look_at, never, no, no_more, of_opd, only, owns}
use Rattle.lhm_ring.proofs.Names.{param, pass_all, pick, ptr_val, raw, refl, returns, rewrite, sem, sets, snd∗, some, subst, sym, tables}
use Rattle.lhm_ring.proofs.Names.{timeless, timeless_laws, type_size, types_at, use1, usize, vint, vptr, w64, yes, ‵, ℕ, ◌$◌, ◌*◌, ◌++◌}
use Rattle.lhm_ring.proofs.Names.{◌<◌, ◌^◌, ◌∙◌, ◌∷◌, ◌≡◌}
use Rattle.lhm_ring.proofs.memory.ElementsOwned.{Owner, elements_known}
use Rattle.lhm_ring.proofs.memory.Lodging.{IsLodged, Lodges, Lodging, at_lodge, lodge_gives, lodge_goes, lodging_laws, tells}
use Rattle.lhm_ring.proofs.memory.Steps.{all_spent, gone, known, runs_at, unblocks_call, used, walks, with_facts, ◌&◌}
use Rattle.lhm_ring.proofs.{bucket_block.Elements.into_vec.Statement.statement, memory.NodeFields.marker}
use denote.Param.Laws.{param_laws}
use Rattle.lhm_ring.specs.contracts.bucket_block.Elements.into_vec.{clauses, ended, Key.name as #self}
use Rattle.std_alloc.proofs.vec.lodge.Met as lodge_met
use Rattle.lhm_ring.proofs.bucket_block.Elements.into_vec.Code as code

pub into_vec_spec : {M : Type 1} → statement M
into_vec_spec 𝓤 𝓛 𝓜 𝓡 wired X L =
    let H = 𝓛.H in let 𝓣 = tables 𝓤 H 𝓜 𝓡 𝓡.env in let args : Args = layouts (a_type ∷ []) (X, tt) in
    let R : RattleType = param 0 X in let S : RattleType = Owner R in let V : RattleType = Lodging R in
    let En = ended X in let c = clauses X 𝓛 𝓜.mem 𝓡.returns in let fn = inst_fn args code.function in
    let Called = Lodges X 𝓛 𝓜.mem 𝓡.returns in
    walks 𝓛 En c 𝓡 (used 𝓛 1 S no (λ κs x f. tt) & gone 𝓛 1 RawPtr yes (λ κs x f. refl) & gone 𝓛 1 usize yes (λ κs x f. refl) & tt)
    (#self args) fn (code.unfolded 𝓤 H 𝓜 𝓡 wired (X, tt)) (λ κs qs _ a vss _ are Post leave.
    let h : S.Denot = a.0 in let p : Ptr = a.1.0 in let n : ℕ = a.1.1.0 in
    known 𝓛 (raw (alive 𝓛 En.signature κs qs) ∷ []) (owns (types_at En.signature.params κs) a vss)
    (_ ∷ (h.at ≡ p) ∷ (length h.items ≡ n) ∷ (n < 2 ^ 63) ∷ []) (λ req.
    let placed = req.1.0 in let long = req.1.1.0 in let small = req.1.1.1.0 in fsplit ! $ keep ! (0 ∷ 2 ∷ []) $
    -- [the elements; what is alive]
    elements_known ! R h vss.0 (λ is.
    rewrite ! 0 (λ (k : ℕ). ‵ (lodged R h.at k k h.items)) long refl $
    in_a_block ! h.at (λ q. lodged R q n n h.items)
    (snd∗ 𝓤 (sem 𝓛 (flt (n * type_size R) (2 ^ 63))) (never 𝓤)) (λ b o found.
    let g : n < 2 ^ 64 = are.1.1.0.1 in
    let z = at_lodge X 𝓛 𝓜.mem 𝓡.returns b o n n h.items in
    runs_at ! fn (marker ∷ vptr b o ∷ vint w64 n ∷ [])
    (λ i. is i ++ ((are.1.0 ∙ ap (λ (q : Ptr). ptr_val q ∷ []) (sym placed ∙ found)) i ++ (are.1.1.0.0 i ++ []))) $
    alloc_all ! (λ l. pass_all ! refl ((tt, (tt, tt)), ((tt, tt), ((tt, record { fits = g }), tt))) $
    use1 𝓛 (raw (Called.pre z)) (lodge_goes X 𝓛 𝓜.mem 𝓡.returns b o n n h.items (sym long) (omega arith) small) $
    unblocks_call ! $ calls_at ! (framed 𝓤 H 𝓜 𝓣) Called
    (lodge_met.met 𝓤 𝓛 𝓜 𝓡 (code.calls-std_alloc::vec::lodge 𝓡.env wired) (timeless X) (timeless_laws X L)) z
    (and_then ! (get ! refl) (and_then ! (get ! refl) (and_then ! (get ! refl) (no_more !)))) (λ u.
    use1 𝓛 (later (some (λ (r : Vec X.Denot Lodged). given (IsLodged X 𝓛 𝓜.mem 𝓡.returns b o n n h.items r)
    (‵ (V.own_val r (u ∷ []))))))
    (lodge_gives X 𝓛 𝓜.mem 𝓡.returns b o n n h.items u) $ await ! tt $ pick ! (λ r. learn ! (λ made.
    tells ! V (lodging_laws R (param_laws 0 X L)) r (u ∷ []) (λ v ev gv.
    rewrite ! 0 (λ w. ‵ (V.own_val r (w ∷ []))) (sym (ap only ev)) refl $
    let good = subst (λ w. T (has_ty (layout V) w) × WT w) (sym (ap only ev)) gv in
    lands_as ! refl refl good $
    sets ! (of_opd ! (get ! refl)) refl good $
    -- [the vector; what is alive]
    all_spent ! 3 $
    returns ! (look_at ! 0 refl) $ free_all ! refl $ keep ! (2 ∷ 0 ∷ 1 ∷ []) $
    by ! (with_facts 𝓛 (_ ∷ _ ∷ _ ∷ []) (leave u r (tt, (tt, (tt, tt)))) (id⊢ 𝓤 _)
    (made.0, ((made.1, made.2), ((made.3 ∙ sym found), tt)))))))))))))
