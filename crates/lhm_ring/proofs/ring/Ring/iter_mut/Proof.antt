-- `iter_mut` shares the ring as one of holes, and lends the values. Assumes `Logic`.
use Rattle.lhm_ring.proofs.Names.{subst, with_values, Incl-trans, parts_share, Goes-spent_ref, stay_dropped, takes_beside}
use Rattle.lhm_ring.proofs.Names.{Body as Borrowed, AreLent, ValueLoan, proved_at, Incl-refl, plain_out, view_owns, named_lft, types_at}
use Rattle.lhm_ring.proofs.Names.{alloc_all, sets_last, ℕ, spread, leaves, tables, inst_fn, vstruct, look_at, through, fsplit3, no_more}
use Rattle.lhm_ring.proofs.Names.{returns, List, refl, ◌++◌, fbor, flft, fobs, fact, hide, owns, vnil, vptr, sets, later, split, Logic}
use Rattle.lhm_ring.proofs.Names.{first, SemTy, sym, ◌∷◌, ◌≡◌, Fml, Lft, emp, ent, drop, join, keep, move, pick, some, use0, use1, use2}
use Rattle.lhm_ring.proofs.Names.{addr, exec, stop, held_left, loan_name, full_share, follows_by, follows_if, view-Hides, RattleType}
use Rattle.lhm_ring.proofs.Names.{mut_ref_to, State, Links, after, GName, fseps, ftrue, ShrRef, framed, a_type, at_ret, fsplit, split3}
use Rattle.lhm_ring.proofs.Names.{blocks, of_opd, follows, part_at, layouts, nothing, calls_at, walk_of, free_all, lands_as, pass_all}
use Rattle.lhm_ring.proofs.Names.{open_ref, and_then, SProp, Array, param, plain, heard, peeks, Lasts, lasts, Stays, named, vcons, await}
use Rattle.lhm_ring.proofs.Names.{feq_i, fjoin, group, KeepsAllButValues, [], id⊢, ◌⊑◌, no, mem, Bor, Val, Ura, env, get, !, by, qed, raw}
use Rattle.lhm_ring.proofs.Names.{‵, ◌$◌, ◌∵◌, ◌⊛◌, sem, agg}
use Rattle.lhm_ring.proofs.memory.Steps.{all_spent, runs_with, states, states_also, tokens}
use Rattle.lhm_ring.proofs.memory.ValuesSplitOff.{AreLent-held, Fields, Full, Inside, LoanMarker, Sharable-unvalued, Thinned, Vals, back}
use Rattle.lhm_ring.proofs.memory.ValuesSplitOff.{good, held_by, loan_made, parts, places, ring_cut, thin_shape, thinned, vals, view}
use Rattle.lhm_ring.proofs.memory.{NodeFields.marker, NodeFields.struct_made, ValuesInOrder.run_of}
use Rattle.lhm_ring.proofs.memory.{ValuesInOrder.unvalued-set_held_values}
use Rattle.lhm_ring.specs.contracts.ring.Ring.iter_mut.{clauses, ended, Key.name as #self}
use Rattle.lhm_ring.{proofs.ring.Ring.iter_mut.Statement.statement, specs.declared.iter_mut.LentValues.LentValues}
use denote.{Laws.Is, Laws.shows, Param.Laws.param_laws, Triple.Spec.triple_of}
use mathlib.Core.Option as maybe
use denote.Struct.Declared as declared
use Rattle.lhm_ring.specs.contracts.iter_mut.TriplesMut as I-iter
use Rattle.lhm_ring.specs.contracts.iter_mut.TriplesMut.of as g
use Rattle.lhm_ring.proofs.iter_mut.TriplesMut.of.Met as of-thm
use Rattle.lhm_ring.proofs.iter_mut.TriplesMut.TheLaws as iter-laws
use Rattle.lhm_ring.specs.contracts.links.Links as links
use Rattle.lhm_ring.specs.contracts.value_loan.Hole as H-type
use Rattle.lhm_ring.specs.contracts.iter_mut.LentValues as T-type
use Rattle.lhm_ring.specs.contracts.value_loan.ValueLoan as L-type
use Rattle.lhm_ring.specs.contracts.ring.Ring as R-type
use Rattle.lhm_ring.specs.contracts.ring.Ring.TheInside as I-type
use Rattle.lhm_ring.proofs.links.Links.TheLaws as links-laws
use Rattle.lhm_ring.proofs.value_loan.Hole.TheLaws as H-laws
use Rattle.lhm_ring.proofs.ring.Ring.TheInside.TheLaws as I-laws
use Rattle.lhm_ring.proofs.ring.Ring.iter_mut.Code as code

-- what follows a name that a result has
by_name : {M : Type 1} {𝓤 : Ura M} (𝓛 : Logic 𝓤) (R T : RattleType) (γ ν : GName) (F : T.Denot → R.Denot) (v : R.Denot)
    (m : maybe.Option GName) → m ≡ maybe.some ν → ent 𝓤 (sem 𝓛 (follows R T γ ν F)) (sem 𝓛 (follows_if R T γ m F v))
unfolding follows_by
by_name {𝓤 = 𝓤} 𝓛 R T γ ν F v m is =
    subst (λ (n : maybe.Option GName). ent 𝓤 (sem 𝓛 (follows R T γ ν F)) (sem 𝓛 (follows_if R T γ n F v))) (sym is) (id⊢ 𝓤 _)

pub iter_mut_spec : {M : Type 1} → statement M
unfolding fseps
iter_mut_spec 𝓤 𝓛 𝓜 𝓡 wired K V LK LV =
    let H = 𝓛.H in let 𝓣 = tables 𝓤 H 𝓜 𝓡 𝓡.env in let S : RattleType = param 0 K in let W : RattleType = param 1 V in
    let Hr : RattleType = H-type.the_row W in let R : RattleType = R-type.the_row S W in let Holed : RattleType = R-type.the_row S Hr in
    let Seq : RattleType = Array W 0 in let LS = param_laws 0 K LK in let LW = param_laws 1 V LV in let LH = H-laws.the_row_laws W LW in
    let En = ended K V in let c = clauses K V 𝓛 𝓜.mem 𝓡.returns in
    let args = layouts (a_type ∷ a_type ∷ []) (K, (V, tt)) in let fn = inst_fn args code.function in
    let stays : Stays En.signature.params En.kept = (stay_dropped (mut_ref_to (0 ∷ []) tt (plain (λ _. R))) no, tt) in
    proved_at 𝓛 En stays c 𝓜 𝓡 (Goes-spent_ref 𝓛 3 (0 ∷ []) tt (plain (λ _. R)), tt)
    (#self args) fn (code.unfolded 𝓤 H 𝓜 𝓡 wired (K, (V, tt))) (λ y are.
    let κs = y.0.0 in let qs = y.0.1 in let bounds = y.0.2 in let a = y.0.3 in let vss = y.0.4 in
    let Post : Val → SProp 𝓤 = (walk_of 𝓛 En stays c).post y in
    let rb : ℕ = a.0.ref_ptr.0 in let ro : ℕ = a.0.ref_ptr.1 in let d : State (K.Denot × V.Denot) = a.0.now in
    let others : Fml = tokens 2 κs.1 qs.1 in let κ : Lft = κs.0 in let q = qs.0 in let γ = a.0.ghost_name in
    let dcode = R.coded.code d in let nl = named_lft 3 0 tt κs in
    let It : RattleType = L-type.the_row nl links.the_row S W in let Out : RattleType = I-iter.the_row nl S W in
    qed 𝓛 (((‵ (flft κ q) ⊛ ‵ others) ⊛ ‵ (owns (types_at En.signature.params κs) a vss)) ∷
    raw (fact 𝓤 (κs.1.0 ⊑ K.lives)) ∷ raw (fact 𝓤 (κs.1.1.0 ⊑ V.lives)) ∷ raw (emp 𝓤) ∷ []) ∵
    keep ! (1 ∷ 2 ∷ 0 ∷ []) $ heard ! (κs.1.0 ⊑ K.lives) (λ inK. heard ! (κs.1.1.0 ⊑ V.lives)
    (λ inV. split ! $ split ! $ move ! (2 ∷ []) $ fsplit ! $ fsplit3 ! $ keep ! (1 ∷ 2 ∷ 4 ∷ 5 ∷ []) $
    runs_with ! 𝓣.C 𝓣.Λ fn Post (vptr rb ro ∷ []) (λ i. are.0.0 i ++ []) $
    alloc_all ! (λ l. pass_all ! refl ((tt, tt), tt) $ let Ev = env fn.locals l in open_ref ! tt (mem R) {x = d} {b = rb} {o = ro} $
    use1 𝓛 (some (λ (x : (i : Inside S W) × ((view S W i ≡ d) × good S W i)). ‵ (part_at (Full S W) full_share x.0 rb ro)))
    (plain_out R (Full S W) (view_owns (Full S W) (State (K.Denot × V.Denot)) R.coded (view S W) (good S W)) 𝓛 full_share d rb ro) $
    pick ! (λ x. let i : Inside S W = x.0 in let seen = x.1.0 in let ok = x.1.1 in let hs = held_by S W i in
    let ws : List V.Denot = vals S W hs in let Vs : SemTy = Vals S W i in let Fs : Fml = Fields S W 𝓛 i rb ro in
    use1 𝓛 (‵ (spread W (places S W hs) ws) ⊛ ‵ Fs) (ring_cut S W 𝓛 i rb ro) $ split ! $
    -- [the values; the fields; the open borrow, in three; the other tokens]
    nothing ! $ move ! (2 ∷ 0 ∷ []) $ fjoin ! $ nothing ! $ move ! (3 ∷ 4 ∷ 5 ∷ 2 ∷ 1 ∷ 0 ∷ []) $ group ! 6 $
    use1 𝓛 (later (some (λ (ν : ℕ). ‵ (fobs ν (Vs.coded.code ws)) ⊛ ‵ (fbor κ (Borrowed Vs 0 0 ν)) ⊛ ‵ (flft κ q) ⊛
    ‵ (follows R Seq γ ν (with_values d)) ⊛ ‵ (fbor κ Fs) ⊛ ‵ ftrue)))
    (takes_beside 𝓛 (mem R) Vs (with_values d) κ q rb ro 0 0 γ (Fs ∷ []) (emp 𝓤) (back S W 𝓛 i rb ro seen ok) dcode dcode ws) $
    await ! tt $ pick ! (λ ν. split3 ! $ fjoin ! $
    let lent : ValueLoan Links K.Denot V.Denot = record { marker = record {}; name = ν; tie = ν; run = run_of hs } in
    let top : Bor (State (K.Denot × V.Denot)) = record { ref_ptr = (rb, ro); now = d } in
    use0 𝓛 (‵ ((LoanMarker nl S W).own_val (tt, tt) (marker ∷ []))) (loan_made nl S W 𝓛) $ fjoin ! $
    -- [the loan; its token, what follows and the shared parts; the other tokens]
    move ! (1 ∷ []) $ split3 ! $ move ! (2 ∷ []) $ split ! $
    -- [the fields; nothing; the token; what follows; the loan; the other tokens]
    move ! (0 ∷ 2 ∷ []) $ use2 𝓛 (later (‵ ((Thinned S W).shr_at (thinned S W i) rb ro κ) ⊛ ‵ (flft κ q)))
    (parts_share 𝓛 (parts S W) (thin_shape S W).name (thin_shape S W).args (thin_shape S W).types
    (Sharable-unvalued S W links-laws.the_row_laws LS LH, (I-laws.the_shared S Hr LS LH).1) (thinned S W i) κ ((κ, q) ∷ []) rb ro
    (I-laws.the_within S Hr κ (Incl-trans bounds.0 inK) (H-laws.the_within W κ (Incl-trans bounds.1.0 inV))) (Incl-refl κ)) $
    await ! tt $ split ! $ use1 𝓛 (‵ (Holed.shr_at d rb ro κ)) (view-Hides (I-type.the_row S Hr)
    (State (K.Denot × V.Denot)) Holed.coded (R-type.the_view S Hr) (R-type.the_invariant S Hr) _ 𝓤 𝓛 d i (seen, ok) rb ro κ) $
    hide ! $ feq_i ! (List Val) (vptr rb ro ∷ []) (vptr rb ro ∷ []) refl $ fjoin ! $
    -- [the ring, shared; the token; nothing; what follows; the loan; the other tokens]
    move ! (0 ∷ 4 ∷ []) $ struct_made ! (declared.shape (T-type.the_type nl S W)) (ShrRef (named 0) κ Holed) It top lent
    (vptr rb ro) marker $ let out : Val = vstruct (vcons (vptr rb ro) (vcons marker vnil)) in
    sets ! (addr ! (through ! refl (stop !))) refl (tt, tt) $ first ! $ blocks ! $
    sets_last ! (addr ! (through ! refl (stop !))) refl (tt, tt) $ exec ! 𝓣.C 𝓣.Λ Ev (after 2 fn.body) (at_ret Ev Post) $
    sets ! (of_opd ! (get ! refl)) refl (tt, tt) $ sets ! (agg ! (no_more !)) refl (tt, tt) $
    sets ! (agg ! (and_then ! (get ! refl) (no_more !))) refl (tt, (tt, tt)) $
    sets ! (agg ! (and_then ! (get ! refl) (and_then ! (get ! refl) (no_more !)))) refl (tt, (tt, ((tt, tt), tt))) $
    -- [the pair; the token; nothing; what follows; the other tokens]
    let lv : LentValues K.Denot V.Denot = record { ring = top; loan = lent } in
    let O = triple_of 𝓛 (g.signature K V) (g.spec K V 𝓛 𝓜.mem 𝓡.returns) in
    let z : O.Ghost = ((κs, qs, bounds, (lv, tt), (out ∷ [], tt)), tt) in
    move ! (1 ∷ 4 ∷ []) $ join ! $ move ! (1 ∷ 2 ∷ []) $ fjoin ! $ move ! (1 ∷ 0 ∷ []) $ join ! $
    states ! (AreLent (run_of hs) d.held) (AreLent-held S W 𝓛 i rb ro seen ok) $
    states_also ! (κs.1.1.0 ⊑ V.lives) inV $ states_also ! (κs.1.0 ⊑ K.lives) inK $
    move ! (1 ∷ 0 ∷ []) $ use2 𝓛 (raw (O.pre z)) (id⊢ 𝓤 _) $
    calls_at ! (framed 𝓤 H 𝓜 𝓣) O (of-thm.met 𝓤 𝓛 𝓜 𝓡 (code.calls-lhm_ring::iter_mut::TriplesMut::of 𝓡.env wired) K V LK LV) z
    (and_then ! (get ! refl) (no_more !)) (λ v.
    use1 𝓛 (later (some (λ (r : Out.Denot). ((‵ (flft κ q) ⊛ ‵ others) ⊛ ‵ (Out.own_val r (v ∷ [])))
    ⊛ some (λ (ls : Lasts (g.ended K V) κs z.0.3). ‵ (lasts (g.ended K V) κs z.0.3 ls) ⊛
    (raw (fact 𝓤 (held_left r ≡ d.held)) ⊛ raw (fact 𝓤 (loan_name r ≡ maybe.some ν))))))) (id⊢ 𝓤 _) $
    await ! tt $ pick ! (λ r. split ! $ split ! $ split ! $ move ! (3 ∷ []) $
    pick ! (λ ls. split ! $ drop ! $ split ! $ heard ! _ (λ rest. heard ! _ (λ name.
    -- [the token; the other tokens; the result; what follows]
    move ! (2 ∷ []) $ peeks ! Out (Is Out) (shows 𝓛 Out) r (v ∷ []) (λ it.
    lands_as ! refl refl (((iter-laws.the_row_laws nl S W LS LW).lawful 𝓛).typed r (v ∷ []) it).0 $
    returns ! (look_at ! 0 refl) $ free_all ! refl $ move ! (3 ∷ []) $
    use1 𝓛 (‵ (follows_if R Seq γ (loan_name r) (with_values d) d)) (by_name 𝓛 R Seq γ ν (with_values d) d (loan_name r) name) $
    states ! (held_left r ≡ d.held) rest $ states_also ! (KeepsAllButValues d) (unvalued-set_held_values d.held) $
    move ! (1 ∷ 0 ∷ []) $ join ! $ move ! (2 ∷ 3 ∷ []) $ join ! $ all_spent ! 1 $
    keep ! (1 ∷ 0 ∷ 3 ∷ 2 ∷ []) $ by ! (leaves 𝓛 En stays c y v r (tt, tt) (tt, tt))))))))))))))
