-- `lend_bodies` shares the nodes as nodes of holes, and lends what they hold. Assumes `Logic`.
use Rattle.lhm_ring.proofs.Names.{ !, Bor, Fml, Lft, List, MutBor, MutRef, Option, Ptr, RattleType, SemTy, ShrRef, Val, [], addr, agg, ◌⊛◌}
use Rattle.lhm_ring.proofs.Names.{alloc_all, and_then, await, bodies, by, emp, fact, fauth, fbor, feq_i, firsts, fjoin, fjoin3, flft, fobs}
use Rattle.lhm_ring.proofs.Names.{follows, fpack, free_all, fsep, fseps, fsplit, fsplit3, ftrue, get, group, heard, hide, id⊢, inst_fn}
use Rattle.lhm_ring.proofs.Names.{join, keep, later, look_at, mem, move, mut_ref_to, named, named_lft, no, no_more, nothing, of_opd, opens}
use Rattle.lhm_ring.proofs.Names.{owns, pass_all, pick, plain, qed, raw, refl, returns, seconds, sets, some, split, split3, stop, tables}
use Rattle.lhm_ring.proofs.Names.{through, types_at, use0, use1, use2, use3, vcons, vnil, vptr, vstruct, ‵, ℕ, ◌$◌, ◌++◌, ◌∵◌, ◌≡◌, ◌⊑◌}
use Rattle.lhm_ring.proofs.memory.ContentsSplitOff.{Anchor, BareRow, ContentMarker, Fields, HS, HW, Holed, LentBodies, Shares-bare}
use Rattle.lhm_ring.proofs.memory.ContentsSplitOff.{anchor_made, back, content_loan_made, contents_cut, fields_made, stems}
use Rattle.lhm_ring.proofs.memory.NodeFields.{Land, Nr, RK, RL, RV, Three, args, marker, three_rows}
use Rattle.lhm_ring.proofs.memory.Steps.{all_spent, dropped, runs_at, states, states_also, tokens, unblocks, walks, ◌&◌}
use Rattle.lhm_ring.proofs.{memory.Lodging.three_made, nodes.Nodes.lend_bodies.Statement.statement}
use denote.Param.Laws.{param_laws}
use types.Tokens.{name_new}
use Rattle.lhm_ring.proofs.Names.{◌∷◌, cleared_nodes, ContentLoan, Incl-trans, takes_beside, Body as Borrowed, bodies_of, Incl-refl}
use Rattle.lhm_ring.specs.contracts.nodes.Nodes.lend_bodies.{clauses, ended, Key.name as #self}
use Rattle.lhm_ring.specs.contracts.content_loan.ContentLoan as S-type
use Rattle.lhm_ring.proofs.value_loan.Hole.TheLaws as H-laws
use Rattle.lhm_ring.proofs.nodes.Nodes.TheLaws as N-laws
use Rattle.lhm_ring.proofs.nodes.Nodes.lend_bodies.Code as code

pub lend_bodies_spec : {M : Type 1} → statement M
unfolding fseps
lend_bodies_spec 𝓤 𝓛 𝓜 𝓡 wired L K V LL LK LV =
    let H = 𝓛.H in let 𝓣 = tables 𝓤 H 𝓜 𝓡 𝓡.env in let E : Three = three_rows LL LK LV in
    let N = Nr E in let R = RL E in let S = RK E in let W = RV E in
    let En = ended L K V in let c = clauses L K V 𝓛 𝓜.mem 𝓡.returns in let fn = inst_fn (args E) code.function in
    let Self = mut_ref_to (0 ∷ []) tt (plain (λ _. N)) in
    walks 𝓛 En c 𝓡 (dropped 𝓛 4 Self no (λ κs x f. refl) & tt) (#self (args E)) fn
    (code.unfolded 𝓤 H 𝓜 𝓡 wired (L, (K, (V, tt)))) (λ κs qs bounds a vss _ are Post leave.
    let rb : ℕ = a.0.ref_ptr.0 in let ro : ℕ = a.0.ref_ptr.1 in let h : N.Denot = a.0.now in
    let κ : Lft = κs.0 in let q = qs.0 in let γ = a.0.ghost_name in let hcode = N.coded.code h in
    let It : RattleType = S-type.the_row (named_lft 4 0 tt κs) R S W in let sm = ContentMarker (named_lft 4 0 tt κs) R S W in
    let Hr : RattleType = Holed R S W in let ps : List Ptr = firsts (bodies_of h.cells) in let os = seconds (bodies_of h.cells) in
    let Bs : SemTy = LentBodies E 𝓛 h rb ro in let Fs : Fml = Fields E 𝓛 h rb ro in
    qed 𝓛 (((‵ (flft κs.0 qs.0) ⊛ ‵ (tokens 3 κs.1 qs.1)) ⊛ ‵ (owns (types_at En.signature.params κs) a vss))
    ∷ raw (fact 𝓤 (κs.1.0 ⊑ L.lives)) ∷ raw (fact 𝓤 (κs.1.1.0 ⊑ K.lives)) ∷ raw (fact 𝓤 (κs.1.1.1.0 ⊑ V.lives)) ∷ raw (emp 𝓤) ∷ []) ∵
    keep ! (1 ∷ 2 ∷ 3 ∷ 0 ∷ []) $ heard ! (κs.1.0 ⊑ L.lives) (λ inL. heard ! (κs.1.1.0 ⊑ K.lives) (λ inK.
    heard ! (κs.1.1.1.0 ⊑ V.lives) (λ inV. split ! $ split ! $ move ! (2 ∷ []) $ fsplit ! $ fsplit3 ! $ keep ! (1 ∷ 2 ∷ 4 ∷ 5 ∷ []) $
    runs_at ! fn (vptr rb ro ∷ []) (λ i. are.0.0 i ++ []) $
    alloc_all ! (λ l. pass_all ! refl ((tt, tt), tt) $
    opens ! tt N {h = h} rb ro (λ vs. move ! (1 ∷ []) $ fsplit ! $ move ! (1 ∷ []) $
    use1 𝓛 (‵ (bodies R S W ps os) ⊛ ‵ (stems R S W (Land E h) h.cells)) (contents_cut E 𝓛 (Land E h) h.cells) $ split ! $
    -- [the bodies; the stems; the marker; its cell; the open borrow, in three; the other tokens]
    move ! (2 ∷ 1 ∷ 3 ∷ []) $ use3 𝓛 (‵ Fs) (fields_made E 𝓛 h rb ro vs) $
    name_new ! tt (Bs.coded.code os) (λ δ.
    -- [the bodies' name, in two; the fields; the bodies; the open borrow, in three; the other
    -- tokens]
    move ! (3 ∷ 1 ∷ []) $ fjoin ! $ fpack ! (List (Option (K.Denot × V.Denot)))
    (λ w. fsep (Bs.own_at w 0 0) (fauth δ (Bs.coded.code w))) os $
    nothing ! $ move ! (3 ∷ 0 ∷ []) $ fjoin ! $ move ! (1 ∷ 0 ∷ []) $ fjoin ! $
    -- [what is borrowed beside; the bodies' name; the open borrow, in three; the other tokens]
    use0 𝓛 (‵ ((mem Anchor).own_at [] rb ro)) (anchor_made 𝓛 rb ro) $ nothing ! $ move ! (4 ∷ 5 ∷ 6 ∷ 1 ∷ 2 ∷ 0 ∷ []) $ group ! 6 $
    use1 𝓛 (later (some (λ (ν : ℕ). ‵ (fobs ν (Anchor.coded.code [])) ⊛ ‵ (fbor κ (Borrowed (mem Anchor) rb ro ν)) ⊛ ‵ (flft κ q)
    ⊛ ‵ (follows N Anchor γ ν (λ _. cleared_nodes h)) ⊛ ‵ (fbor κ (Borrowed Bs 0 0 δ)) ⊛ ‵ (fbor κ Fs) ⊛ ‵ ftrue)))
    (takes_beside 𝓛 (mem N) (mem Anchor) (λ _. cleared_nodes h) κ q rb ro rb ro γ (Borrowed Bs 0 0 δ ∷ Fs ∷ []) (emp 𝓤)
    (back E 𝓛 h rb ro δ) hcode hcode []) $ await ! tt $ pick ! (λ ν. split3 ! $ move ! (2 ∷ []) $ split3 ! $ move ! (2 ∷ []) $ split3 ! $
    -- [the bodies' borrow; the fields'; nothing; the token; what follows; the anchor's name; its
    -- borrow; the bodies' name; the other tokens]
    feq_i ! (List Val) (vptr rb ro ∷ []) (vptr rb ro ∷ []) refl $ move ! (0 ∷ 6 ∷ 7 ∷ []) $ fjoin3 ! $
    -- [the anchor; the bodies' borrow; the fields'; nothing; the token; what follows; the bodies'
    -- name; the other tokens]
    let top : MutBor (List ℕ) = record { ref_ptr = (rb, ro); ghost_name = ν; now = [] } in
    let seen : Bor N.Denot = record { ref_ptr = (rb, ro); now = h } in
    let lent : ContentLoan L.Denot K.Denot V.Denot = record { marker = record {}; name = δ; run = bodies_of h.cells } in
    move ! (6 ∷ 1 ∷ []) $ fjoin ! $ use0 𝓛 (‵ (sm.own_val (tt, tt) (marker ∷ [])))
    (content_loan_made (named_lft 4 0 tt κs) R S W 𝓛) $ fjoin ! $
    -- [the loan of the contents; the anchor; the fields' borrow; nothing; the token; what follows;
    -- the other tokens]
    move ! (2 ∷ 4 ∷ []) $
    let shared = Shares-bare R S W 𝓛 (param_laws 0 L LL) (H-laws.the_row_laws S (param_laws 1 K LK))
    (H-laws.the_row_laws W (param_laws 2 V LV)) in
    use2 𝓛 (later (‵ ((BareRow R S W).shr_at h rb ro κ) ⊛ ‵ (flft κ q)))
    (shared h κ ((κ, q) ∷ []) rb ro
    (N-laws.the_within R (HS R S W) (HW R S W) κ (Incl-trans bounds.0 inL)
    (H-laws.the_within S κ (Incl-trans bounds.1.0 inK))
    (H-laws.the_within W κ (Incl-trans bounds.1.1.0 inV))) (Incl-refl κ)) $ await ! tt $ split ! $
    use1 𝓛 (‵ (Hr.shr_at h rb ro κ)) (id⊢ 𝓤 _) $ hide ! $ feq_i ! (List Val) (vptr rb ro ∷ []) (vptr rb ro ∷ []) refl $ fjoin ! $
    -- [the nodes, shared; the token; the loan of the contents; the anchor; nothing; what follows;
    -- the other tokens]
    move ! (3 ∷ 0 ∷ 2 ∷ []) $ three_made ! (MutRef (named 0) κ Anchor) (ShrRef (named 0) κ Hr) It
    top seen lent (vptr rb ro) (vptr rb ro) marker $
    let out : Val = vstruct (vcons (vptr rb ro) (vcons (vptr rb ro) (vcons marker vnil))) in
    sets ! (addr ! (through ! refl (stop !))) refl (tt, tt) $ sets ! (addr ! (through ! refl (stop !))) refl (tt, tt) $
    unblocks ! $ sets ! (addr ! (through ! refl (stop !))) refl (tt, tt) $ sets ! (of_opd ! (get ! refl)) refl (tt, tt) $
    unblocks ! $ sets ! (addr ! (through ! refl (stop !))) refl (tt, tt) $ sets ! (of_opd ! (get ! refl)) refl (tt, tt) $
    sets ! (agg ! (no_more !)) refl (tt, tt) $ sets ! (agg ! (and_then ! (get ! refl) (no_more !))) refl (tt, (tt, tt)) $
    sets ! (agg ! (and_then ! (get ! refl) (and_then ! (get ! refl) (and_then ! (get ! refl) (no_more !))))) refl
    (tt, (tt, (tt, ((tt, tt), tt)))) $
    -- [the triple; the token; nothing; what follows; the other tokens]
    states ! (bodies_of h.cells ≡ bodies_of h.cells) refl $ states_also ! (h.cells ≡ h.cells) refl $
    move ! (4 ∷ 0 ∷ []) $ join ! $ move ! (2 ∷ 4 ∷ []) $ join ! $
    all_spent ! 1 $
    returns ! (look_at ! 0 refl) $ free_all ! refl $ keep ! (1 ∷ 0 ∷ 3 ∷ 2 ∷ []) $ by ! (leave out (top, seen, lent) (tt, tt)).prf))))))))
