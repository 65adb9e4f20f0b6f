-- `take` moves out what one node holds, of what is lent. Assumes `Logic`.
use Rattle.lhm_ring.proofs.Names.{ !, Bodies, ContentLoan, HasBody, Lft, List, None, Option, Ptr, RattleType, Some, Val, [], agg, alloc_all}
use Rattle.lhm_ring.proofs.Names.{ap, as_fields, bodies, body_owns, borrows_bodies, by, close_ref, closes, fbor, firsts, fjoin, free_all}
use Rattle.lhm_ring.proofs.Names.{fsplit, fsplit3, full_share, get, get_in, id⊢, in_a_block, inst_fn, is, join, keep, key_address, layout}
use Rattle.lhm_ring.proofs.Names.{lies_at, look_at, move, named_lft, never, open_ref, opens, owns, pass_all, ptr_val, refl, rewrite}
use Rattle.lhm_ring.proofs.Names.{seconds, sets, split, sub, sym, tables, through, types_at, use1, use2, value_address, vcons, vnil, vptr}
use Rattle.lhm_ring.proofs.Names.{vstruct, whole, without_body, word, word-Good, yes, ‵, ℕ, ◌$◌, ◌++◌, ◌+◌, ◌∷◌, ◌≡◌, ◌⊛◌}
use Rattle.lhm_ring.proofs.memory.ContentTaken.{CutBody, CutBody-some, Run, bodies_cut, bodies_glue, firsts-same}
use Rattle.lhm_ring.proofs.memory.NodeFields.{Pl, RK, RL, RV, Three, args, forgotten, ko, three_rows, two_made, value_known, vo}
use Rattle.lhm_ring.proofs.memory.Steps.{gone, kept, known, lives, runs_at, self_left, unblocks, unblocks_more, walks, with_facts, ◌&◌}
use Rattle.lhm_ring.proofs.{content_loan.ContentLoan.take.Statement.statement, memory.NodeFields.word-pointer}
use Rattle.lhm_ring.proofs.Names.{addr, and_then, fld, load, look, no_more, of_opd, returns, stop, Body as Borrowed, SemTy}
use Rattle.lhm_ring.specs.contracts.content_loan.ContentLoan.take.{clauses, ended, Key.name as #self}
use Rattle.lhm_ring.specs.contracts.content_loan.ContentLoan as S-type
use Rattle.lhm_ring.proofs.content_loan.ContentLoan.take.Code as code

pub take_spec : {M : Type 1} → statement M
take_spec 𝓤 𝓛 𝓜 𝓡 wired L K V LL LK LV =
    let H = 𝓛.H in let 𝓣 = tables 𝓤 H 𝓜 𝓡 𝓡.env in let E : Three = three_rows LL LK LV in let R = RL E in let S = RK E in let W = RV E in
    let En = ended L K V in let c = clauses L K V 𝓛 𝓜.mem 𝓡.returns in let fn = inst_fn (args E) code.function in
    walks 𝓛 En c 𝓡 (kept 𝓛 5 tt (λ κs. S-type.the_row (named_lft 5 1 tt κs) R S W) & gone 𝓛 5 Pl yes (λ κs x f. refl) & tt)
    (#self (args E)) fn (code.unfolded 𝓤 H 𝓜 𝓡 wired (L, (K, (V, tt)))) (λ κs qs _ a vss _ are Post leave.
    let rb : ℕ = a.0.ref_ptr.0 in let ro : ℕ = a.0.ref_ptr.1 in
    let d : ContentLoan L.Denot K.Denot V.Denot = a.0.now in let p : Ptr = a.1.0.ptr in
    let It : RattleType = S-type.the_row (named_lft 5 1 tt κs) R S W in let κ : Lft = κs.1.0 in let q = qs.1.0 in
    known 𝓛 (lives 4 κs qs) (owns (types_at En.signature.params κs) a vss) (_ ∷ _ ∷ _ ∷ HasBody d.run p ∷ []) (λ req.
    let asked = req.1.1.1.0 in fsplit ! $ fsplit3 ! $ keep ! (1 ∷ 2 ∷ 4 ∷ 5 ∷ []) $
    runs_at ! fn (vptr rb ro ∷ word p ∷ []) (λ i. are.0.0 i ++ (word-pointer a.1.0 vss.1.0 are.1.0 i ++ [])) $
    alloc_all ! (λ l. pass_all ! refl ((tt, tt), (word-Good [] p, tt)) $
    let x = asked.0 in let k : CutBody d.run p x = CutBody-some d.run p x asked.1 in let xs = k.split.before in let ys = k.split.after in
    let all : List (Ptr × Option (K.Denot × V.Denot)) = xs ++ (p, Some x) ∷ ys in
    let left : List (Ptr × Option (K.Denot × V.Denot)) = xs ++ (p, None) ∷ ys in
    let same : firsts left ≡ firsts all = firsts-same xs p None (Some x) ys in let Bs : SemTy = Bodies R S W (firsts all) in
    move ! (3 ∷ []) $ fsplit ! $ move ! (2 ∷ 3 ∷ 4 ∷ []) $
    -- [self's name; its borrow; its token; the loan's token; the other tokens]
    opens ! tt It {h = d} rb ro (λ vs. move ! (1 ∷ []) $ fsplit ! $ move ! (1 ∷ 6 ∷ []) $
    rewrite ! 0 (λ (cs : List (Ptr × Option (K.Denot × V.Denot))). ‵ (borrows_bodies R S W κ d.name cs)) k.split.is refl $ fsplit ! $
    open_ref ! tt Bs {x = seconds all} {b = 0} {o = 0} $
    use1 𝓛 (‵ (body_owns R S W p (Some x)) ⊛ ‵ (Run E 𝓛 (xs ++ ys))) (bodies_cut E 𝓛 xs p (Some x) ys) $ split ! $ fsplit ! $
    in_a_block ! p (λ q. lies_at S full_share (key_address R S W q) x.0) (id⊢ 𝓤 (never 𝓤)) (λ pb po e.
    move ! (1 ∷ []) $ rewrite ! 0 (λ (q : Ptr). ‵ (lies_at W full_share (value_address R S W q) x.1)) e refl $ move ! (1 ∷ []) $
    value_known 1 K LK x.0 pb (po + ko E) ! (λ u good. move ! (2 ∷ []) $
    value_known 2 V LV x.1 pb (po + vo E) ! (λ w fine.
    -- [the value's cell; what it owns; the key's cell; what it owns; the other bodies; their open
    -- borrow, in three; the marker; its cell; the open borrow, in three; the other tokens]
    sets ! (is ! (of_opd ! (get_in ! (fld ! refl (stop !)) (sub ! 0 refl (whole !)))) (ap ptr_val e)) refl (tt, tt) $
    unblocks_more ! $ sets ! (addr ! (through ! refl (fld ! refl (stop !)))) refl (tt, tt) $
    unblocks ! $ sets ! (of_opd ! (load ! (through ! refl (stop !)) (look ! 2 refl))) refl good $
    sets ! (of_opd ! (get ! refl)) refl good $
    unblocks_more ! $ sets ! (addr ! (through ! refl (fld ! refl (stop !)))) refl (tt, tt) $
    unblocks ! $ sets ! (of_opd ! (load ! (through ! refl (stop !)) (look ! 0 refl))) refl fine $
    sets ! (of_opd ! (get ! refl)) refl fine $
    let r : Val = vstruct (vcons u (vcons w vnil)) in
    sets ! (of_opd ! (get ! refl)) refl good $ sets ! (of_opd ! (get ! refl)) refl fine $
    sets ! (agg ! (and_then ! (get ! refl) (and_then ! (get ! refl) (no_more !)))) refl
    (as_fields (layout K ∷ layout V ∷ []) (u ∷ w ∷ []) (good, (fine, tt))) $
    forgotten ! (layout V) pb (po + vo E) w $ move ! (2 ∷ []) $
    forgotten ! (layout K) pb (po + ko E) u $ fjoin ! $
    -- [the memory of both; what the value owns; what the key owns; the other bodies; their open
    -- borrow, in three; the marker; ..]
    rewrite ! 0 (λ (q : Ptr). ‵ (body_owns R S W q None)) (sym e) refl $ move ! (0 ∷ 3 ∷ []) $
    use2 𝓛 (‵ (Run E 𝓛 left)) (bodies_glue E 𝓛 xs p None ys) $
    rewrite ! 0 (λ (ps : List Ptr). ‵ (bodies R S W ps (seconds left))) same refl $ move ! (0 ∷ 3 ∷ 4 ∷ 5 ∷ []) $
    close_ref ! tt Bs (seconds left) {b = 0} {o = 0} $
    -- [the bodies' name; their borrow; the loan's token; what the value owns; what the key owns;
    -- the marker; its cell; the open borrow, in three; the other tokens]
    rewrite ! 1 (λ (ps : List Ptr). ‵ (fbor κ (Borrowed (Bodies R S W ps) 0 0 d.name))) (sym same) refl $ fjoin ! $
    rewrite ! 0 (λ (cs : List (Ptr × Option (K.Denot × V.Denot))). ‵ (borrows_bodies R S W κ d.name cs)) (sym k.taken) refl $
    let new : ContentLoan L.Denot K.Denot V.Denot = record d { run = without_body p d.run } in
    move ! (4 ∷ 0 ∷ []) $ fjoin ! $ move ! (4 ∷ 0 ∷ 5 ∷ 6 ∷ 7 ∷ []) $ closes ! tt It new vs rb ro $
    -- [self's name; its borrow; its token; the loan's token; what the value owns; what the key
    -- owns; the other tokens]
    self_left ! 1 are.0.0 $
    -- [self and the pointer; its token; the loan's token; the value's; the key's; the other tokens]
    move ! (2 ∷ 5 ∷ []) $ join ! $ move ! (2 ∷ 0 ∷ []) $ join ! $
    -- [the tokens; self and the pointer; the value's; the key's]
    move ! (3 ∷ 2 ∷ []) $ two_made ! S W x.0 x.1 u w $
    returns ! (look_at ! 0 refl) $ free_all ! refl $ keep ! (1 ∷ 2 ∷ 0 ∷ []) $
    by ! (with_facts 𝓛 (_ ∷ _ ∷ []) (leave r x (new, (tt, tt))) (id⊢ 𝓤 _) (asked.1, (refl, tt))))))))))
