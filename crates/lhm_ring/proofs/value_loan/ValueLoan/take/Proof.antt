-- `pull` cuts the value of one node out of those that are lent. Assumes `Logic`.
use Rattle.lhm_ring.proofs.Names.{ !, HasValueAt, Lft, List, MutBor, Ptr, RattleType, Spread, Val, ValueLoan, [], after₂, alloc_all, ap}
use Rattle.lhm_ring.proofs.Names.{await, block_ptr, borrowed, by, closes, coded_list, emp, fbor, feq_i, fjoin, fjoin3, flft, fobs, ◌⊛◌}
use Rattle.lhm_ring.proofs.Names.{free_all, fsplit, fsplit3, full_share, get, get_in, group, id⊢, in_a_block, inst_fn, is, join, keep}
use Rattle.lhm_ring.proofs.Names.{later, length, lies_at, look_at, map, mem, move, named_lft, never, nothing, opens, owns, pass_all, pick}
use Rattle.lhm_ring.proofs.Names.{ptr_val, refl, rewrite, sets, some, split, split3, spread, sym, tables, take, takes_two, through}
use Rattle.lhm_ring.proofs.Names.{types_at, use1, value_address, vptr, without_value, word, word-Good, yes, ‵, ℕ, ◌$◌, ◌++◌, ◌+◌, ◌∷◌, ◌≡◌}
use Rattle.lhm_ring.proofs.memory.NodeFields.{Nr, Pl, RK, RL, RV, Three, args, three_rows, vo, word-pointer}
use Rattle.lhm_ring.proofs.memory.Steps.{gone, kept, known, lives, runs_at, self_left, unblocks, walks, with_facts, ◌&◌}
use Rattle.lhm_ring.proofs.memory.ValueTaken.{CutValue, CutValue-some, run_cut, run_glue}
use Rattle.lhm_ring.proofs.value_loan.ValueLoan.take.Statement.{statement}
use Rattle.lhm_ring.proofs.Names.{open_ref, sub, whole, addr, fld, of_opd, returns, stop, Body as Borrowed}
use Rattle.lhm_ring.specs.contracts.value_loan.ValueLoan.take.{clauses, ended, Key.name as #self}
use lib.ListN.{drop as drop_l}
use Rattle.lhm_ring.specs.contracts.value_loan.ValueLoan as L-type
use Rattle.lhm_ring.proofs.value_loan.ValueLoan.take.Code as code

pub take_spec : {M : Type 1} → statement M
take_spec 𝓤 𝓛 𝓜 𝓡 wired L K V LL LK LV =
    let H = 𝓛.H in let 𝓣 = tables 𝓤 H 𝓜 𝓡 𝓡.env in let E : Three = three_rows LL LK LV in
    let N = Nr E in let R = RL E in let S = RK E in let W = RV E in
    let En = ended L K V in let c = clauses L K V 𝓛 𝓜.mem 𝓡.returns in let fn = inst_fn (args E) code.function in
    walks 𝓛 En c 𝓡 (kept 𝓛 5 tt (λ κs. L-type.the_row (named_lft 5 1 tt κs) R S W) & gone 𝓛 5 Pl yes (λ κs x f. refl) & tt)
    (#self (args E)) fn (code.unfolded 𝓤 H 𝓜 𝓡 wired (L, (K, (V, tt)))) (λ κs qs _ a vss _ are Post leave.
    let rb : ℕ = a.0.ref_ptr.0 in let ro : ℕ = a.0.ref_ptr.1 in
    let d : ValueLoan L.Denot K.Denot V.Denot = a.0.now in let p : Ptr = a.1.0.ptr in
    let It : RattleType = L-type.the_row (named_lft 5 1 tt κs) R S W in let κ : Lft = κs.1.0 in
    let q = qs.1.0 in let f : Ptr → Ptr = value_address R S W in
    known 𝓛 (lives 4 κs qs) (owns (types_at En.signature.params κs) a vss) (_ ∷ _ ∷ _ ∷ HasValueAt d.run p ∷ []) (λ req.
    let asked = req.1.1.1.0 in fsplit ! $ fsplit3 ! $ keep ! (1 ∷ 2 ∷ 4 ∷ 5 ∷ []) $
    runs_at ! fn (vptr rb ro ∷ word p ∷ []) (λ i. are.0.0 i ++ (word-pointer a.1.0 vss.1.0 are.1.0 i ++ [])) $
    alloc_all ! (λ l. pass_all ! refl ((tt, tt), (word-Good [] p, tt)) $
    let v : V.Denot = asked.0 in let k : CutValue d.run p v = CutValue-some d.run p v asked.1 in
    let xs = k.split.before in let ys = k.split.after in
    let all : List (Ptr × V.Denot) = xs ++ (p, v) ∷ ys in let ats : List (Ptr × V.Denot) → List Ptr = λ cs. map (λ c. f c.0) cs in
    let ofs : List (Ptr × V.Denot) → List V.Denot = λ cs. map (λ c. c.1) cs in
    move ! (3 ∷ []) $ fsplit ! $ move ! (2 ∷ 3 ∷ 4 ∷ []) $
    -- [self's name; its borrow; its token; the loan's token; the other tokens]
    opens ! tt It {h = d} rb ro (λ vs. move ! (1 ∷ []) $ fsplit ! $ move ! (1 ∷ 6 ∷ []) $
    rewrite ! 0 (λ (cs : List (Ptr × V.Denot)). ‵ (borrowed κ R S W d.name cs)) k.split.is refl $ fsplit ! $
    open_ref ! tt (Spread W (ats all)) {x = ofs all} {b = 0} {o = 0} $
    use1 𝓛 (‵ (lies_at W full_share (f p) v) ⊛ ‵ (spread W (ats (xs ++ ys)) (ofs (xs ++ ys)))) (run_cut 𝓛 W f p xs v ys) $ split ! $
    in_a_block ! p (λ q. lies_at W full_share (value_address R S W q) v) (id⊢ 𝓤 (never 𝓤)) (λ pb po e.
    let F : V.Denot → List V.Denot → List V.Denot = λ w ws. take (length xs) ws ++ w ∷ drop_l
    (length xs) ws in let at : f p ≡ block_ptr pb (po + vo E) = ap f e in
    -- [the value; the other values; their open borrow, in three; the marker; its cell; the open
    -- borrow, in three; the other tokens]
    nothing ! $ move ! (3 ∷ 4 ∷ 5 ∷ 1 ∷ 2 ∷ 0 ∷ []) $ group ! 6 $
    use1 𝓛 (later (some (λ (γs : ℕ × ℕ). (‵ (fobs γs.0 (W.coded.code v)) ⊛ ‵
    (fbor κ (Borrowed (mem W) pb (po + vo E) γs.0))) ⊛
    (‵ (fobs γs.1 ((coded_list W.coded).code (ofs (xs ++ ys)))) ⊛ ‵
    (fbor κ (Borrowed (Spread W (ats (xs ++ ys))) 0 0 γs.1)))
    ⊛ ‵ (flft κ q) ⊛ ‵ (after₂ (Spread W (ats all)) (mem W) (Spread W (ats (xs ++ ys))) d.name γs.0 γs.1 F))))
    (takes_two 𝓛 (Spread W (ats all)) (mem W) (Spread W (ats (xs ++ ys))) F κ q 0 0 pb (po + vo E) 0
    0 d.name (emp 𝓤) (run_glue 𝓛 W f p at xs v ys)
    ((coded_list W.coded).code (ofs all)) ((coded_list W.coded).code (ofs all)) v (ofs (xs ++ ys)))
    $ await ! tt $ pick ! (λ γs. split3 ! $
    let r : Val = vptr pb (po + vo E) in let out : MutBor V.Denot = record { ref_ptr = (pb, po + vo E); ghost_name = γs.0; now = v } in
    let new : ValueLoan L.Denot K.Denot V.Denot = record d { name = γs.1; run = without_value p d.run } in
    split ! $ feq_i ! (List Val) (r ∷ []) (r ∷ []) refl $ fjoin3 ! $ move ! (1 ∷ []) $ split ! $ fjoin ! $ move ! (2 ∷ []) $ split ! $
    -- [the loan's token; the two names'; the other values; the value; the marker; its cell; the
    -- open borrow, in three; the other tokens]
    rewrite ! 2 (λ (cs : List (Ptr × V.Denot)). ‵ (borrowed κ R S W γs.1 cs)) (sym k.taken) refl $
    move ! (4 ∷ 2 ∷ []) $ fjoin ! $ move ! (4 ∷ 0 ∷ 5 ∷ 6 ∷ 7 ∷ []) $ closes ! tt It new vs rb ro $
    -- [self's name; its borrow; its token; the loan's token; the two names'; the value; the other
    -- tokens]
    sets ! (is ! (of_opd ! (get_in ! (fld ! refl (stop !)) (sub ! 0 refl (whole !)))) (ap ptr_val e)) refl (tt, tt) $
    unblocks ! $ sets ! (addr ! (through ! refl (fld ! refl (stop !)))) refl (tt, tt) $
    sets ! (of_opd ! (get ! refl)) refl (tt, tt) $
    self_left ! 1 are.0.0 $
    -- [self and the pointer; its token; the loan's token; the two names'; the value; the other
    -- tokens]
    move ! (2 ∷ 5 ∷ []) $ join ! $ move ! (2 ∷ 0 ∷ []) $ join ! $
    returns ! (look_at ! 0 refl) $ free_all ! refl $ keep ! (0 ∷ 1 ∷ 3 ∷ []) $
    by ! (with_facts 𝓛 (_ ∷ _ ∷ _ ∷ []) (leave r out (new, (tt, tt))) (id⊢ 𝓤 _) (asked.1, (refl, (refl, tt))))))))))
