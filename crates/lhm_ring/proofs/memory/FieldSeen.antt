-- One proof for each function that shows a field of a node through a `&`. Assumes `Logic`.
--     links_lent, key_lent, value_lent      what a lent node lends of each field
--     Field      a field of the nodes, and what the function that shows it asks and tells
--     Seen, field_seen      what is found at the pointer passed, and that a function of this code
--     then meets its contract
use Rattle.lhm_ring.proofs.Names.{ !, Args, Bor, Callee, Clauses, Closed, Ended, Fn, Lft, List, Logic, MachineTables, Model, Option, Ptr}
use Rattle.lhm_ring.proofs.Names.{RattleType, RefOf, Running, SProp, Some, Sym, Ty, Ura, Val, WpFn, [], addr, addr_of, alloc_all, ap}
use Rattle.lhm_ring.proofs.Names.{assign, block, body_lent, by, cell_lent, cells_lent, closing, copy, deref, drop, ent, enter, erased}
use Rattle.lhm_ring.proofs.Names.{fact, feq_i, field, field_of, fjoin, fld, free_all, fsplit, fst∗, get, get_in, hide, id⊢, imm, ◌≡◌, ◌⊑◌}
use Rattle.lhm_ring.proofs.Names.{in_a_block, inst_fn, is, join, keep, lent_at, lft_at, local, look_at, move, named, never, of_opd, owns}
use Rattle.lhm_ring.proofs.Names.{param, pass_all, place, plain, ptr_val, refl, return, returns, rewrite, rv_opd, sem, sep, seq, sets}
use Rattle.lhm_ring.proofs.Names.{shared_of, snd∗, stop, sub, subst, suffices, sym, tables, through, ty_ptr, ty_ref, types_at, unhide}
use Rattle.lhm_ring.proofs.Names.{use1, value_local, via, vptr, whole, word, word-Good, word_ty, yes, ‵, ℕ, ◌$◌, ◌++◌, ◌+ₚ◌, ◌+◌, ◌∙◌, ◌∷◌}
use Rattle.lhm_ring.proofs.memory.NodeFields.{Node, Nr, Pl, RK, RL, RV, Three, args, ko, lo, vo, word-pointer}
use Rattle.lhm_ring.proofs.memory.Steps.{all_spent, dropped, gone, known, lives, unblocks, walks, with_facts, ◌&◌}
use Rattle.lhm_ring.proofs.{memory.NodeTaken.cell_seen, rings.Lookup.Cut}
use denote.Triple.Spec.{Meets}
use mathlib.Core.Option.{some}
use Rattle.lhm_ring.specs.contracts.nodes.Nodes.key as key

-- the code, with the field k of the node at the pointer
abbrev with_code : Fn → Ty → Ty → Sym → Ty → ℕ → Fn
with_code fn ρ σ ν δ k = record fn {
  locals = local (ty_ref (named 0) imm ρ) value_local ∷ local (ty_ref (named 0) imm σ) value_local ∷ local (word_ty ν) value_local
      ∷ local ty_ptr value_local ∷ local (ty_ref erased imm ρ) value_local ∷ [];
  body =
      seq (assign (place 3 []) (rv_opd (copy (place 2 (field 0 ∷ [])))))
      (seq (block (assign (place 4 []) (addr_of (place 3 (deref δ ∷ field k ∷ [])))))
      (seq (assign (place 0 []) (rv_opd (copy (place 4 [])))) return));
}

module _ {M : Type 1} {𝓤 : Ura M} (𝓛 : Logic 𝓤) (E : Three) (κ : Lft) (c : Node E) where
  abbrev Lent : SProp 𝓤
  Lent = sem 𝓛 (cell_lent (RL E) (RK E) (RV E) c κ)

  abbrev Both : Option (E.key.Denot × E.value.Denot) → SProp 𝓤
  Both x = sem 𝓛 (body_lent (RL E) (RK E) (RV E) c.at x κ)

  abbrev At : (R : RattleType) → ℕ → R.Denot → SProp 𝓤
  At R off x = sem 𝓛 (lent_at R (c.at +ₚ off) x κ)

  pub links_lent : ent 𝓤 Lent (At (RL E) (lo E) c.links)
  links_lent = fst∗ 𝓤 (At (RL E) (lo E) c.links) (Both c.body)

  module _ (x : E.key.Denot × E.value.Denot) (e : c.body ≡ Some x) where
    both_lent : ent 𝓤 Lent (Both (Some x))
    both_lent = subst (λ z. ent 𝓤 Lent (Both z)) e (snd∗ 𝓤 (At (RL E) (lo E) c.links) (Both c.body))

    pub key_lent : ent 𝓤 Lent (At (RK E) (ko E) x.0)
    key_lent = via 𝓤 _ both_lent (fst∗ 𝓤 (At (RK E) (ko E) x.0) (At (RV E) (vo E) x.1))

    pub value_lent : ent 𝓤 Lent (At (RV E) (vo E) x.1)
    value_lent = via 𝓤 _ both_lent (snd∗ 𝓤 (At (RK E) (ko E) x.0) (At (RV E) (vo E) x.1))

pub record Field (E : Three) : Type 2 where
  pub index : ℕ  -- of the type among the parameters
  pub type : RattleType
  pub offset : ℕ  -- within a node
  pub Asked : List (Node E) → Ptr → Type 0
  pub Told : type.Denot → List (Node E) → Ptr → Type 0

module _ {E : Three} (A : Field E) {M : Type 1} {𝓤 : Ura M} (𝓛 : Logic 𝓤) {𝓜 : Model 𝓤 𝓛.H} (𝓡 : Running 𝓤 𝓛.H 𝓜) where
  abbrev F : RattleType
  F = param A.index A.type

  abbrev 𝓣 : MachineTables 𝓤 𝓛.H 𝓜
  𝓣 = tables 𝓤 𝓛.H 𝓜 𝓡 𝓡.env

  abbrev ended : Ended
  ended = record (key.ended E.links E.key E.value) {
    signature = record (key.signature E.links E.key E.value) { result = RefOf (0 ∷ []) tt (plain (λ _. F)) (λ _. tt) };
  }

  abbrev clauses : Clauses 𝓤 ended
  clauses κs a = record {
    ghost = Unit {0};
    requires = λ _. sep 𝓤 (fact 𝓤 (lft_at 4 1 tt κs ⊑ E.links.lives))
        (sep 𝓤 (fact 𝓤 (lft_at 4 2 tt κs ⊑ E.key.lives))
        (sep 𝓤 (fact 𝓤 (lft_at 4 3 tt κs ⊑ E.value.lives))
        (fact 𝓤 (A.Asked a.0.now.cells a.1.0.ptr))));
    ensures = λ _ r _. fact 𝓤 (A.Told r.now a.0.now.cells a.1.0.ptr);
  }

  pub record Seen (cs : List (Node E)) (p : Ptr) : Type 1 where
    pub value : A.type.Denot
    pub told : A.Told value cs p
    pub cut : Cut cs p
    pub lent : (κ : Lft) → ent 𝓤 (sem 𝓛 (cell_lent (RL E) (RK E) (RV E) cut.split.node κ))
        (sem 𝓛 (lent_at F (cut.split.node.at +ₚ A.offset) value κ))

  pub field_seen : (f : Args → Callee) (fn : Fn) → Closed 𝓤 𝓛.H 𝓣.C 𝓣.Λ (f (args E)) (inst_fn (args E) fn)
      → {ρ σ : Ty} {ν : Sym} {δ τ : Ty} {k : ℕ} → inst_fn (args E) fn ≡ with_code
      (inst_fn (args E) fn) ρ σ ν δ k → field_of δ k ≡ some (τ, A.offset)
      → ((cs : List (Node E)) (p : Ptr) → A.Asked cs p → Seen cs p) → Meets 𝓛 ended.signature (𝓣.C (f (args E))) (closing 𝓛 ended clauses)
  field_seen f fn closed {ρ} {σ} {ν} {δ} {τ} {k} code lies seen =
      let H = 𝓛.H in let N = Nr E in let R = RL E in let S = RK E in let W = RV E in
      let Self = RefOf (0 ∷ []) tt (plain (λ _. N)) (λ _. tt) in
      walks 𝓛 ended clauses 𝓡 (dropped 𝓛 4 Self yes (λ κs x f. refl) & gone 𝓛 4 Pl yes (λ κs x f. refl) & tt) (f (args E))
      (inst_fn (args E) fn) closed (λ κs qs _ a vss _ are Post leave.
      let κ : Lft = κs.0 in let rb : ℕ = a.0.ref_ptr.0 in let ro : ℕ = a.0.ref_ptr.1 in let h : N.Denot = a.0.now in
      let p : Ptr = a.1.0.ptr in
      known 𝓛 (lives 3 κs qs) (owns (types_at ended.signature.params κs) a vss) (_ ∷ _ ∷ _ ∷ A.Asked h.cells p ∷ []) (λ req.
      fsplit ! $ fsplit ! $ keep ! (1 ∷ 3 ∷ 4 ∷ []) $
      let us : List Val = vptr rb ro ∷ word p ∷ [] in let fn' : Fn = with_code (inst_fn (args E) fn)
      ρ σ ν δ k in let Run : Fn → List Val → SProp 𝓤 = λ e ws. WpFn 𝓤 H 𝓣.C 𝓣.Λ e ws Post in
      suffices ! (Run fn' us) (subst (λ (P : SProp 𝓤). ent 𝓤 (Run fn' us) P)
      (sym (λ j. Run (code j) (are.0.0 j ++ (word-pointer a.1.0 vss.1.0 are.1.0 j ++ []))))
      (id⊢ 𝓤 (Run fn' us))) $
      enter ! 𝓣.C 𝓣.Λ fn' us Post $ alloc_all ! (λ l. pass_all ! refl ((tt, tt), (word-Good ν p, tt)) $
      let s = seen h.cells p req.1.1.1.0 in let x = s.value in let c : Node E = s.cut.split.node in
      unhide ! $ fsplit ! $ drop ! $ rewrite ! 0 (λ (cs : List (Node E)). ‵ (cells_lent R S W cs κ)) s.cut.split.is refl $
      use1 𝓛 (‵ (lent_at F (c.at +ₚ A.offset) x κ)) (via 𝓤 (sem 𝓛 (cell_lent R S W c κ))
      (cell_seen 𝓛 E κ s.cut.split.before c s.cut.split.after) (s.lent κ)) $
      in_a_block ! c.at (λ q. lent_at F (q +ₚ A.offset) x κ)
      (fst∗ 𝓤 (never 𝓤) (sem 𝓛 (shared_of F x 0 0 κ))) (λ pb po e. fsplit ! $ drop ! $ hide ! $
      let r : Val = vptr pb (po + A.offset) in let out : Bor A.type.Denot = record { ref_ptr = (pb, po + A.offset); now = x } in
      sets ! (is ! (of_opd ! (get_in ! (fld ! refl (stop !)) (sub ! 0 refl (whole !))))
      (ap ptr_val (sym s.cut.split.at_is ∙ e))) refl (tt, tt) $
      unblocks ! $ sets ! (addr ! (through ! refl (fld ! lies (stop !)))) refl (tt, tt) $ sets ! (of_opd ! (get ! refl)) refl (tt, tt) $
      feq_i ! (List Val) (r ∷ []) (r ∷ []) refl $ fjoin ! $ move ! (1 ∷ 2 ∷ []) $ join ! $
      all_spent ! 2 $
      returns ! (look_at ! 0 refl) $ free_all ! refl $ keep ! (1 ∷ 0 ∷ 2 ∷ []) $
      by ! (with_facts 𝓛 (_ ∷ []) (leave r out (tt, (tt, tt))) (id⊢ 𝓤 _) (s.told, tt))))))
