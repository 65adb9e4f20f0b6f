-- A function that hands on what a table's own `iter_mut` returns, by a function `of`, as an
-- iterator of another type. By hand, since the borrow checker proves a loan handed on only if the
-- result is handed on as it is.
use Rattle.linked_hash_map.proofs.Names.{[], refl, subst, sym, ◌∷◌, ◌≡◌, List, map, GName, pairs_of, mut_ref_to, mut_Tells, mut_vals}
use Rattle.linked_hash_map.proofs.Names.{named_lft, param, plain, RattleType, heard, nothing, peeks, proved, calls_at, Ended, Lasts}
use Rattle.linked_hash_map.proofs.Names.{lasts, framed, triple_of, Goes-spent_ref, ends_at, stay_dropped, fact, fact_i, id⊢, ‵, sep}
use Rattle.linked_hash_map.proofs.Names.{layouts, a_type, named, no, tables, alloc_all, free_all, get, lands_as, look_at, pass_all, sets}
use Rattle.linked_hash_map.proofs.Names.{through, !, await, by, frame, group, join, later, move, pick, qed, raw, rewrite, some, split, ◌⊑◌}
use Rattle.linked_hash_map.proofs.Names.{suffices, use0, use1, use2, ◌$◌, ◌∵◌, ◌⊛◌, addr, and_then, enter, no_more, returns, stop, Stays}
use Rattle.lhm_ring.{specs.TableAfterLoan.lends_values, proofs.iter_mut.TriplesMut.TheLaws.the_row_laws as nodes_laws}
use Rattle.lhm_ring.proofs.table.Table.iter_mut.{Met.met as iter_mut, Symbol.code as iter_mut-code}
use contract.{Lifetimes.Lfts, Monad.fact_use, Running.Running}
use denote.{Laws.Is, Laws.Typed, Laws.shows, Param.layout, Param.Laws.Laws, Param.Laws.param_laws}
use denote.Triple.{Clauses.Clauses, Clauses.closing, Entry.alive, Less.less, Less.with_fact_of, Spec.Meets}
use mir.Syntax.{Callee, Fn, Ty, addr_of, assign, call, copy, deref, erased, local, mut, place, return, seq, ty_ref, value_local}
use mir.Val.{Val}
use prog.{Model.Model, Wired.Wired, Wp.Closed}
use seplogic.Ra.Ura.{Ura}
use types.{Logic.Logic, Logic.sem, Kit.drop}
use mathlib.Core.Option as maybe
use Rattle.lhm_ring.specs.Iter as table
use Rattle.lhm_ring.specs.contracts.iter_mut.TriplesMut as Nodes-type
use Rattle.lhm_ring.specs.contracts.table.Table as Table-type
use Rattle.lhm_ring.specs.contracts.table.Table.iter_mut as g
use Rattle.linked_hash_map.specs.contracts.iter.iter_mut.IterMut.of as h

-- the iterator's type, the name of its loan, and what it has left by the pairs that the table's own
-- has left
module _ {M : Type 1} (𝓤 : Ura M) (𝓛 : Logic 𝓤) (𝓜 : Model 𝓤 𝓛.H) (𝓡 : Running 𝓤 𝓛.H 𝓜) (K V : RattleType) (LK : Laws K)
    (LV : Laws V) (Out : Lfts 3 → RattleType) (loan : (κs : Lfts 3) → (Out κs).Denot → maybe.Option GName)
    (Left : (κs : Lfts 3) → (Out κs).Denot → List (K.Denot × V.Denot) → Type 0) where
  -- the contract of `of`, and that of the function
  abbrev of_ended : Ended
  of_ended = record { signature = record (h.signature K V) { result = plain Out }; kept = (no, tt) }

  abbrev of_clauses : Clauses 𝓤 of_ended
  of_clauses κs a = record {
    ghost = Unit {0};
    requires = (h.clauses K V 𝓛 𝓜.mem 𝓡.returns κs a).requires;
    ensures = λ _ r _. sep 𝓤 (fact 𝓤 (Left κs r (table.pairs_left a.0))) (fact 𝓤 (loan κs r ≡ table.loan_name a.0));
  }

  abbrev ended : Ended
  ended = record { signature = record (g.signature K V) { result = plain Out }; kept = (no, tt) }

  abbrev clauses : Clauses 𝓤 ended
  clauses κs a = let lends = lends_values (param 0 K) (param 1 V) a.0 in record {
    ghost = Unit {0};
    requires = (g.clauses K V 𝓛 𝓜.mem 𝓡.returns κs a).requires;
    ensures = λ _ r _. sep 𝓤 (sem 𝓛 (lends (loan κs r))) (fact 𝓤 (Left κs r (pairs_of a.0.now.held)));
  }

  -- its code, by the MIR types of the iterator, and of the table, behind a reference and not
  abbrev function : Ty → Ty → Ty → Callee → Fn
  function o p d of = let n = layout (Nodes-type.the_row (record { mir = erased; lft = [] }) (param 0 K) (param 1 V)) in
      let iter_mut = g.Key.name (layouts (a_type ∷ a_type ∷ []) (K, (V, tt))) in record {
        lifetimes = 1;
        outlives = (1, 0) ∷ (2, 0) ∷ [];
        ty_params = [];
        givens = 0;
        params = 1;
        locals = map (λ τ. local τ value_local) (o ∷ ty_ref (named 0) mut p ∷ n ∷ ty_ref erased mut p ∷ []);
        body = seq (assign (place 3 []) (addr_of (place 1 (deref d ∷ [])))) (seq (call iter_mut (copy (place 3 []) ∷ []) (place 2 []))
            (seq (call of (copy (place 2 []) ∷ []) (place 0 [])) return));
      }

  -- the function meets its contract if `of` does
  pub hands_on : (o p d : Ty) {of self : Callee} → let 𝓣 = tables 𝓤 𝓛.H 𝓜 𝓡 𝓡.env in
      ((κs : Lfts 3) (r : (Out κs).Denot) (vs : List Val) → Is (Out κs) r vs → Typed (o ∷ []) vs)
      → Wired 𝓡.env iter_mut-code → Meets 𝓛 of_ended.signature (𝓣.C of) (closing 𝓛 of_ended of_clauses)
      → Closed 𝓤 𝓛.H 𝓣.C 𝓣.Λ self (function o p d of) → Meets 𝓛 ended.signature (𝓣.C self) (closing 𝓛 ended clauses)
  hands_on o p d {of} {self} typed wired met closed =
      let S : RattleType = param 0 K in let W : RattleType = param 1 V in let Tb : RattleType = Table-type.the_row S W in
      let hs : Stays ended.signature.params ended.kept = (stay_dropped (mut_ref_to (0 ∷ []) tt (plain (λ _. Tb))) no, tt) in
      proved 𝓛 ended hs clauses 𝓜 𝓡 (Goes-spent_ref 𝓛 3 (0 ∷ []) tt (plain (λ _. Tb)), tt) self (function o p d of) closed
      (λ κs. (mut_vals, tt)) (λ κs. (mut_Tells (named 0) κs.0 Tb, tt)) (λ κs qs bounds a _ are.
      let calls = framed 𝓤 𝓛.H 𝓜 (tables 𝓤 𝓛.H 𝓜 𝓡 𝓡.env) in let O = triple_of 𝓛 of_ended.signature (closing 𝓛 of_ended of_clauses) in
      let G = triple_of 𝓛 (g.signature K V) (g.spec K V 𝓛 𝓜.mem 𝓡.returns) in let R : RattleType = Out κs in
      let z : G.Ghost = ((κs, qs, bounds, a, (mut_vals a.0, tt)), tt) in
      let Nodes : RattleType = Nodes-type.the_row (named_lft 3 0 tt κs) S W in
      let tokens = raw (alive 𝓛 of_ended.signature κs qs) in let Follows = λ (n : maybe.Option GName). ‵ (lends_values S W a.0 n) in
      fact_use 𝓤 ((κs.1.0 ⊑ K.lives) × (κs.1.1.0 ⊑ V.lives)) (search (id⊢, less)) (λ lives.
      qed 𝓛 (raw (G.pre z) ∷ []) ∵ enter ! _ _ _ _ _ $ alloc_all ! (λ l. pass_all ! refl ((tt, tt), tt) $
      sets ! (addr ! (through ! refl (stop !))) refl (tt, tt) $
      calls_at ! calls G (iter_mut 𝓤 𝓛 𝓜 𝓡 wired K V LK LV) z (and_then ! (get ! refl) (no_more !)) (λ v.
      use1 𝓛 (later (some (λ (t : Nodes.Denot). (tokens ⊛ ‵ (Nodes.own_val t (v ∷ []))) ⊛ some (λ (ws : Lasts (g.ended K V) κs a).
      ‵ (lasts (g.ended K V) κs a ws) ⊛ Follows (table.loan_name t)
      ⊛ raw (fact 𝓤 (table.pairs_left t ≡ pairs_of a.0.now.held)))))) (id⊢ 𝓤 _) $
      await ! tt $ pick ! (λ t. split ! $ split ! $ move ! (2 ∷ []) $ pick ! (λ ws. split ! $ drop ! $ split ! $
      move ! (1 ∷ []) $ heard ! _ (λ same_pairs.
      -- [what follows; the tokens; the table's iterator]
      move ! (2 ∷ []) $ peeks ! Nodes (Is Nodes) (shows 𝓛 Nodes) t (v ∷ []) (λ is.
      lands_as ! refl refl (((nodes_laws (named_lft 3 0 tt κs) S W (param_laws 0 K LK) (param_laws 1 V LV)).lawful 𝓛).typed t _ is).0 $
      let u : O.Ghost = ((κs, qs, (bounds.1.0, (bounds.0, tt)), (t, tt), (v ∷ [], tt)), tt) in
      nothing ! $ move ! (1 ∷ 0 ∷ []) $ join ! $ move ! (2 ∷ 0 ∷ []) $ join ! $
      use0 𝓛 (raw ((of_clauses κs (t, tt)).requires tt)) (search (id⊢, with_fact_of, fact_i, lives.0, lives.1)) $
      move ! (1 ∷ 0 ∷ []) $ use2 𝓛 (raw (O.pre u)) (id⊢ 𝓤 _) $
      calls_at ! calls O met u (and_then ! (get ! refl) (no_more !)) (λ w.
      use1 𝓛 (later (some (λ (r : R.Denot). (tokens ⊛ ‵ (R.own_val r (w ∷ []))) ⊛ some (λ (ws : Lasts of_ended κs (t, tt)).
      ‵ (lasts of_ended κs (t, tt) ws) ⊛ raw (fact 𝓤 (Left κs r (table.pairs_left t)))
      ⊛ raw (fact 𝓤 (loan κs r ≡ table.loan_name t)))))) (id⊢ 𝓤 _) $
      await ! tt $ pick ! (λ r. split ! $ split ! $ move ! (2 ∷ []) $ pick ! (λ ws. split ! $ drop ! $ split ! $
      heard ! _ (λ left. heard ! _ (λ name.
      -- [the tokens; the result; what follows]
      move ! (1 ∷ []) $ peeks ! R (Is R) (shows 𝓛 R) r (w ∷ []) (λ it. lands_as ! refl refl (typed κs r (w ∷ []) it).0 $
      returns ! (look_at ! 0 refl) $ free_all ! refl $ suffices ! _ (ends_at 𝓛 ended hs clauses z w r (tt, tt) (tt, tt)) $
      -- [the result; the tokens; what follows]
      move ! (2 ∷ []) $ rewrite ! 0 Follows (sym name) refl $
      nothing ! $ nothing ! $ join ! $ move ! (3 ∷ 0 ∷ 2 ∷ 1 ∷ []) $ group ! 3 $ frame ! $ frame ! $
      by ! (fact_i 𝓤 _ _ (subst (Left κs r) same_pairs left))))))))))))))))
