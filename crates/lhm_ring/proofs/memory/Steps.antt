-- The names that the proofs by hand share, and the steps that walks repeat. Assumes `Logic`.
--     walks      a function meets its contract by a walk, which has a `Parting` of each parameter at its end
--     known, with_facts      what is required is known where a walk begins, and what is ensured is told where it ends
--     runs_with, runs_at      a function runs at its machine values, written out
--     unblocks, unblocks_more, unblocks_call      the statements of a block, as if they stood without it
--     states, states_also      a fact is put into the context, alone or beside its head
--     knows      a fact that two entries show is learned
--     all_spent, self_left      what is left of the parameters, where those behind `self` are gone
use Rattle.lhm_ring.proofs.Names.{ !, Callee, Calls, Clauses, Closed, Denots, Ended, Fml, Fn, Goal, Goes-blank, Goes-dropped, Goes-ref}
use Rattle.lhm_ring.proofs.Names.{Item, Lasts, Lfts, List, Logic, Loops, MachineTables, Model, RattleType, Running, SProp, Seq, Shares}
use Rattle.lhm_ring.proofs.Names.{Stays, Step, T, Ura, Val, Valss, WpFn, [], alive, allocs, assign, at_ret, block, by, closing, comm∗}
use Rattle.lhm_ring.proofs.Names.{done, emp, ent, enter, fact, fact_i, fact_use, feq, feq_i, fjoin, fjoin3, flft, fsep, fst∗, ftrue, id⊢}
use Rattle.lhm_ring.proofs.Names.{join, keep, leaves, left, mean, move, mut_ref_to, nothing, params', plain, prop, proved_at, qed, raw}
use Rattle.lhm_ring.proofs.Names.{runs, sem, sep, seq, snd∗, stay_dropped, stay_ref, step, subst, suc, sym, tables, types_at, use0, use2}
use Rattle.lhm_ring.proofs.Names.{via, walk_of, yes, zero, ‵, ℕ, ◌$◌, ◌∵◌, ◌∷◌, ◌≡◌, ◌⊛◌}
use base.Logic.{mono_r}
use contract.Lifetimes.{AllOutlive}
use denote.Exit.{Kept, Last}
use denote.Laws.{Are, Ises}
use denote.Param.Mute.{blank}
use denote.RattleType.{flat}
use denote.Signature.{AllWithin, Signature, Slot, type_at}
use denote.Triple.Walked.{AllGo, Goes, Silent, Stay, fits_of, has_of, needs}
use denote.Triple.{Clauses.at_exit, End.Fins, End.Kepts, Entry.on_entry, Spec.Meets}
use mir.Syntax.{Body, Opd, Place, Rv, call}
use prog.Wp.{Env}
use types.Kit.{Post, Sq, push, ⋆}

-- the tokens of n lifetimes, and what is left of n parameters that are gone
abbrev pub tokens : (n : ℕ) → Lfts n → Shares n → Fml
tokens zero κs qs = ftrue
tokens (suc n) κs qs = fsep (flft κs.0 qs.0) (tokens n κs.1 qs.1)

abbrev pub spent : ℕ → Fml
spent zero = ftrue
spent (suc n) = fsep ftrue (spent n)

spent_made : {M : Type 1} {𝓤 : Ura M} (𝓛 : Logic 𝓤) (n : ℕ) → ent 𝓤 (emp 𝓤) (sem 𝓛 (spent n))
spent_made {𝓤 = 𝓤} 𝓛 zero = id⊢ 𝓤 (emp 𝓤)
spent_made 𝓛 (suc n) = qed 𝓛 [] ∵ use0 𝓛 (‵ (spent n)) (spent_made 𝓛 n) $ nothing ! $ fjoin ! $ done !

infixr 5 ◌&◌
abbrev pub ◌&◌ : {A B : Type 1} → A → B → A × B
a & b = (a, b)

module _ {M : Type 1} {𝓤 : Ura M} (𝓛 : Logic 𝓤) (n : ℕ) where
  -- what a walk has of a parameter at its end, with the law that it owes
  pub record Parting (s : Slot n) (k : Kept) : Type 1 where
    pub stay : Stay s k
    pub goes : Goes 𝓛 n s k stay
    pub fits : (κs : Lfts n) (x : (s.row κs).Denot) (w : Last ((s.row κs).exit k) x) → stay.fit κs x w

  abbrev pub kept : (ok : AllWithin n (0 ∷ [])) (F : Lfts n → RattleType) → Parting (mut_ref_to (0 ∷ []) ok (plain F)) yes
  kept ok F = record { stay = stay_ref (0 ∷ []) ok (plain F); goes = Goes-ref 𝓛 n 0 ok (plain F); fits = λ κs x w. tt }

  abbrev pub dropped : (s : Slot n) (k : Kept) → Silent 𝓛 n s k → Parting s k
  dropped s k h = record { stay = stay_dropped s k; goes = Goes-dropped 𝓛 n s k h; fits = λ κs x w. tt }

  abbrev pub gone : (R : RattleType) (k : Kept) → Silent 𝓛 n (plain (λ _. R)) k → Parting (plain (λ _. R)) k
  gone R = dropped (plain (λ _. R))

  -- an owner that is used up
  abbrev pub used : (R : RattleType) (k : Kept) → ((κs : Lfts n) (x : R.Denot) (f : Last (R.exit k) x) → T (blank (left (R.exit k) x f)))
      → Parting (plain (λ _. R)) k
  used R k h = record { stay = stay_dropped (plain (λ _. R)) k; goes = Goes-blank 𝓛 n (plain (λ _. R)) k h; fits = λ κs x w. tt }

  abbrev pub Partings : (ss : List (Slot n)) → Kepts ss → Type 1
  Partings [] ks = Unit {1}
  Partings (s ∷ ss) ks = Parting s ks.0 × Partings ss ks.1

  abbrev pub stays : (ss : List (Slot n)) (ks : Kepts ss) → Partings ss ks → Stays ss ks
  stays [] ks ps = tt
  stays (s ∷ ss) ks ps = (ps.0.stay, stays ss ks.1 ps.1)

  all_go : (ss : List (Slot n)) (ks : Kepts ss) (ps : Partings ss ks) → AllGo 𝓛 n ss ks (stays ss ks ps)
  all_go [] ks ps = tt
  all_go (s ∷ ss) ks ps = (ps.0.goes, all_go ss ks.1 ps.1)

  all_fit : (κs : Lfts n) (ss : List (Slot n)) (ks : Kepts ss) (ps : Partings ss ks) (a : Denots (types_at ss κs)) (ws : Fins κs ss ks a)
      → fits_of κs ss ks (stays ss ks ps) a ws
  all_fit κs [] ks ps a ws = tt
  all_fit κs (s ∷ ss) ks ps a ws = (ps.0.fits κs a.0 ws.0, all_fit κs ss ks.1 ps.1 a.1 ws.1)

abbrev pub Facts : List (Type 0) → Type 0
Facts [] = Unit {0}
Facts (φ ∷ φs) = φ × Facts φs

module _ {M : Type 1} {𝓤 : Ura M} (𝓛 : Logic 𝓤) where
  abbrev pub facts : List (Type 0) → SProp 𝓤
  facts [] = emp 𝓤
  facts (φ ∷ []) = fact 𝓤 φ
  facts (φ ∷ ψ ∷ φs) = sep 𝓤 (fact 𝓤 φ) (facts (ψ ∷ φs))

  told : (P : SProp 𝓤) (φs : List (Type 0)) {Q : SProp 𝓤} → (Facts φs → ent 𝓤 P Q) → ent 𝓤 (sep 𝓤 P (facts φs)) Q
  told P [] k = via 𝓤 P (fst∗ 𝓤 P (emp 𝓤)) (k tt)
  told P (φ ∷ []) k = needs 𝓤 φ P (λ x. k (x, tt))
  told P (φ ∷ ψ ∷ φs) k = let R = facts (ψ ∷ φs) in
      fact_use 𝓤 φ (via 𝓤 _ (snd∗ 𝓤 P (sep 𝓤 (fact 𝓤 φ) R)) (fst∗ 𝓤 (fact 𝓤 φ) R)) (λ x.
      via 𝓤 (sep 𝓤 P R) (mono_r 𝓤 P (snd∗ 𝓤 (fact 𝓤 φ) R)) (told P (ψ ∷ φs) (λ xs. k (x, xs))))

  -- a walk begins with what the parameters own, the tokens Δ of lifetimes, and the facts that are required
  pub known : (Δ : List (Item 𝓤)) (P : Fml) (φs : List (Type 0)) {Q : SProp 𝓤} → (Facts φs → Sq 𝓛 (‵ P ∷ Δ) (prop Q))
      → ent 𝓤 (sep 𝓤 (sep 𝓤 (⋆ 𝓛 Δ) (sem 𝓛 P)) (facts φs)) Q
  known Δ P φs k = told (sep 𝓤 (⋆ 𝓛 Δ) (sem 𝓛 P)) φs (λ xs.
      via 𝓤 _ (comm∗ 𝓤 (⋆ 𝓛 Δ) (sem 𝓛 P)) (via 𝓤 _ (push 𝓛 (‵ P) Δ) (k xs).prf))

  made : (φs : List (Type 0)) → Facts φs → ent 𝓤 (emp 𝓤) (facts φs)
  made [] xs = id⊢ 𝓤 (emp 𝓤)
  made (φ ∷ []) xs = fact_i 𝓤 φ (emp 𝓤) xs.0
  made (φ ∷ ψ ∷ φs) xs = qed 𝓛 [] ∵ use0 𝓛 (raw (facts (ψ ∷ φs))) (made (ψ ∷ φs) xs.1) $ use0 𝓛 (raw (fact 𝓤 φ)) (fact_i 𝓤 φ (emp 𝓤) xs.0) $
      done !

  -- what a walk has at its end entails its goal
  pub record Ends (A B C F Q : SProp 𝓤) : Type 1 where
    pub prf : ent 𝓤 (sep 𝓤 A (sep 𝓤 B (sep 𝓤 C F))) Q

  -- and the facts that are ensured do so with the rest
  pub with_facts : {A B C F Q : SProp 𝓤} (φs : List (Type 0)) → Ends A B C F Q → ent 𝓤 (facts φs) F → Facts φs
      → ent 𝓤 (sep 𝓤 A (sep 𝓤 B C)) Q
  with_facts {A} {B} {C} {F} φs h e xs = qed 𝓛 (raw A ∷ raw B ∷ raw C ∷ []) ∵
      use0 𝓛 (raw F) (via 𝓤 (facts φs) (made φs xs) e) $ move ! (1 ∷ 2 ∷ 3 ∷ []) $ by ! h.prf

abbrev pub lives : {M : Type 1} {𝓤 : Ura M} (n : ℕ) → Lfts (suc n) → Shares (suc n) → List (Item 𝓤)
lives n κs qs = ‵ (flft κs.0 qs.0) ∷ ‵ (tokens n κs.1 qs.1) ∷ []

-- a function meets its contract by a walk from what it is passed to any `Post` that what it leaves entails
module _ {M : Type 1} {𝓤 : Ura M} (𝓛 : Logic 𝓤) (T : Ended) (c : Clauses 𝓤 T) {𝓜 : Model 𝓤 𝓛.H} (𝓡 : Running 𝓤 𝓛.H 𝓜) where
  open 𝓛 use {H}

  abbrev S : Signature
  S = T.signature

  abbrev 𝓣 : MachineTables 𝓤 H 𝓜
  𝓣 = tables 𝓤 H 𝓜 𝓡 𝓡.env

  pub walks : (ps : Partings 𝓛 S.lifetimes S.params T.kept) (k : Callee) (e : Fn) → Closed 𝓤 H 𝓣.C 𝓣.Λ k e
      → ((κs : Lfts S.lifetimes) (qs : Shares S.lifetimes) → AllOutlive S.lifetimes S.outlives κs
      → (a : Denots (types_at S.params κs)) (vss : Valss (types_at S.params κs)) (gh : (c κs a).ghost)
      → Are (types_at S.params κs) (Ises (types_at S.params κs)) a vss → (Post : Val → SProp 𝓤)
      → ((v : Val) (r : (type_at S.result κs).Denot) (ws : Lasts T κs a) → Ends 𝓛 (alive 𝓛 S κs qs)
      (sem 𝓛 (has_of κs S.params T.kept (stays 𝓛 S.lifetimes S.params T.kept ps) a ws vss))
      (sem 𝓛 ((type_at S.result κs).own_val r (v ∷ []))) ((c κs a).ensures gh r (at_exit T κs a ws)) (Post v))
      → ent 𝓤 (sep 𝓤 (on_entry 𝓛 S κs qs a vss) ((c κs a).requires gh)) (WpFn 𝓤 H 𝓣.C 𝓣.Λ e (flat (types_at S.params κs) vss) Post))
      → Meets 𝓛 S (𝓣.C k) (closing 𝓛 T c)
  walks ps k e closed walk =
      let hs : Stays S.params T.kept = stays 𝓛 S.lifetimes S.params T.kept ps in
      proved_at 𝓛 T hs c 𝓜 𝓡 (all_go 𝓛 S.lifetimes S.params T.kept ps) k e closed (λ y are.
      walk y.0.0 y.0.1 y.0.2 y.0.3 y.0.4 y.1 are ((walk_of 𝓛 T hs c).post y) (λ v r ws.
      record { prf = leaves 𝓛 T hs c y v r ws (all_fit 𝓛 S.lifetimes y.0.0 S.params T.kept ps y.0.3 ws) }))

module _ {M : Type 1} {𝓤 : Ura M} {𝓛 : Logic 𝓤} {K : Type 0} {Γ : List (Item 𝓤)} where
  open 𝓛 use {H}

  pub runs_with : K → (C : Calls 𝓤 H) (Λ : Loops 𝓤 H) (f : Fn) (Post : Val → SProp 𝓤) (us : List Val) {ws : List Val} → ws ≡ us
      → Step K 𝓛 Γ (allocs f.locals (λ E. params' E us (runs C Λ E f.body (at_ret E Post)))) Γ (prop (WpFn 𝓤 H C Λ f ws Post))
  runs_with t C Λ f Post us e = step (λ s.
      subst (λ ws. Seq K 𝓛 Γ (prop (WpFn 𝓤 H C Λ f ws Post))) (sym e) (enter t C Λ f us Post $ s))

  pub runs_at : K → {C : Calls 𝓤 H} {Λ : Loops 𝓤 H} (f : Fn) {Post : Val → SProp 𝓤} (us : List Val) {ws : List Val} → ws ≡ us
      → Step K 𝓛 Γ (allocs f.locals (λ E. params' E us (runs C Λ E f.body (at_ret E Post)))) Γ (prop (WpFn 𝓤 H C Λ f ws Post))
  runs_at t {C} {Λ} f {Post} us e = runs_with t C Λ f Post us e

  module _ {C : Calls 𝓤 H} {Λ : Loops 𝓤 H} {E : Env 𝓤 H} {q : Post 𝓤 H} {r : Body} where
    pub unblocks : K → {p : Place} {v : Rv} → Step K 𝓛 Γ (runs C Λ E (seq (assign p v) r) q) Γ (runs C Λ E (seq (block (assign p v)) r) q)
    unblocks t = step (λ s. record { prf = s.prf })

    pub unblocks_more : K → {p : Place} {v : Rv} {b : Body}
        → Step K 𝓛 Γ (runs C Λ E (seq (assign p v) (seq (block b) r)) q) Γ (runs C Λ E (seq (block (seq (assign p v) b)) r) q)
    unblocks_more t = step (λ s. record { prf = s.prf })

    pub unblocks_call : K → {f : Callee} {xs : List Opd} {d : Place}
        → Step K 𝓛 Γ (runs C Λ E (seq (call f xs d) r) q) Γ (runs C Λ E (seq (block (call f xs d)) r) q)
    unblocks_call t = step (λ s. record { prf = s.prf })

  module _ {G : Goal 𝓤 H} where
    pub states : K → (φ : Type 0) → φ → Step K 𝓛 (raw (fact 𝓤 φ) ∷ Γ) G Γ G
    states t φ x = use0 𝓛 (raw (fact 𝓤 φ)) (fact_i 𝓤 φ (emp 𝓤) x)

    pub states_also : K → (φ : Type 0) → φ → {i : Item 𝓤} → Step K 𝓛 ((raw (fact 𝓤 φ) ⊛ i) ∷ Γ) G (i ∷ Γ) G
    states_also t φ x = step (λ s. use0 𝓛 (raw (fact 𝓤 φ)) (fact_i 𝓤 φ (emp 𝓤) x) $ join t $ s)

    pub all_spent : K → (n : ℕ) → Step K 𝓛 (‵ (spent n) ∷ Γ) G Γ G
    all_spent t n = use0 𝓛 (‵ (spent n)) (spent_made 𝓛 n)

    pub self_left : K → (n : ℕ) {vs us : List Val} → vs ≡ us → {P Q : Fml}
        → Step K 𝓛 (‵ (fsep (fsep (feq (List Val) vs us) (fsep P Q)) (spent n)) ∷ Γ) G (‵ P ∷ ‵ Q ∷ Γ) G
    self_left t n {vs} {us} e = step (λ s. feq_i t (List Val) vs us e $ fjoin3 t $
        use0 𝓛 (‵ (spent n)) (spent_made 𝓛 n) $ move t (1 ∷ 0 ∷ []) $ fjoin t $ s)

    -- a fact that two entries show is learned, and they stay
    pub knows : K → {i j : Item 𝓤} (φ : Type 0) → ent 𝓤 (sep 𝓤 (mean 𝓛 i) (mean 𝓛 j)) (fact 𝓤 φ)
        → (φ → Seq K 𝓛 (i ∷ j ∷ Γ) G) → Seq K 𝓛 (i ∷ j ∷ Γ) G
    knows t {i} {j} φ h k =
        let shown : Seq K 𝓛 (i ∷ j ∷ Γ) (prop (fact 𝓤 φ)) = use2 𝓛 (raw (fact 𝓤 φ)) h $ keep t (0 ∷ []) $ done t in
        record { prf = fact_use 𝓤 φ shown.prf (λ x. (k x).prf) }
