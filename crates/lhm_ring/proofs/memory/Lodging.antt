-- A vector is made of the memory of others by `lodge`, and gives it back by `dislodge`. Assumes `Logic`.
use Rattle.lhm_ring.proofs.Names.{List, T, [], ap, arith, length, refl, ℕ, ◌*◌, ◌+◌, ◌-◌, ◌<◌, ◌^◌, ◌∙◌, ◌∷◌, ◌≡◌, ◌≤◌, as_raw, as_written}
use Rattle.lhm_ring.proofs.Names.{El, R, sz, handle_tells, timeless, array_of, lodged, blk_in, blk_out, all_room, empty, Vec, Lodged, flft}
use Rattle.lhm_ring.proofs.Names.{froom, fsep, ftrue, full_share, SProp, emp, ent, ex, guard, id⊢, never_e, ⊑_refl, ◌⊑◌, Fun, fact, fact_i}
use Rattle.lhm_ring.proofs.Names.{Array, usize, left, no, part_at, layout, layouts, param, RattleType, Valss, Ptr, block_ptr, null_ptr}
use Rattle.lhm_ring.proofs.Names.{room_for, heard, nothing, only, Struct, within, Callee, a_type, ty_array, w64, Val, WT, has_ty, vcons}
use Rattle.lhm_ring.proofs.Names.{vint, vnil, vptr, vstruct, Memory, Routine, Ura, !, Goal, Item, Seq, Step, await, by, check, done, drop}
use Rattle.lhm_ring.proofs.Names.{feq_i, feq_l, fjoin, flt_i, flt_l, fpack, fpick, fsplit, join, keep, later, move, now, pick, qed, raw}
use Rattle.lhm_ring.proofs.Names.{rewrite, show, some, split, split3, step, updating, use0, use1, use2, ‵, ◌$◌, ◌∵◌, ◌⊛◌, Logic, sem}
use Rattle.std_alloc.proofs.VecSteps.El.{no_al}
use Rattle.std_alloc.specs.contracts.vec.{lodge.Key.name as lodge_name, lodged.LodgedAllocator.TheImpl.ghosts}
use denote.{Param.Laws.Laws, Triple.Spec.triple_of, Triple.Statement.Contract}
use mir.{Raw.raw as bare, Syntax.given as dict_at}
use Rattle.std_alloc.specs.contracts.vec.Vec as V-type
use Rattle.std_alloc.specs.contracts.vec.lodged.Lodged as L-type
use Rattle.std_alloc.specs.contracts.vec.lodge as LG
use Rattle.std_alloc.specs.contracts.vec.lodged.Vec+T+Lodged.dislodge as DL
use Rattle.std_alloc.proofs.vec.Vec.TheLaws as V-laws
use Rattle.std_alloc.proofs.vec.lodged.Lodged.TheLaws as L-laws

-- such a vector, and its laws
abbrev pub Lodging : RattleType → RattleType
Lodging Y = V-type.the_row Y L-type.the_row ghosts

abbrev pub lodging_laws : (Y : RattleType) → Laws Y → Laws (Lodging Y)
lodging_laws Y L = V-laws.the_row_laws Y L-type.the_row ghosts L L-laws.the_row_laws

abbrev pub lodge_key : RattleType → Callee
lodge_key Y = lodge_name (layouts (a_type ∷ []) (Y, tt))

abbrev pub plainly : List RattleType → RattleType
plainly Rs = Struct (record { name = []; args = []; types = []; fields = Rs })

module _ {M : Type 1} {𝓤 : Ura M} {𝓛 : Logic 𝓤} {K : Type 0} {Γ : List (Item 𝓤)} {G : Goal 𝓤 𝓛.H} where
  -- what is owned is one machine value, of its type
  pub tells : K → (S : RattleType) → Laws S → (x : S.Denot) (vs : List Val)
      → ((v : Val) → vs ≡ v ∷ [] → T (has_ty (layout S) v) × WT v → Seq K 𝓛 (‵ (S.own_val x (v ∷ [])) ∷ Γ) G)
      → Seq K 𝓛 (‵ (S.own_val x vs) ∷ Γ) G
  tells t S L = handle_tells (record {
    row = S;
    laws = L;
    g = record { dealloc_token = λ a τ p. ftrue };
    d = dict_at 0;
    drops = dict_at 0;
  }) t

  -- a struct of no field and one of three are made of their fields: what a struct owns does not read
  -- its name
  pub none_made : K → Step K 𝓛 (‵ ((plainly []).own_val tt (vstruct vnil ∷ [])) ∷ Γ) G Γ G
  none_made t = step (λ s.
      nothing t $ feq_i t (List Val) (vstruct vnil ∷ []) (vstruct vnil ∷ []) refl $ fjoin t $
      fpack t (Valss []) (within (record { name = []; args = []; types = []; fields = [] }) tt (vstruct vnil ∷ [])) tt $ s)

  pub none_had : K → (vs : List Val) → (vs ≡ vstruct vnil ∷ [] → Seq K 𝓛 Γ G) → Seq K 𝓛 (‵ ((plainly []).own_val tt vs) ∷ Γ) G
  none_had t vs k = fpick t (λ vss. fsplit t $ feq_l t (λ e. drop t $ k e))

  pub three_made : K → (R S U : RattleType) (x : R.Denot) (y : S.Denot) (z : U.Denot) (u v w : Val)
      → Step K 𝓛 (‵ ((plainly (R ∷ S ∷ U ∷ [])).own_val (x, (y, (z, tt))) (vstruct (vcons u (vcons v (vcons w vnil))) ∷ [])) ∷ Γ) G
      (‵ (R.own_val x (u ∷ [])) ∷ ‵ (S.own_val y (v ∷ [])) ∷ ‵ (U.own_val z (w ∷ [])) ∷ Γ) G
  three_made t R S U x y z u v w = step (λ s.
      let all : Val = vstruct (vcons u (vcons v (vcons w vnil))) in
      nothing t $ move t (3 ∷ 0 ∷ []) $ fjoin t $ move t (2 ∷ 0 ∷ []) $ fjoin t $ move t (1 ∷ 0 ∷ []) $ fjoin t $ feq_i t (List Val)
      (all ∷ []) (all ∷ []) refl $ fjoin t $
      fpack t (Valss (R ∷ S ∷ U ∷ [])) (within (record { name = []; args = []; types = []; fields = R ∷ S ∷ U ∷ [] }) (x, (y, (z, tt)))
      (all ∷ [])) (u ∷ [], (v ∷ [], (w ∷ [], tt))) $ s)

module _ (Y : RattleType) {M : Type 1} {𝓤 : Ura M} (𝓛 : Logic 𝓤) (at_mem : Memory → SProp 𝓤) (run : Routine → Fun 𝓤) where
  open 𝓛 use {H}

  abbrev pub Lodges : Contract 𝓤
  Lodges = triple_of 𝓛 (LG.signature (timeless Y)) (LG.spec (timeless Y) 𝓛 at_mem run)

  abbrev pub Dislodges : Contract 𝓤
  Dislodges = triple_of 𝓛 (DL.signature (timeless Y)) (DL.spec (timeless Y) 𝓛 at_mem run)

  module _ (b o n c : ℕ) (xs : List Y.Denot) where
    abbrev pub at_lodge : Lodges.Ghost
    at_lodge = (
      (
        ([], tt),
        (full_share, tt),
        tt,
        (block_ptr b o, (n, (c, tt))),
        (vptr b o ∷ [], (vint w64 n ∷ [], (vint w64 c ∷ [], tt))),
      ),
      xs,
    )

    abbrev pub IsLodged : Vec Y.Denot Lodged → Type 0
    IsLodged r = (r.items ≡ xs) × (r.len ≡ n) × (r.cap ≡ c) × (r.ptr ≡ block_ptr b o)

    pub lodge_goes : n ≡ length xs → n ≤ c → c < 2 ^ 63 → ent 𝓤 (sem 𝓛 (lodged (param 0 Y) (block_ptr b o) n c xs)) (Lodges.pre at_lodge)
    lodge_goes long le small =
        let Asked : Type 0 = (n ≡ length xs) × (n ≤ c) × (c < 2 ^ 63) in
        qed 𝓛 (‵ (lodged (param 0 Y) (block_ptr b o) n c xs) ∷ []) ∵ use0 𝓛 (raw (fact 𝓤 Asked))
        (fact_i 𝓤 Asked (emp 𝓤) (long, le, small)) $ join ! $
        use0 𝓛 (raw (fact 𝓤 ([] ⊑ []))) (fact_i 𝓤 ([] ⊑ []) (emp 𝓤) (⊑_refl [])) $ join ! $
        nothing ! $ flt_i ! c (2 ^ 64) (omega (arith, small)) $ feq_i ! (List Val) (vint w64 c ∷ []) (vint w64 c ∷ []) refl $ fjoin ! $
        fjoin ! $
        flt_i ! n (2 ^ 64) (omega (arith, le, small)) $ feq_i ! (List Val) (vint w64 n ∷ []) (vint w64 n ∷ []) refl $ fjoin ! $ fjoin ! $
        feq_i ! (List Val) (vptr b o ∷ []) (vptr b o ∷ []) refl $ fjoin ! $ nothing ! $ use0 𝓛 (‵ (flft [] full_share))
        (𝓛.lfts.lft-nil full_share) $ join ! $ join ! $ done !

    pub lodge_gives : (v : Val) → ent 𝓤 (Lodges.post at_lodge v) (H.⇛ (ex 𝓤 (λ (r : Vec Y.Denot Lodged). guard 𝓤 (IsLodged r)
        (sem 𝓛 ((Lodging (param 0 Y)).own_val r (v ∷ []))))))
    lodge_gives v =
        qed 𝓛 (raw (Lodges.post at_lodge v) ∷ []) ∵ updating ! $
        use1 𝓛 (later (some (λ (r : Vec Y.Denot Lodged). ((‵ (flft [] full_share) ⊛ ‵ ftrue) ⊛ ‵ ((Lodging (param 0 Y)).own_val r (v ∷ [])))
        ⊛ some (λ (ws : Unit {0} × (Unit {0} × (Unit {0} × Unit {0}))). ‵ (fsep ftrue (fsep ftrue (fsep ftrue ftrue))) ⊛ raw
        (fact 𝓤 (IsLodged r)))))) (id⊢ 𝓤 _) $ await ! tt $ pick ! (λ r.
        split ! $ move ! (1 ∷ []) $ pick ! (λ ws. split ! $ drop ! $ heard ! (IsLodged r) (λ is. split ! $ drop ! $ now ! $
        show ! (λ (z : Vec Y.Denot Lodged). guard 𝓤 (IsLodged z) (sem 𝓛 ((Lodging (param 0 Y)).own_val z (v ∷ [])))) r $ check ! is $
        done !)))

  module _ (d : Vec Y.Denot Lodged) (u : Val) where
    abbrev pub at_dislodge : Dislodges.Ghost
    at_dislodge = ((([], tt), (full_share, tt), tt, (d, tt), (u ∷ [], tt)), tt)

    pub dislodge_goes : ent 𝓤 (sem 𝓛 ((Lodging (param 0 Y)).own_val d (u ∷ []))) (Dislodges.pre at_dislodge)
    dislodge_goes =
        qed 𝓛 (‵ ((Lodging (param 0 Y)).own_val d (u ∷ [])) ∷ []) ∵ nothing ! $ use0 𝓛 (raw (fact 𝓤 ([] ⊑ [])))
        (fact_i 𝓤 ([] ⊑ []) (emp 𝓤) (⊑_refl [])) $ join ! $
        nothing ! $ move ! (2 ∷ 0 ∷ []) $ fjoin ! $ nothing ! $ use0 𝓛 (‵ (flft [] full_share)) (𝓛.lfts.lft-nil full_share) $ join ! $
        join ! $ done !

    pub dislodge_gives : (v : Val) → ent 𝓤 (Dislodges.post at_dislodge v)
        (H.⇛ (guard 𝓤 ((v ≡ vint w64 d.len) × (d.len < 2 ^ 64)) (sem 𝓛 (lodged (param 0 Y) d.ptr d.len d.cap d.items))))
    dislodge_gives v =
        qed 𝓛 (raw (Dislodges.post at_dislodge v) ∷ []) ∵ updating ! $
        use1 𝓛 (later (some (λ (r : ℕ). ((‵ (flft [] full_share) ⊛ ‵ ftrue) ⊛ ‵ (usize.own_val r (v ∷ [])))
        ⊛ some (λ (ws : Unit {0} × Unit {0}). ‵ (fsep (left ((Lodging (param 0 (timeless Y))).exit no) d ws.0) ftrue) ⊛ raw
        (fact 𝓤 (r ≡ d.len)) ⊛ ‵ (lodged (param 0 Y) d.ptr d.len d.cap d.items))))) (id⊢ 𝓤 _) $ await ! tt $ pick ! (λ r.
        split ! $ move ! (1 ∷ []) $ pick ! (λ ws. split3 ! $ drop ! $ heard ! (r ≡ d.len)
        (λ is. move ! (1 ∷ []) $ split ! $ drop ! $ fsplit ! $ feq_l ! (λ e. flt_l ! (λ f. now ! $
        check ! (ap only e ∙ ap (vint w64) is, omega arith) $ done !)))))

module _ (Y : RattleType) (L : Laws Y) where
  abbrev pub element : El
  element = record { row = Y; laws = L; al = no_al }

  module _ {M : Type 1} {𝓤 : Ura M} (𝓛 : Logic 𝓤) (b o c : ℕ) (some_room : 0 < c) where
    open 𝓛 use {H}

    pub row_of_room : c * sz element < 2 ^ 63 → ent 𝓤 (H.room (bare (ty_array (layout Y) c)) b o)
        (sem 𝓛 (lodged (R element) (block_ptr b o) 0 c []))
    row_of_room fit =
        let s : ℕ = sz element in
        let same : c ≡ c - 0 = omega arith in
        let start : o ≡ o + 0 * s = omega arith in
        qed 𝓛 (‵ (froom (bare (ty_array (layout Y) c)) b o) ∷ []) ∵ as_written ! (ty_array (layout Y) c) b o $
        rewrite ! 0 (λ (z : ℕ × ℕ). ‵ (froom (ty_array (layout Y) z.0) b z.1)) {x = (c - 0, o + 0 * s)} (λ i. (same i, start i)) refl $
        nothing ! $ move ! (1 ∷ 0 ∷ []) $
        use0 𝓛 (‵ (part_at (Array (R element) 0) full_share [] b o)) (empty element 𝓛 [] b o refl) $ blk_in element ! tt b o 0 c []
        some_room $ flt_i ! (c * s) (2 ^ 63) fit $ fjoin ! $ done !

    pub room_of_row : (n : ℕ) (xs : List Y.Denot) → n ≤ c → ent 𝓤 (sem 𝓛 (lodged (R element) (block_ptr b o) n c xs))
        (H.room (bare (ty_array (layout Y) c)) b o)
    room_of_row n xs le =
        qed 𝓛 (‵ (lodged (R element) (block_ptr b o) n c xs) ∷ []) ∵ fsplit ! $ drop ! $ blk_out element ! tt b o n c xs some_room $ keep
        ! (0 ∷ 1 ∷ []) $
        use2 𝓛 (‵ (froom (ty_array (layout Y) c) b o)) (all_room element 𝓛 b o n c xs le) $ as_raw ! (ty_array (layout Y) c) b o $ done !

  module _ {M : Type 1} {𝓤 : Ura M} (𝓛 : Logic 𝓤) (c : ℕ) (some_room : 0 < c) (n : ℕ) (xs : List Y.Denot) (le : n ≤ c) where
    pub room_of_vector : (p : Ptr) → ent 𝓤 (sem 𝓛 (lodged (R element) p n c xs)) (sem 𝓛 (room_for (array_of Y c) p))
    room_of_vector (block_ptr b o) = room_of_row 𝓛 b o c some_room n xs le
    room_of_vector null_ptr = qed 𝓛 (‵ (lodged (R element) null_ptr n c xs) ∷ []) ∵ fsplit ! $ drop ! $ by ! (never_e 𝓤 _)
