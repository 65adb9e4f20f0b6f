-- What the proofs by hand over the nodes share. Assumes `Logic`.
--     Three, args          the rows of the links, of the keys and of the values, and what a call
--     passes for them
--     marker_made      a value of no bytes
--     value_known, forgotten      a value in memory is machine memory and what it owns, and memory that holds nothing
use Rattle.lhm_ring.proofs.Names.{List, None, Option, Some, [], ap, arith, refl, ℕ, ◌++◌, ◌+◌, ◌∙◌, ◌∷◌, ◌≡◌, Cell, body_owns, cell_owns}
use Rattle.lhm_ring.proofs.Names.{cells_own, key_offset, land_owns, links_offset, value_offset, as_raw, Good, word, Fml, fat, froom}
use Rattle.lhm_ring.proofs.Names.{full_share, emp, ent, sep, part_at, layout, layouts, param, RattleType, Valss, block_ptr, makes_shadow}
use Rattle.lhm_ring.proofs.Names.{nothing, peeks, shape, Shape, Struct, within, Args, Ty, a_type, Val, of_list, vcons, vnil, vstruct, Ura}
use Rattle.lhm_ring.proofs.Names.{ !, Goal, Item, Seq, Step, done, drop, feq_i, fjoin, fpack, fsplit, move, pick, qed, some, split, step}
use Rattle.lhm_ring.proofs.Names.{use1, ‵, ◌$◌, ◌∵◌, ◌⊛◌, Logic, sem}
use borrow.Table.OneValue.{part_in, part_out}
use denote.{Laws.Is, Laws.Typed, Laws.shows, Param.Laws.Laws, Param.Laws.param_laws}
use mir.Raw.{raw as bare}
use Rattle.lhm_ring.specs.contracts.nodes.Nodes as N-type
use Rattle.lhm_ring.specs.contracts.pointer.NodePointer as P-type

pub record Three : Type 2 where
  pub links : RattleType
  pub links_laws : Laws links
  pub key : RattleType
  pub key_laws : Laws key
  pub value : RattleType
  pub value_laws : Laws value

abbrev pub three_rows : {L K V : RattleType} → Laws L → Laws K → Laws V → Three
three_rows {L} {K} {V} LL LK LV = record { links = L; links_laws = LL; key = K; key_laws = LK; value = V; value_laws = LV }

module _ (E : Three) where
  abbrev pub args : Args
  args = layouts (a_type ∷ a_type ∷ a_type ∷ []) (E.links, (E.key, (E.value, tt)))

  abbrev pub RL : RattleType
  RL = param 0 E.links

  abbrev pub RK : RattleType
  RK = param 1 E.key

  abbrev pub RV : RattleType
  RV = param 2 E.value

  abbrev pub lo : ℕ
  lo = links_offset RL RK RV

  abbrev pub ko : ℕ
  ko = key_offset RL RK RV

  abbrev pub vo : ℕ
  vo = value_offset RL RK RV

  abbrev pub Node : Type 0
  Node = Cell E.links.Denot (E.key.Denot × E.value.Denot)

  abbrev pub Nr : RattleType
  Nr = N-type.the_row RL RK RV

  -- the field of `Nodes`, which takes no bytes
  abbrev pub Marker : RattleType
  Marker = Struct (shape (N-type.the_type RL RK RV))

  abbrev pub One : Node → Fml
  One c = cell_owns RL RK RV c

  -- what is owned beside the nodes
  abbrev pub Land : Nr.Denot → Fml
  Land h = land_owns RL RK RV h.node_bytes h.unused h.chunks

  abbrev pub Cells : Fml → List Node → Fml
  Cells = cells_own RL RK RV

abbrev pub Pl : RattleType
Pl = P-type.the_row

abbrev pub marker : Val
marker = vstruct (vcons (vstruct vnil) vnil)

pub marker_made : (E : Three) {M : Type 1} {𝓤 : Ura M} (𝓛 : Logic 𝓤) → ent 𝓤 (emp 𝓤) (sem 𝓛 ((Marker E).own_val (tt, tt) (marker ∷ [])))
marker_made E 𝓛 = makes_shadow 𝓛 ((Marker E).own_val (tt, tt) (marker ∷ []))
    (λ vss. (tt, ((λ uss. (tt, tt)), tt))) ((vstruct vnil ∷ [], tt), (refl, ((tt, (refl, tt)), tt)))

pub alone : (τ : Ty) (vs : List Val) → Typed (τ ∷ []) vs → (v : Val) × ((vs ≡ v ∷ []) × Good τ v)
alone τ vs t = grind arith

module _ (i : ℕ) (Y : RattleType) (L : Laws Y) {M : Type 1} {𝓤 : Ura M} (𝓛 : Logic 𝓤) where
  open 𝓛 use {H}

  pub value_in : (x : Y.Denot) (b o : ℕ) (v : Val)
      → ent 𝓤 (sep 𝓤 (H.at full_share (layout Y) b o v) (sem 𝓛 (Y.own_val x (v ∷ [])))) (sem 𝓛 (part_at (param i Y) full_share x b o))
  value_in x b o v = part_in 𝓛 (param i Y) refl full_share x b o v

module _ {M : Type 1} {𝓤 : Ura M} {𝓛 : Logic 𝓤} {K : Type 0} {Γ : List (Item 𝓤)} {G : Goal 𝓤 𝓛.H} where
  module _ (i : ℕ) (Y : RattleType) (L : Laws Y) (x : Y.Denot) (b o : ℕ) where
    -- a value in memory is machine memory and what the value owns
    pub value_known : K → ((v : Val) → Good (layout Y) v → Seq K 𝓛 (‵ (fat full_share (layout Y) b o v) ∷ ‵ (Y.own_val x (v ∷ [])) ∷ Γ) G)
        → Seq K 𝓛 (‵ (part_at (param i Y) full_share x b o) ∷ Γ) G
    value_known t k = use1 𝓛 (some (λ (v : Val). ‵ (fat full_share (layout Y) b o v) ⊛ ‵ (Y.own_val x (v ∷ []))))
        (part_out 𝓛 (param i Y) refl full_share x b o) $ pick t (λ v. split t $ move t (1 ∷ []) $
        peeks t (param i Y) (Is (param i Y)) (shows 𝓛 (param i Y)) x (v ∷ []) (λ p. move t (1 ∷ 0 ∷ []) $
        k v (((param_laws i Y L).lawful 𝓛).typed x (v ∷ []) p).0))

  -- what lies in memory is forgotten
  pub forgotten : K → (τ : Ty) (b o : ℕ) (v : Val) → Step K 𝓛 (‵ (froom (bare τ) b o) ∷ Γ) G (‵ (fat full_share τ b o v) ∷ Γ) G
  forgotten t τ b o v = step (λ s. use1 𝓛 (‵ (froom τ b o)) (𝓛.laws.at_room τ b o v) $ as_raw t τ b o $ s)

-- the machine value of a pointer
pub word-pointer : (x : Pl.Denot) (vs : List Val) → Is Pl x vs → vs ≡ word x.ptr ∷ []
word-pointer x vs is = is.1.0 ∙ ap (λ (ws : List Val). vstruct (of_list (ws ++ [])) ∷ []) is.1.1.0

module _ {M : Type 1} {𝓤 : Ura M} (𝓛 : Logic 𝓤) (b o : ℕ) where
  -- a value that is forgotten leaves uninitialised memory
  pub uninit_left : (i : ℕ) (Y : RattleType) (L : Laws Y) (x : Y.Denot)
      → ent 𝓤 (sem 𝓛 (part_at (param i Y) full_share x b o)) (sem 𝓛 (froom (layout Y) b o))
  uninit_left i Y L x = qed 𝓛 (‵ (part_at (param i Y) full_share x b o) ∷ []) ∵
      value_known i Y L x b o ! (λ v _. use1 𝓛 (‵ (froom (layout Y) b o))
      (𝓛.laws.at_room (layout Y) b o v) $ move ! (1 ∷ []) $ drop ! $ done !)

module _ {M : Type 1} {𝓤 : Ura M} (𝓛 : Logic 𝓤) (E : Three) (b o : ℕ) where
  -- what a node holds, or the memory for it, is uninitialised memory
  pub body_uninit : (x : Option (E.key.Denot × E.value.Denot))
      → ent 𝓤 (sem 𝓛 (body_owns (RL E) (RK E) (RV E) (block_ptr b o) x))
      (sep 𝓤 (sem 𝓛 (froom (layout E.key) b (o + ko E)))
      (sem 𝓛 (froom (layout E.value) b (o + vo E))))
  body_uninit None = qed 𝓛 (‵ (body_owns (RL E) (RK E) (RV E) (block_ptr b o) None) ∷ []) ∵ fsplit ! $
      use1 𝓛 (‵ (froom (layout E.key) b (o + ko E))) (𝓛.laws.raw-room (layout E.key) b (o + ko E)) $ move ! (1 ∷ []) $
      use1 𝓛 (‵ (froom (layout E.value) b (o + vo E))) (𝓛.laws.raw-room (layout E.value) b (o + vo E)) $ move ! (1 ∷ 0 ∷ []) $ done !
  body_uninit (Some x) = qed 𝓛 (‵ (body_owns (RL E) (RK E) (RV E) (block_ptr b o) (Some x)) ∷ []) ∵
      fsplit ! $ use1 𝓛 (‵ (froom (layout E.key) b (o + ko E)))
      (uninit_left 𝓛 b (o + ko E) 1 E.key E.key_laws x.0) $ move ! (1 ∷ []) $
      use1 𝓛 (‵ (froom (layout E.value) b (o + vo E)))
      (uninit_left 𝓛 b (o + vo E) 2 E.value E.value_laws x.1) $ move ! (1 ∷ 0 ∷ []) $ done !

module _ {M : Type 1} {𝓤 : Ura M} {𝓛 : Logic 𝓤} {K : Type 0} {Γ : List (Item 𝓤)} {G : Goal 𝓤 𝓛.H} where
  -- two values make a struct of two fields
  pub struct_made : K → (shape : Shape) (R S : RattleType) (x : R.Denot) (y : S.Denot) (u v : Val)
      → Step K 𝓛 (‵ ((Struct (record shape { fields = R ∷ S ∷ [] })).own_val (x, (y, tt))
      (vstruct (vcons u (vcons v vnil)) ∷ [])) ∷ Γ) G
      (‵ (R.own_val x (u ∷ [])) ∷ ‵ (S.own_val y (v ∷ [])) ∷ Γ) G
  struct_made t shape R S x y u v = step (λ s.
      let w : Val = vstruct (vcons u (vcons v vnil)) in
      nothing t $ move t (2 ∷ 0 ∷ []) $ fjoin t $ move t (1 ∷ 0 ∷ []) $ fjoin t $ feq_i t (List Val) (w ∷ []) (w ∷ []) refl $ fjoin t $
      fpack t (Valss (R ∷ S ∷ [])) (within (record shape { fields = R ∷ S ∷ [] }) (x, (y, tt)) (w ∷ [])) (u ∷ [], (v ∷ [], tt)) $ s)

  -- two values make a pair
  pub two_made : K → (R S : RattleType) (x : R.Denot) (y : S.Denot) (u v : Val)
      → Step K 𝓛 (‵ ((Struct
      (record { name = []; args = []; types = []; fields = R ∷ S ∷ [] })).own_val (x, (y, tt))
      (vstruct (vcons u (vcons v vnil)) ∷ [])) ∷ Γ) G
      (‵ (R.own_val x (u ∷ [])) ∷ ‵ (S.own_val y (v ∷ [])) ∷ Γ) G
  two_made t = struct_made t (record { name = []; args = []; types = []; fields = [] })
