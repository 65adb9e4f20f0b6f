-- `get_or_insert` and `get_or_insert_with` insert by a first call, and hand on what `back_or` returns:
-- what is said of them follows from what the two calls say.
use mathlib.Core.Option as maybe
use mathlib.Core.{Path.subst, List.List, List.[], List.◌∷◌, List.◌++◌}
use Prim.Native.Nat.{ℕ}
use seplogic.Ra.Ura.{Ura}
use base.Fraction.{full_share}
use base.Share
use base.Fml.{Lft, Incl-refl, GName, Share, Fml, fsep, fseps, fdead, fauth, flft, fres, fbor}
use base.Logic.{ent, ex_i, sep, emp, wand, wand_i, snd∗, upd_i}
use contract.BorrowLft.{meet_⊑_left}
use mir.Syntax.{Lifetime}
use mir.Val.{Val, vptr}
use types.Logic.{Logic, sem}
use types.Kit.{‵, raw, ◌⊛◌, later, await, ◌$◌, ◌∵◌, !, qed, move, keep, drop, use0, use1, use2, use3, rewrite, split, join, fsplit, fjoin}
use types.Kit.{fpick, fpack, feq_i, assume, suffices, updating, now, done}
use types.SemTy.{Body}
use types.Tokens.{bor_open, res_agree}
use borrow.Table.Lending.{lending, out_of_lem, lends_late}
use denote.Follow.{follows_so, follows_if, follows_by, such_by}
use denote.Memory.{mem, part_at, hidden_shr}
use denote.MovesOut.{Back as WayBack}
use denote.RattleType.{RattleType}
use denote.Ref.{Bor, ShrRef}
use denote.Shares.{Shares}
use denote.Steps.{only}
use denote.Struct.Members.{Lone}
use Rattle.std.proofs.Common.{◌≡◌, refl, sym, ap, rules}
use Rattle.std.specs.Prelude.{⊤, unwrap_or, OnErr, Option, Some, None, Result, Ok, Err, IfSome, IfNone, IfOk, IfErr, MatchResult, length}
use Rattle.linked_hash_map.specs.Pairs.{last}
use Rattle.linked_hash_set.specs.{LinkedSet.LinkedSet, declared.error.Refused.Refused}

pub Lone-is : (vs : List Val) → Lone vs → vs ≡ only vs ∷ []
Lone-is [] l = absurd l
Lone-is (v ∷ []) l = refl
Lone-is (v ∷ u ∷ us) l = absurd l

-- a lender that ends at v ends so that P holds, if P holds of v
pub weaker : {M : Type 1} {𝓤 : Ura M} (𝓛 : Logic 𝓤) (R : RattleType) (γ : GName) (v : R.Denot) (P : R.Denot → Type 0) → P v
    → ent 𝓤 (sem 𝓛 (fres γ (R.coded.code v))) (sem 𝓛 (follows_so R R γ maybe.none (λ _ _. ⊤) P))
unfolding such_by follows_by
weaker {𝓤 = 𝓤} 𝓛 R γ v P holds =
    ex_i 𝓤 (λ (y : (p : (R.Denot → R.Denot) × R.Denot) × ((z : R.Denot)
    → ⊤) × P p.1). sem 𝓛 (follows_if R R γ maybe.none y.0.0 y.0.1)) (((λ w. w), v), (λ w. tt), holds)

-- a `&mut` that a call left at n is shared for as long as it lives
module _ {M : Type 1} {𝓤 : Ura M} (𝓛 : Logic 𝓤) (R : RattleType) (κ : Lft) (b o : ℕ) (γ : GName) (n : R.Denot) where
  open 𝓛 use {H, A}

  abbrev Part : Fml
  Part = part_at R full_share n b o

  abbrev Whole : Fml
  Whole = Body (mem R) b o γ

  way_back : ent 𝓤 (A.auth γ (R.coded.code n)) (sem 𝓛 (WayBack κ Whole (Part ∷ [])))
  unfolding fseps
  way_back =
      qed 𝓛 (‵ (fauth γ (R.coded.code n)) ∷ []) ∵ assume ! (‵ (fsep (fdead κ) (fseps (Part ∷ [])))) $
      fsplit ! $ drop ! $ fsplit ! $ suffices ! (sem 𝓛 Whole) (upd_i 𝓤 (sem 𝓛 Whole)) $ move ! (0 ∷ 2 ∷ []) $ fjoin ! $
      fpack ! R.Denot (λ z. fsep ((mem R).own_at z b o) (fauth γ (R.coded.code z))) n $ keep ! (0 ∷ []) $ done !

  pub shared : (ℓ : Lifetime) (q : Share) (κ' : Lft) (q' : Share) → Shares 𝓛 R (κ ++ κ')
      → ent 𝓤 (sep 𝓤 (A.res γ (R.coded.code n)) (sep 𝓤 (A.bor κ Whole) (sep 𝓤 (A.lft κ q) (A.lft κ' q'))))
      (H.⇛ (sep 𝓤 (sem 𝓛 ((ShrRef ℓ κ R).own_val (record { ref_ptr = (b, o); now = n }) (vptr b o ∷ [])))
      (sep 𝓤 (A.res γ (R.coded.code n)) (sep 𝓤 (A.lft κ q) (A.lft κ' q')))))
  shared ℓ q κ' q' shares =
      let half = Share.left q in let other = Share.right q in
      qed 𝓛 (‵ (fres γ (R.coded.code n)) ∷ ‵ (fbor κ Whole) ∷ (‵ (flft κ q) ⊛ ‵ (flft κ' q')) ∷ []) ∵ updating ! $
      move ! (2 ∷ []) $ split ! $ use1 𝓛 (‵ (flft κ half) ⊛ ‵ (flft κ other)) (𝓛.lfts.lft_split κ q) $ split ! $
      move ! (4 ∷ 0 ∷ []) $ bor_open ! tt $ move ! (1 ∷ []) $ fpick ! (λ z. fsplit ! $ move ! (5 ∷ 1 ∷ []) $ res_agree ! R.coded (λ e.
      rewrite ! 2 (λ (w : R.Denot). ‵ ((mem R).own_at w b o)) (sym e) refl $
      rewrite ! 1 (λ (w : R.Denot). ‵ (fauth γ (R.coded.code w))) (sym e) refl $
      -- [its final value; what says so in the borrow; the value; the open borrow; the tokens]
      move ! (2 ∷ 3 ∷ []) $ use2 𝓛 (later (‵ (fbor κ Part) ⊛ lending 𝓛 κ half Whole κ Part)) (out_of_lem 𝓛 κ half Whole κ Part) $
      await ! tt $ split ! $ move ! (4 ∷ 5 ∷ []) $ join ! $ move ! (1 ∷ 0 ∷ []) $
      use2 𝓛 (later (‵ (hidden_shr R κ n b o) ⊛ (‵ (flft κ other) ⊛ ‵ (flft κ' q'))))
      (shares n κ ((κ, other) ∷ (κ', q') ∷ []) b o (Incl-refl (κ ++ κ')) (meet_⊑_left κ κ')) $
      await ! tt $ split ! $ move ! (1 ∷ []) $ split ! $ move ! (5 ∷ []) $ use1 𝓛 (‵ (WayBack κ Whole (Part ∷ []))) way_back $
      use0 𝓛 (raw (wand 𝓤 (A.dead κ) (A.dead κ))) (wand_i 𝓤 (emp 𝓤) (A.dead κ) (A.dead κ) (snd∗ 𝓤 (emp 𝓤) (A.dead κ))) $
      -- [what ends with κ; the way back; the tokens; what is shared; the open borrow; its final value]
      move ! (5 ∷ 1 ∷ 0 ∷ []) $ use3 𝓛 (later (‵ (flft κ half) ⊛ raw (wand 𝓤 (A.dead κ) (A.bor κ Whole))))
      (lends_late 𝓛 κ half Whole κ Part) $ await ! tt $ split ! $ move ! (0 ∷ 2 ∷ []) $ use2 𝓛 (‵ (flft κ q)) (𝓛.lfts.lft_join κ q) $
      now ! $ keep ! (3 ∷ 4 ∷ 0 ∷ 2 ∷ []) $ feq_i ! (List Val) (vptr b o ∷ []) (vptr b o ∷ []) refl $ fjoin ! $ done !))

pub some-inj : {X : Type 0} {x y : X} → Some x ≡ Some y → x ≡ y
some-inj {x = x} e = ap (λ o. unwrap_or o x) e

pub at_none : {X P : Type 0} (e : Option X) → IfNone e P → e ≡ None → P
at_none None said is = said
at_none (Some k) said is = search rules

-- what `back_or` says of its result
abbrev pub Kept : {X : Type 0} → Option X → Result (Bor X) (Refused X) → Type 0
Kept e x = IfErr x (λ error. e ≡ Some error.item)

module _ {X S : Type 0} (e : Option X) where
  abbrev pub Found : Result (Bor X) (Refused X) → LinkedSet X S → Type 0
  Found x set = IfOk x (λ stored. (e ≡ None) × (last set.items ≡ Some stored.now))

  -- what the first call says of the item that it hands back
  abbrev pub Back : (old new : LinkedSet X S) → (X → Type 0) → Type 0 → Type 0
  Back old new Is Absent = IfSome e (λ r. Is r × (new ≡ old) × Absent × (length old.items ≡ old.capacity))

module _ {X S : Type 0} where
  pub is_stored : (P : Option X → Type 0) (e : Option X) (x : Result (Bor X) (Refused X)) (new : LinkedSet X S)
      → IfNone e (P (last new.items)) → Found e x new → IfOk x (λ stored. P (Some stored.now))
  is_stored P None (Ok r) new said ok = subst P ok.1 said
  is_stored P (Some k) (Ok r) new said ok = search rules
  is_stored P e (Err r) new said ok = tt

  pub ends_as : (Now : LinkedSet X S → Type 0) (e : Option X) (x : Result (Bor X) (Refused X)) (old new : LinkedSet X S)
      → IfNone e (Now new) → (Is : X → Type 0) (Absent : Type 0) → Back e old new Is Absent → Found e x new → Kept e x
      → MatchResult x (λ _. Now new) (λ _. new ≡ old)
  ends_as Now None (Ok r) old new did Is Absent back ok err = did
  ends_as Now None (Err r) old new did Is Absent back ok err = search rules
  ends_as Now (Some k) (Ok r) old new did Is Absent back ok err = search rules
  ends_as Now (Some k) (Err r) old new did Is Absent back ok err = back.1

  pub is_refused : (e : Option X) (x : Result (Bor X) (Refused X)) (old new : LinkedSet X S) (Is : X → Type 0) (Absent : Type 0)
      → Back e old new Is Absent → Kept e x
      → IfErr x (λ refused. Is refused.item) × OnErr x Absent × OnErr x (length old.items ≡ old.capacity)
  is_refused e (Ok r) old new Is Absent back err = (tt, tt, tt)
  is_refused None (Err r) old new Is Absent back err = search rules
  is_refused (Some k) (Err r) old new Is Absent back err = (subst Is (some-inj err) back.0, back.2, back.3)
