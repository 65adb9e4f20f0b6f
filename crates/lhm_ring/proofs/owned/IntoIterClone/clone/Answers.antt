use Rattle.lhm_ring.proofs.Names.{List, [], ap, append-nil, append_assoc, arith, length, refl, subst, sym, ℕ, ◌++◌, ◌∙◌, ◌∷◌, ◌≡◌, Held}
use Rattle.lhm_ring.proofs.{Names.IsTripleClone, Names.triples, Names.AllZip, rings.Ends.AllZip-last, rings.Ends.triples-pushed}
use Rattle.std.proofs.lemmas.Result.{MatchResult-from_err}
use Rattle.lhm_ring.proofs.owned.IntoIterClone.clone.Goals as goal

pub loop-hash-init : goal.loop-hash-init
loop-hash-init g c =
    let all = c.into_iter-hash-iterator.ensures.into_iter_gives ∙ c.iter-hash-items.ensures in
    record {
      first = [];
      split = sym c.self.view_is ∙ ap triples (sym all);
      each = subst (λ (hs : List (Held (g.row.K.Denot × g.row.V.Denot))). AllZip
          {A = ℕ × (g.row.K.Denot × g.row.V.Denot)}
          (IsTripleClone g.K.Clone.is_clone g.V.Clone.is_clone) [] (triples hs))
          (sym c.in_ok-ring.ensures.empty) tt;
      room = c.in_ok-ring.ensures.spares ∙ c.len.ensures.value ∙ ap length (sym all);
    }

pub loop-hash-preserved : goal.loop-hash-preserved
loop-hash-preserved g c =
    let inv = c.loop-hash.invariant in
    let step = c.in-Some.ensures.steps.is in
    let triple : ℕ × (g.row.K.Denot × g.row.V.Denot) = (c.in-Some.hash, (c.in-Some.key.now, c.in-Some.value.now)) in
    let long = ap length step in
    record {
      first = inv.first ++ triple ∷ [];
      split = inv.split ∙ ap (λ hs. inv.first ++ triples hs) step ∙ sym (append_assoc inv.first (triple ∷ []) (triples c.next.new.self));
      each = subst (AllZip {B = ℕ × (g.row.K.Denot × g.row.V.Denot)}
          (IsTripleClone g.K.Clone.is_clone g.V.Clone.is_clone) (inv.first ++ triple ∷ []))
          (sym (triples-pushed c.put_back.new.self.held c.loop-hash.ring.held _ c.put_back.ensures.last))
          (AllZip-last _ inv.first (triples c.loop-hash.ring.held) triple
          (c.in-Some.hash, (c.in_ok-clone.field-0, c.in_ok-clone-2.field-0)) inv.each
          (record { hash = refl; key = c.in_ok-clone.ensures.cases; value = c.in_ok-clone-2.ensures.cases }));
      room = omega (arith, c.put_back.ensures.spares, inv.room, long);
    }

pub returns : goal.returns
returns g c =
    let inv = c.loop-hash.invariant in
    let all = inv.split ∙ ap (λ hs. inv.first ++ triples hs) c.in-None.ensures.steps.0 ∙ append-nil inv.first in
    record {
      cases = subst (AllZip (IsTripleClone g.K.Clone.is_clone g.V.Clone.is_clone) c.args.self.now) (sym c.new.ensures)
          (subst (λ (ts : List (ℕ × (g.row.K.Denot × g.row.V.Denot))). AllZip
          (IsTripleClone g.K.Clone.is_clone g.V.Clone.is_clone) ts (triples c.loop-hash.ring.held))
          (sym all) inv.each);
    }

-- something is left to clone, so the clone is not of nothing
some_left : {B : Type 0} (all first : List (ℕ × B)) (hs : List (Held B)) (t : Held B)
    (ts : List (Held B)) → all ≡ first ++ triples hs → hs ≡ t ∷ ts → all ≡ [] → ⊥
some_left all [] [] t ts e h n = absurd (cc)
some_left all [] (u ∷ us) t ts e h n = absurd (cc)
some_left all (x ∷ xs) hs t ts e h n = absurd (cc)

pub returns-in_err-clone : goal.returns-in_err-clone
returns-in_err-clone g c =
    let some = some_left c.args.self.now c.loop-hash.invariant.first _ _ _ c.loop-hash.invariant.split c.in-Some.ensures.steps.is in
    record { cases = MatchResult-from_err _ _ _ c.from_residual-in_err-clone.ensures.0 (λ e. some) }

pub returns-in_err-clone-2 : goal.returns-in_err-clone-2
returns-in_err-clone-2 g c =
    let some = some_left c.args.self.now c.loop-hash.invariant.first _ _ _ c.loop-hash.invariant.split c.in-Some.ensures.steps.is in
    record { cases = MatchResult-from_err _ _ _ c.from_residual-in_err-clone-2.ensures.0 (λ e. some) }
