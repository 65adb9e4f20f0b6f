-- The sessions that a closure keeps.
use Rattle.linked_hash_map.proofs.Names.{Bool, List, [], ap, arith, cond, filter, subst, ℕ, ◌+◌, ◌∙◌, ◌∷◌, ◌≡◌, ◌≤◌, IsSublist}
use Rattle.linked_hash_map.proofs.Names.{CallableOnEachSession, CalledAtSession, RetainsSessions, SomeCallAtSession, TakesSession}
use Rattle.linked_hash_map.proofs.Names.{weights_of, Session, total_weight, sessions_of, Weighted, map-append, MutBor, FoldsTo}
use Rattle.linked_hash_map.proofs.Names.{CallableOnEachPair, RetainsPairs, SomeCallAtPair, Mut}
use Rattle.linked_hash_map.proofs.{nodes.Retained.first-retained, session_table.Lists.total_weight-cons}

module _ {F T : Type 0} (g : Mut F (ℕ × (ℕ × (MutBor T × Unit {0}))) (Bool × (MutBor T × Unit {0}))) where
  -- those that pass a test, if each call returns that and leaves the payload as it was
  pub filter_same_sessions : (test : Session T → Bool) (f : F) (sessions kept : List (Session T))
      → ((session : Session T) (b : Bool) (payload : T) (f' : F) → CalledAtSession g f session b payload f'
      → (b ≡ test session) × (payload ≡ session.2) × (f' ≡ f))
      → RetainsSessions g f sessions kept → kept ≡ filter test sessions
  filter_same_sessions test f [] kept says r = r
  filter_same_sessions test f (session ∷ sessions) kept says r =
      let said = says session r.returned r.payload r.closure r.called in
      let kept_too = subst (λ h. RetainsSessions g h sessions r.rest) said.2 r.retained in
      let rest = filter_same_sessions test f sessions r.rest says kept_too in grind (arith, said, rest)

  -- whatever the closure does, some of the sessions stay, in order, each with its weight
  pub weights-retained : (f : F) (sessions kept : List (Session T))
      → RetainsSessions g f sessions kept → IsSublist (weights_of kept) (weights_of sessions)
  weights-retained f [] kept r = ap weights_of r
  weights-retained f (session ∷ sessions) kept r = grind (arith, weights-retained r.closure sessions r.rest r.retained)

  -- and they weigh no more
  pub total_weight-retained : (f : F) (sessions kept : List (Session T))
      → RetainsSessions g f sessions kept → total_weight kept ≤ total_weight sessions
  total_weight-retained f [] kept r = let none = ap total_weight r in omega (arith, none)
  total_weight-retained f (session ∷ sessions) kept r =
      grind (arith, total_weight-cons, total_weight-retained r.closure sessions r.rest r.retained)

-- the weight of the first of the sessions that pairs stand for, and of the others
pub total_weight-next : {T : Type 0} (pairs : List (ℕ × Weighted T)) (pair : ℕ × Weighted T) (rest : List (ℕ × Weighted T))
    → pairs ≡ pair ∷ rest → total_weight (sessions_of pairs) ≡ pair.1.weight + total_weight (sessions_of rest)
total_weight-next pairs pair rest is = ap (λ ps. total_weight (sessions_of ps)) is
    ∙ total_weight-cons (pair.0, pair.1.weight, pair.1.payload) (sessions_of rest)

-- what a closure over the pairs of a map keeps, if each of its calls is one of the closure over
-- sessions
module _ {C F T : Type 0} (calls : C → ℕ → Weighted T → Bool → Weighted T → C → Type 0)
    (g : Mut F (ℕ × (ℕ × (MutBor T × Unit {0}))) (Bool × (MutBor T × Unit {0}))) (inner : C → F)
    (says : (c : C) (id : ℕ) (weighted : Weighted T) (b : Bool) (left : Weighted T) (c' : C)
    → calls c id weighted b left c'
    → CalledAtSession g (inner c) (id, weighted.weight, weighted.payload) b left.payload (inner c')
    × (left.weight ≡ weighted.weight)) where
  sessions_of-cond : (b : Bool) (id : ℕ) (left : Weighted T) (pairs : List (ℕ × Weighted T))
      → sessions_of (cond b ((id, left) ∷ pairs) pairs) ≡ cond b ((id, left.weight, left.payload) ∷ sessions_of pairs) (sessions_of pairs)
  sessions_of-cond b id left pairs = grind arith

  pub sessions-retained : (c : C) (pairs kept : List (ℕ × Weighted T)) → RetainsPairs calls c pairs kept
      → RetainsSessions g (inner c) (sessions_of pairs) (sessions_of kept)
  sessions-retained c [] kept r = ap sessions_of r
  sessions-retained c (pair ∷ pairs) kept r =
      let of = first-retained calls c pair pairs kept r in
      grind (arith, sessions_of-cond, sessions-retained of.closure pairs of.rest of.retained)

  calls-sessions : (c : C) (pairs : List (ℕ × Weighted T)) (c' : C) → FoldsTo (SomeCallAtPair calls) c pairs c'
      → FoldsTo (SomeCallAtSession g) (inner c) (sessions_of pairs) (inner c')
  calls-sessions c [] c' end = ap inner end
  calls-sessions c (pair ∷ pairs) c' steps = grind (arith, calls-sessions steps.0 pairs c' steps.2)

  -- it may be called at each pair if the other may be called at each session
  pub callable-sessions : (Takes : C → ℕ → Weighted T → Type 0)
      → ((c : C) (id : ℕ) (weighted : Weighted T) → TakesSession g (inner c) (id, weighted.weight, weighted.payload) → Takes c id weighted)
      → (c : C) (pairs : List (ℕ × Weighted T)) → CallableOnEachSession g (inner c) (sessions_of pairs)
      → CallableOnEachPair calls Takes c pairs
  callable-sessions Takes takes c pairs callable =
      record {
        at = λ before after c' id weighted is steps.
            takes c' id weighted (callable.at (sessions_of before) (sessions_of after)
            (id, weighted.weight, weighted.payload) (inner c')
            (ap sessions_of is
            ∙ map-append (λ (pair : ℕ × Weighted T). (pair.0, pair.1.weight, pair.1.payload)) before ((id, weighted) ∷ after))
            (calls-sessions c before c' steps));
      }

  pub lighter-retained : (c : C) (pairs kept : List (ℕ × Weighted T)) → RetainsPairs calls c pairs kept
      → total_weight (sessions_of kept) ≤ total_weight (sessions_of pairs)
  lighter-retained c pairs kept r = grind (arith, total_weight-retained, sessions-retained)
