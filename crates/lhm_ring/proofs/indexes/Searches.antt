-- The steps of a search along a chain.
use Rattle.lhm_ring.proofs.Names.{Bool, Compares, DifferAll, FindsKey, FindsNone, HasChains, Held, IsHeld, IsOnChain, IsPart, IsRearranged}
use Rattle.lhm_ring.proofs.Names.{List, None, OfNodeAt, Option, Ptr, Some, Spot, [], ap, append-nil, append_assoc, arith, cond, count_by}
use Rattle.lhm_ring.proofs.Names.{count_by-le-length, count_in_bucket, count_with_hash, eqb, eqb-true, false, filter, get_or, inl, inr}
use Rattle.lhm_ring.proofs.Names.{is_in, length, length-append, length-filter, length-map, not, refl, spot, spots, subst, sym, true, ℕ}
use Rattle.lhm_ring.proofs.Names.{◌%◌, ◌&&◌, ◌++◌, ◌+◌, ◌<◌, ◌∙◌, ◌∷◌, ◌≡◌, ◌≤◌}
use Rattle.lhm_ring.proofs.indexes.Chains.{ChainFirst-some, IsChain-tail, none-IsChain}
use Rattle.lhm_ring.proofs.indexes.IndexTakes.{IsHeld-on_chain, OnNode-on_chain}
use Rattle.lhm_ring.proofs.indexes.Spots.{IsHeld-spot, OfNodeAt-spot, OnNode-rearranged, PutsIn-bucket, SplitAround-rearranged}
use Rattle.lhm_ring.proofs.lists.{Rearranged.length-IsRearranged, RearrangedCounts.count_by-append, RearrangedCounts.count_by-filter}
use Rattle.std.proofs.lemmas.Bool.Decides.{eqb_tells}

-- ---- counts in the chain

-- the nodes of a hash are all in its bucket
pub count_with_hash-chain : (chain xs : List Spot) (n hash : ℕ) → IsRearranged chain (filter (is_in n (hash % n)) xs)
    → count_with_hash chain hash ≡ count_with_hash xs hash
count_with_hash-chain chain xs n hash h =
    let same : (x : Spot) → (is_in n (hash % n) x && eqb x.hash hash) ≡ eqb x.hash hash = λ x. grind arith in
    h (λ x. eqb x.hash hash) ∙ count_by-filter (λ x. eqb x.hash hash) (is_in n (hash % n)) xs ∙ (λ i. count_by (λ x. same x i) xs)

pub length-chain : (chain xs : List Spot) (n hash : ℕ)
    → IsRearranged chain (filter (is_in n (hash % n)) xs) → length chain ≡ count_in_bucket xs n hash
length-chain chain xs n hash h = length-IsRearranged chain (filter (is_in n (hash % n)) xs) h ∙ length-filter (is_in n (hash % n)) xs

-- ---- the search

-- the head of a chain is held
pub IsHeld-head : {K V : Type 0} {heads : List (Option Ptr)} {nodes : List (Held (K × V))} {p : Ptr} (bucket : ℕ) → bucket < length heads
    → HasChains heads (spots nodes) → get_or heads bucket None ≡ Some p → IsHeld nodes p
IsHeld-head {heads = heads} {nodes = nodes} {p = p} bucket within i head =
    let h = i.chains bucket within in
    let b = ChainFirst-some p h.chain head h.linked in
    IsHeld-spot (OnNode-rearranged (length heads) bucket [] b.node b.after nodes h.holds b.is).of b.at_is

DifferAll-push : {K V : Type 0} (is_key : K → Bool) (hash : ℕ) (nodes : List (Held (K × V))) (ss : List Spot) (s : Spot)
    → DifferAll is_key hash nodes ss → OfNodeAt nodes s.at (λ x. Compares is_key hash x false) → DifferAll is_key hash nodes (ss ++ s ∷ [])
DifferAll-push is_key hash nodes [] s h k = (k, tt)
DifferAll-push is_key hash nodes (x ∷ ss) s h k = (h.0, DifferAll-push is_key hash nodes ss s h.1 k)

-- a search that stands at p
module _ {K V : Type 0} {is_key : K → Bool} {hash : ℕ} {heads : List (Option Ptr)} {nodes : List (Held (K × V))}
    {before pointer : Option Ptr} {p : Ptr} {visited compared : ℕ} (w : IsPart is_key hash heads nodes before pointer visited compared)
    (some : pointer ≡ Some p) where
  abbrev IsOnChain-part : IsOnChain heads hash (spots nodes) before p
  IsOnChain-part =
      let b = ChainFirst-some p w.rest some w.next_is in
      record {
        done = w.done;
        here = b.node;
        rest = b.after;
        linked = rw (← b.is) w.linked;
        holds = rw (← b.is) w.holds;
        behind = w.behind;
        at_is = b.at_is;
      }

  pub IsHeld-part : IsHeld nodes p
  IsHeld-part = IsHeld-on_chain IsOnChain-part

  here-part : (Q : Spot → Type 0) → OfNodeAt nodes p (λ x. Q (spot x)) → Q IsOnChain-part.here
  here-part Q f = OfNodeAt-spot Q (OnNode-on_chain IsOnChain-part).of IsOnChain-part.at_is f

  -- one more is visited
  visited-more : visited + 1 + length IsOnChain-part.rest ≡ count_in_bucket (spots nodes) (length heads) hash
  visited-more =
      let b = IsOnChain-part in
      let all = length-chain (b.done ++ b.here ∷ b.rest) (spots nodes) (length heads) hash b.holds in
      let sum : length (b.done ++ b.here ∷ b.rest) ≡ length b.done + (1 + length b.rest) =
      length-append b.done (b.here ∷ b.rest) ∙ omega arith in
      omega (arith, w.visited_is)

  pub visited-below : visited + 1 ≤ length nodes
  visited-below = grind (arith, count_by-le-length, visited-more, length-map)

  -- its node is visited, and compared
  module _ {visited' compared' : ℕ} {equal : Bool} (v : visited' ≡ visited + 1)
      (c : OfNodeAt nodes p (λ x. compared' ≡ compared + count_with_hash (spot x ∷ []) hash))
      (d : OfNodeAt nodes p (λ x. Compares is_key hash x equal)) where
    compared-here : compared' ≡ compared + count_with_hash (IsOnChain-part.here ∷ []) hash
    compared-here = here-part (λ s. compared' ≡ compared + count_with_hash (s ∷ []) hash) c

    pub IsPart-more : {link : Option Ptr} → equal ≡ false → OfNodeAt nodes p (λ x. link ≡ x.link)
        → IsPart is_key hash heads nodes (Some p) link visited' compared'
    IsPart-more {link} off l =
        let b = IsOnChain-part in
        let assoc = append_assoc b.done (b.here ∷ []) b.rest in
        let len = length-append b.done (b.here ∷ []) in
        let ca = count_by-append (λ s. eqb s.hash hash) b.done (b.here ∷ []) in
        record {
          done = b.done ++ b.here ∷ [];
          rest = b.rest;
          linked = rw assoc b.linked;
          holds = rw assoc b.holds;
          next_is = rw (here-part (λ s. link ≡ s.link) l) (IsChain-tail _ b.done b.here b.rest b.linked);
          behind = inr (record { before = b.done; node = b.here; is = refl; at_is = ap Some b.at_is });
          visited_is = (omega (arith, v, w.visited_is, len));
          compared_is = (omega (arith, compared-here, w.compared_is, ca));
          differ = DifferAll-push is_key hash nodes b.done b.here w.differ (λ xs x ys i j. sym off ∙ d xs x ys i (j ∙ b.at_is));
        }

    pub FindsKey-part : equal ≡ true → FindsKey is_key hash heads nodes before p visited' compared'
    FindsKey-part on =
        let b = IsOnChain-part in
        let hit : OfNodeAt nodes p (λ x. eqb x.hash hash ≡ true) =
        λ xs x ys i j. let c = d xs x ys i j in grind arith in
        let unit = ap (λ u. 0 + cond {A = ℕ} u 1 0) (here-part (λ s. eqb s.hash hash ≡ true) hit) in
        let one = compared-here in
        let split = count_by-append (λ u. eqb u.hash hash) b.done (b.here ∷ b.rest) in
        let first = count_by-append (λ u. eqb u.hash hash) (b.here ∷ []) b.rest in
        let all = count_with_hash-chain (b.done ++ b.here ∷ b.rest) (spots nodes) (length heads) hash b.holds in
        let few = count_by-le-length (λ u. eqb u.hash hash) b.done in
        record {
          on = b;
          has = record {
            held = IsHeld-part;
            hash_is = λ xs x ys i j. eqb-true x.hash hash (hit xs x ys i j);
            key_is = λ xs x ys i j. let c = d xs x ys i j in grind arith;
          };
          counts = record {
            some = omega arith;
            compared_few = omega (arith, w.compared_is);
            order = omega (arith, w.visited_is, w.compared_is);
            visited_few = omega (arith, visited-more);
          };
        }

  -- its node has another hash, and the key is not compared
  pub IsPart-passed : (other : ℕ) (follows : Bool) {link : Option Ptr} → OfNodeAt nodes p (λ x. other ≡ x.hash)
      → (not (eqb other hash) && follows) ≡ true → OfNodeAt nodes p (λ x. link ≡ x.link)
      → IsPart is_key hash heads nodes (Some p) link (visited + 1) compared
  IsPart-passed other follows h t l = grind (arith, IsPart-more)

OfNodeAt-differs : {K V : Type 0} (is_key : K → Bool) (hash : ℕ) (nodes : List (Held (K × V))) (us : List Spot) (s : Spot) (vs : List Spot)
    → DifferAll is_key hash nodes (us ++ s ∷ vs) → OfNodeAt nodes s.at (λ x. Compares is_key hash x false)
OfNodeAt-differs is_key hash nodes [] s vs h = h.0
OfNodeAt-differs is_key hash nodes (u ∷ us) s vs h = OfNodeAt-differs is_key hash nodes us s vs h.1

module _ {K V : Type 0} {is_key : K → Bool} {hash : ℕ} {heads : List (Option Ptr)} {nodes : List (Held (K × V))}
    {before pointer : Option Ptr} {visited compared : ℕ} where
  pub FindsNone-part : IsPart is_key hash heads nodes before pointer visited compared → pointer ≡ None
      → FindsNone is_key hash heads nodes visited compared
  FindsNone-part w none =
      let n = length heads in
      let q = is_in n (hash % n) in
      let whole : w.done ++ w.rest ≡ w.done = ap (λ v. w.done ++ v) (none-IsChain w.rest none w.next_is) ∙ append-nil w.done in
      let h : IsRearranged w.done (filter q (spots nodes)) = rw (← whole) w.holds in
      record {
        absent = λ before' x after' e.
            elim (eqb_tells x.hash hash) [
              | inl t ↦
                  let m = SplitAround-rearranged w.done (spot x) (filter q (spots (before' ++ after'))) (filter q (spots nodes)) h
                  (PutsIn-bucket before' x after' e n (sym t.1)) in
                  let d = subst (DifferAll is_key hash nodes) m.is w.differ in
                  OfNodeAt-differs is_key hash nodes m.before (spot x) m.after d before' x after' e refl
              | inr t ↦ ap (λ u. u && is_key x.pair.0) (sym t.0)
            ];
        counts = record {
          visited_all = w.visited_is ∙ length-chain w.done (spots nodes) n hash h;
          compared_all = w.compared_is ∙ count_with_hash-chain w.done (spots nodes) n hash h;
        };
      }

  -- before the first node of the chain
  pub IsPart-first : before ≡ None → pointer ≡ get_or heads (hash % length heads) None → visited ≡ 0 → compared ≡ 0
      → hash % length heads < length heads → HasChains heads (spots nodes) → IsPart is_key hash heads nodes before pointer visited compared
  IsPart-first first is none_visited none_compared within i =
      let h = i.chains (hash % length heads) within in
      record {
        done = [];
        rest = h.chain;
        linked = h.linked;
        holds = h.holds;
        next_is = rw is h.linked;
        behind = inl (refl, first);
        visited_is = none_visited;
        compared_is = none_compared;
        differ = tt;
      }
