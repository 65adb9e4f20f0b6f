-- A table as a closure goes over its pairs and keeps some.
use Rattle.lhm_ring.proofs.Names.{AtHeld, Bool, BucketState, CallableOnEachPair, CallsAt, Held, IsApart, IsHeld, IsTable, List, None}
use Rattle.lhm_ring.proofs.Names.{Option, Ptr, RetainsAt, RetainsHeld, Some, SomeCallAtPair, State, TableState, TakesAt, WritesOnly, []}
use Rattle.lhm_ring.proofs.Names.{ap, append_assoc, ap₂, arith, change_at, cond, false, first_at, length, map, refl, remove, revalued}
use Rattle.lhm_ring.proofs.Names.{same_ptr, subst, sym, table_of, true, ℕ, ◌++◌, ◌<◌, ◌∙◌, ◌∷◌, ◌≡◌}
use Rattle.lhm_ring.proofs.lists.Apart.{IsApart-tail, IsFresh-head, same_ptr-reflexive}
use Rattle.lhm_ring.proofs.rings.Contents.{pointers_of, pointers_of-append}
use Rattle.lhm_ring.proofs.rings.{Ends.First, Ends.First-first_at, HeldPointers.IsApart-without_node}
use Rattle.lhm_ring.proofs.tables.Positions.{IsAt-split, remove-append}
use Rattle.lhm_ring.{proofs.indexes.Entries.EntriesCut-split, proofs.lists.Cuts.same_ptr-fresh, specs.Positions.IsAt}

-- how many are held from the one at a pointer on
abbrev pub left_from : {B : Type 0} → Option Ptr → List (Held B) → ℕ
left_from None hs = 0
left_from (Some p) [] = 0
left_from (Some p) (t ∷ hs) = cond (same_ptr t.at p) (length (t ∷ hs)) (left_from (Some p) hs)

module _ {F K V : Type 0} (T : F → K → V → Bool → V → F → Type 0) where
  -- the closure, which was start, has been called at some of the pairs in old, and is now f; the
  -- rest begins at next
  pub record IsRetaining (Q : F → K → V → Type 0) (start : F) (old : List (Held (K × V))) (f : F)
      (now : List (Held (K × V))) (next : Option Ptr) : Type 0 where
    pub kept : List (Held (K × V))
    pub rest : List (Held (K × V))
    pub now_is : now ≡ kept ++ rest
    pub next_is : next ≡ first_at rest
    pub callable : CallableOnEachPair T Q f (map (λ t. t.pair) rest)
    pub ends : (last : List (Held (K × V))) → RetainsHeld T f rest last
        → RetainsHeld T start old (kept ++ last)

-- how many are left, if no two lie at one pointer
module _ {B : Type 0} where
  pub left_from-append : (xs ys : List (Held B)) → IsApart (pointers_of (xs ++ ys)) → left_from (first_at ys) (xs ++ ys) ≡ length ys
  left_from-append xs [] d = refl
  left_from-append [] (y ∷ ys) d = grind (arith, same_ptr-reflexive)
  left_from-append (x ∷ xs) (y ∷ ys) d =
      let other = same_ptr-fresh (λ t. t.at) x.at xs y ys (IsFresh-head x.at (pointers_of (xs ++ y ∷ ys)) d) in
      grind (arith, left_from-append xs (y ∷ ys) (IsApart-tail x.at (pointers_of (xs ++ y ∷ ys)) d))

-- a table that is seen as m: if the closure may be called at one of its pairs, it may at that of
-- the ring
pub TakesAt-table : {F K V : Type 0} (Q : F → K → V → Type 0) (f : F) {p : Ptr} {i : BucketState} {s : State (K × V)} {r : ℕ}
    → IsTable i s r → {m : TableState (K × V)} → table_of s r ≡ m → TakesAt Q f m.held p → TakesAt Q f s.held p
TakesAt-table {K = K} {V} Q f {s = s} table seen h =
    let at = h.held in
    let i = (EntriesCut-split s.held at.before at.node at.after (ap (λ (z : TableState (K × V)). z.held) seen ∙ at.is)).split in
    record {
      held = record {
        before = i.before;
        node = i.node;
        after = i.after;
        is = i.is;
        at_is = ap (λ (t : Held (K × V)). t.at) i.at_is ∙ at.at_is;
      };
      takes = subst (λ (t : Held (K × V)). Q f t.pair.0 t.pair.1) (sym i.at_is) h.takes;
    }

-- one call, after which the pair stays with its value or is removed
module _ {F K V : Type 0} (T : F → K → V → Bool → V → F → Type 0) {f f' : F}
    {old now : List (Held (K × V))} {p : Ptr} {b : Bool} {w : V} where
  pub RetainsAt-kept : CallsAt T f old p b w f' → WritesOnly old p
      → now ≡ change_at p (revalued w) old → b ≡ true → RetainsAt T f old p now f'
  RetainsAt-kept called alone written kept = record {
    returned = b;
    value = w;
    called = called;
    new_is = λ xs t ys e at. written ∙ alone xs t ys e at w ∙ grind arith;
  }

  pub RetainsAt-removed : {new : List (Held (K × V))} → CallsAt T f old p b w f' → WritesOnly old p → now ≡ change_at p (revalued w) old
      → b ≡ false → ((i : ℕ) → IsAt now p i → new ≡ remove now i) → RetainsAt T f old p new f'
  RetainsAt-removed called alone written removed others = record {
    returned = b;
    value = w;
    called = called;
    new_is = λ xs t ys e at. let is = written ∙ alone xs t ys e at w in
        let out = others (length xs) (IsAt-split xs (revalued w t) ys is at) in grind (arith, remove-append);
  }

pub IsHeld-written : {K V : Type 0} {old now : List (Held (K × V))} {p : Ptr} (w : V)
    → WritesOnly old p → now ≡ change_at p (revalued w) old → IsHeld old p → IsHeld now p
IsHeld-written w alone written h =
    record { before = h.before; node = revalued w h.node; after = h.after; is = grind arith; at_is = h.at_is }

-- the closure may be called at the pairs behind the first
module _ {F K V : Type 0} {T : F → K → V → Bool → V → F → Type 0} {Q : F → K → V → Type 0} where
  CallableOnEachPair-rest : {f f' : F} {pair : K × V} {pairs : List (K × V)} → CallableOnEachPair T Q f (pair ∷ pairs)
      → SomeCallAtPair T f pair f' → CallableOnEachPair T Q f' pairs
  CallableOnEachPair-rest {f' = f'} {pair} c called =
      record { at = λ before after g k v is run. c.at (pair ∷ before) after g k v (ap (λ l. pair ∷ l) is) (f', called, run) }

  pub IsRetaining-start : {f : F} {hs : List (Held (K × V))} {next : Option Ptr} → CallableOnEachPair T Q f (map (λ t. t.pair) hs)
      → next ≡ first_at hs → IsRetaining T Q f hs f hs next
  IsRetaining-start {f} {hs} c is = record { kept = []; rest = hs; now_is = refl; next_is = is; callable = c; ends = λ last r. r }

  module _ {start f : F} {old now : List (Held (K × V))} {next : Option Ptr} (m : IsRetaining T Q start old f now next) where
    -- no pair is left
    pub RetainsHeld-end : next ≡ None → RetainsHeld T start old now
    RetainsHeld-end none = grind arith

    -- the pair at p is the next
    module _ {p : Ptr} (some : next ≡ Some p) where
      abbrev pub n : First m.rest p
      n = First-first_at m.rest m.next_is some

      pub now-cut : now ≡ m.kept ++ n.node ∷ n.after
      now-cut = m.now_is ∙ ap (λ l. m.kept ++ l) n.is

      abbrev pub next_held : IsHeld now p
      next_held = record { before = m.kept; node = n.node; after = n.after; is = now-cut; at_is = n.at_is }

      CallableOnEachPair-now : CallableOnEachPair T Q f (n.node.pair ∷ map (λ t. t.pair) n.after)
      CallableOnEachPair-now = subst (λ l. CallableOnEachPair T Q f (map (λ t. t.pair) l)) n.is m.callable

      pub TakesAt-next : TakesAt Q f now p
      TakesAt-next = record { held = next_held; takes = CallableOnEachPair-now.at [] _ f _ _ refl refl }

      module _ {f' : F} {new : List (Held (K × V))} {next' : Option Ptr}
          (made : RetainsAt T f now p new f')
          (follows : AtHeld now p (λ xs t ys. next' ≡ first_at ys)) where
        abbrev kept' : List (Held (K × V))
        kept' = cond made.returned (m.kept ++ revalued made.value n.node ∷ []) m.kept

        call : T f n.node.pair.0 n.node.pair.1 made.returned made.value f'
        call = made.called m.kept n.node n.after now-cut n.at_is

        append-cond : (b : Bool) (u : Held (K × V)) (ys : List (Held (K × V)))
            → cond b (m.kept ++ u ∷ []) m.kept ++ ys ≡ m.kept ++ cond b (u ∷ ys) ys
        append-cond b u ys = grind (arith, append_assoc)

        new-kept : new ≡ kept' ++ n.after
        new-kept = made.new_is m.kept n.node n.after now-cut n.at_is ∙ sym (append-cond made.returned (revalued made.value n.node) n.after)

        next-new : next' ≡ first_at n.after
        next-new = follows m.kept n.node n.after now-cut n.at_is

        pub IsRetaining-step : IsRetaining T Q start old f' new next'
        IsRetaining-step = record {
          kept = kept';
          rest = n.after;
          now_is = new-kept;
          next_is = next-new;
          callable = CallableOnEachPair-rest CallableOnEachPair-now (made.returned, made.value, call);
          ends = λ last r.
              subst (RetainsHeld T start old) (sym (append-cond made.returned (revalued made.value n.node) last))
              (m.ends (cond made.returned (revalued made.value n.node ∷ last) last)
              (subst (λ l. RetainsHeld T f l (cond made.returned (revalued made.value n.node ∷ last)
              last)) (sym n.is) (record {
                returned = made.returned;
                value = made.value;
                closure = f';
                rest = last;
                called = call;
                retained = r;
                kept_is = refl;
              })));
        }

        IsApart-new : (b : Bool) (w : V) → IsApart (pointers_of (m.kept ++ n.node ∷ n.after))
            → IsApart (pointers_of (m.kept ++ cond b (revalued w n.node ∷ n.after) n.after))
        IsApart-new b w d = grind (arith, pointers_of-append, IsApart-without_node)

        pub left_from-smaller : IsApart (pointers_of now) → left_from next' new < left_from next now
        left_from-smaller d =
            let apart = subst (λ l. IsApart (pointers_of l)) now-cut d in
            let left = left_from-append m.kept (n.node ∷ n.after) apart in
            let right = left_from-append kept' n.after (subst (λ l. IsApart (pointers_of l))
            (sym (append-cond made.returned (revalued made.value n.node) n.after)) (IsApart-new made.returned made.value apart)) in
            omega (arith, ap₂ left_from (m.next_is ∙ ap first_at n.is) now-cut ∙ left, ap₂ left_from next-new new-kept ∙ right)
