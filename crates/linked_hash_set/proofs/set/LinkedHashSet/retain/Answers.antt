use Rattle.std.proofs.Common.{suc, Bool, List, [], ◌∷◌, Bor, MutBor, refl, sym, ap, subst, ◌∙◌, arith, rules}
use Rattle.std.proofs.lemmas.List.{map-append}
use Rattle.std.specs.Map.Calls.{SomeCallAtPair, CallableOnEachPair, RetainsPairs}
use Rattle.std.specs.{Fn.CalledAt, Fn.TakesAt, List.FoldsTo, List.Retain.IsFiltered, Map.keys_of}
use Rattle.linked_hash_set.specs.Retains.{SomeCallAt, CallableOnEach}
use denote.Param.Members.{Mut}
use Rattle.linked_hash_set.proofs.set.LinkedHashSet.retain.Goals as goal

-- the items that a closure takes and keeps, by what a call of the map's closure says of it
module _ {F T C V : Type 0} (g : Mut F (Bor T × Unit {0}) Bool) (inner : C → F)
    (calls : C → T → V → Bool → V → C → Type 0) (says : (c : C) (k : T) (v : V) (b : Bool) (w : V)
    (d : C) → calls c k v b w d → CalledAt g (inner c) k b (inner d)) where
  items-called : (c d : C) (pairs : List (T × V)) → FoldsTo (SomeCallAtPair calls) c pairs d
      → FoldsTo (SomeCallAt (CalledAt g)) (inner c) (keys_of pairs) (inner d)
  items-called c d [] end = ap inner end
  items-called c d (pair ∷ pairs) steps =
      let e = steps.0 in
      let call = steps.1 in
      (inner e, (call.0, says c pair.0 pair.1 call.0 call.1 e call.2), items-called e d pairs steps.2)

  callable-items : (takes : C → T → V → Type 0)
      → ((c : C) (k : T) (v : V) → TakesAt g (inner c) k → takes c k v)
      → (c : C) (pairs : List (T × V))
      → CallableOnEach (CalledAt g) (TakesAt g) (inner c) (keys_of pairs)
      → CallableOnEachPair calls takes c pairs
  callable-items takes allows c pairs callable =
      record {
        at = λ before after d k v is steps. allows d k v
            (callable.at (keys_of before) (keys_of after) (inner d) k
            (ap keys_of is ∙ map-append (λ (pair : T × V). pair.0) before ((k, v) ∷ after))
            (items-called c d before steps));
      }

  items-retained : (c : C) (pairs kept : List (T × V)) → RetainsPairs calls c pairs kept
      → IsFiltered (CalledAt g) (inner c) (keys_of pairs) (keys_of kept)
  items-retained c [] kept r = ([], inner c, refl, refl, ap keys_of r)
  items-retained c (pair ∷ pairs) kept (b, w, d, rest, called, r, is) =
      let tail = items-retained d pairs rest r in
      (b ∷ tail.0, tail.1, ap suc tail.2, (inner d, says c pair.0 pair.1 b w d called, tail.3), grind (arith, tail.4, ap keys_of is))

pub retain-requires : goal.retain-requires
retain-requires g c =
    callable-items g.F.FnMut (λ (s : record { 0 : MutBor g.row.F.Denot }). s.0.now) _
    (λ s k v b w d call. search rules)
    _ (λ s k v takes key value is_key is_value. λ shown shows. takes shown (shows ∙ is_key)) _ _
    (subst (λ items. CallableOnEach (CalledAt g.F.FnMut) (TakesAt g.F.FnMut) c.args.keep items)
    (ap (λ s. s.items) (sym c.self.view_is)) c.requires)

pub returns-clause-items : goal.returns-clause-items
returns-clause-items g c = rw (← c.self.view_is) (items-retained g.F.FnMut
    (λ (s : record { 0 : MutBor g.row.F.Denot }). s.0.now) _ (λ s k v b w d call. search rules)
    _ _ _ c.retain.ensures.pairs)
