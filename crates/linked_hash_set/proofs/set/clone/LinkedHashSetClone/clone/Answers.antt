use Rattle.std.proofs.Common.{List, [], ◌∷◌, refl, sym, ap, ◌∙◌, arith}
use Rattle.std.{specs.List.AllZip, specs.Map.keys_of, proofs.lemmas.Map.Entries.length-keys_of}
use Rattle.linked_hash_map.specs.Clones.{AreClones}
use Rattle.linked_hash_set.proofs.Kept.{keys_of-insert_each}
use Rattle.linked_hash_set.proofs.set.clone.LinkedHashSetClone.clone.Goals as goal

module _ {T V : Type 0} where
  AllZip-keys_of : (C : T → T → Type 0) (D : V → V → Type 0) (ps qs : List (T × V))
      → AreClones C D ps qs → AllZip C (keys_of ps) (keys_of qs)
  AllZip-keys_of C D (p ∷ ps) (q ∷ qs) are = (are.0.0, AllZip-keys_of C D ps qs are.1)
  AllZip-keys_of C D [] [] are = tt
  AllZip-keys_of C D ps qs are = are

pub returns : goal.returns
returns g c =
    let is = c.in_ok-clone.ensures.cases in
    record {
      cases = rw (← c.self.view_is) (record {
        items = (keys_of is.pairs.0, AllZip-keys_of _ _ _ _ is.pairs.1, ap keys_of is.pairs.2 ∙ keys_of-insert_each _ refl [] is.pairs.0);
        capacity = is.capacity ∙ sym (length-keys_of _);
        hasher = is.hasher;
        valid = grind (arith, length-keys_of, is.valid);
        in_order = λ same. AllZip-keys_of _ _ _ _ (is.in_order same);
        same_items = λ same. ap keys_of (is.same_pairs same (λ v clone told. refl));
      });
    }
