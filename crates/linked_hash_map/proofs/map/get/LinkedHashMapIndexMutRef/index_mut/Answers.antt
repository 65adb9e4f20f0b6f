use Rattle.linked_hash_map.proofs.Names.{refl, sym}
use Rattle.linked_hash_map.proofs.map.get.LinkedHashMapIndexMutRef.index_mut.Goals as goal

pub returns : goal.returns
returns g c =
    let lent = c.in-Some.ensures in (
      (refl, λ w. refl),
      record {
        writes_back = tt;
        value = sym lent.value;
        valid = lent.valid;
        updates = lent.updates;
        stays_valid = lent.stays_valid;
      },
    )
