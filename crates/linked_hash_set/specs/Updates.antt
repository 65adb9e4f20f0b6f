-- What a call changes at one item.
use Rattle.std.specs.Prelude.{◌≡◌, Bool, false, List}
use Rattle.std.specs.List.{list_any}
use Rattle.linked_hash_set.specs.Items.{contains}

-- after the call the item that passes a test is present, or absent, and each other item is present
-- exactly if it was before
pub record Updates {T : Type 0} (eq : T → T → Bool) (before after : List T) (is_item : T → Bool)
    (present : Bool) : Type 0 where
  pub here : list_any is_item after ≡ present
  pub others : (q : T) → is_item q ≡ false → contains eq after q ≡ contains eq before q
