-- What `retain` asks of its closure, which is called at the items in order.
use Rattle.std.specs.Prelude.{◌≡◌, Bool, List, ◌∷◌, ◌++◌}
use Rattle.std.specs.List.{FoldsTo}

module _ {F T : Type 0} (calls : F → T → Bool → F → Type 0) where
  -- a call of f at x may leave f'
  abbrev pub SomeCallAt : F → T → F → Type 0
  SomeCallAt f x f' = (b : Bool) × calls f x b f'

  -- the closure takes each item, as the calls at the items before have left it
  pub record CallableOnEach (takes : F → T → Type 0) (f : F) (items : List T) : Type 0 where
    pub at : (before after : List T) (f' : F) (x : T) → items ≡ before ++ x ∷ after
        → FoldsTo SomeCallAt f before f' → takes f' x
