-- What a closure is handed of a table: sessions, each with its payload.
use Rattle.std.specs.Prelude.{◌≡◌, ℕ, List, ◌∷◌, ◌++◌}
use Rattle.std.specs.Fn.{Called, Takes}
use Rattle.std.specs.List.{FoldsTo}
use denote.Param.Members.{Mut}
use Rattle.linked_hash_map.specs.SessionTables.{Session}

module _ {F T : Type 0} (g : Mut F (ℕ × (ℕ × (T × Unit {0}))) (Unit {0})) where
  -- a call of f with the session may leave f'
  pub record CalledWithSession (f : F) (session : Session T) (f' : F) : Type 0 where
    pub called : Called g f (session.0, (session.1, (session.2, tt))) tt f'

  -- f was called with each session in turn, once, and the calls left it as `last`
  abbrev pub CalledWithEachSession : F → List (Session T) → Type 0
  CalledWithEachSession f sessions = (last : F) × FoldsTo CalledWithSession f sessions last

  -- the closure may be called with each session, as the calls before have left it
  pub record CallableWithEachSession (f : F) (sessions : List (Session T)) : Type 0 where
    pub at : (before after : List (Session T)) (session : Session T) (f' : F)
        → sessions ≡ before ++ session ∷ after → FoldsTo CalledWithSession f before f'
        → Takes g f' (session.0, (session.1, (session.2, tt)))
