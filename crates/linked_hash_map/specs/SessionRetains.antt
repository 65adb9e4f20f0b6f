-- What a closure did with the sessions of a table.
use Rattle.std.specs.Prelude.{◌≡◌, ℕ, Bool, cond, List, [], ◌∷◌, ◌++◌, map}
use Rattle.std.specs.Borrow.{MutBor}
use Rattle.std.specs.Fn.{Called, Takes}
use Rattle.std.specs.List.{FoldsTo}
use denote.Param.Members.{Mut}
use Rattle.linked_hash_map.specs.SessionTables.{Session}

-- the ids and the weights of the sessions, in order
abbrev pub weights_of : {T : Type 0} → List (Session T) → List (ℕ × ℕ)
weights_of sessions = map (λ session. (session.0, session.1)) sessions

module _ {F T : Type 0} (g : Mut F (ℕ × (ℕ × (MutBor T × Unit {0}))) (Bool × (MutBor T × Unit {0})))
  where
    -- a call of f at the id, the weight and a `&mut` to the payload of a session may return b, and
    -- leave this payload there and f as f'
    pub record CalledAtSession (f : F) (session : Session T) (b : Bool) (payload : T) (f' : F) :
        Type
        0 where
      pub lent : MutBor T
      pub shows : lent.now ≡ session.2
      pub left : MutBor T
      pub called : Called g f (session.0, (session.1, (lent, tt))) (b, (left, tt)) f'
      pub leaves : left.now ≡ payload

    -- f may be called at the session
    abbrev pub TakesSession : F → Session T → Type 0
    TakesSession f session = (lent : MutBor T) → lent.now ≡ session.2
        → Takes g f (session.0, (session.1, (lent, tt)))

    -- a call of f at the session may leave f'
    abbrev pub SomeCallAtSession : F → Session T → F → Type 0
    SomeCallAtSession f session f' =
        (b : Bool) × (payload : T) × CalledAtSession f session b payload f'

    -- the closure may be called at each session, as the calls at the sessions before have left it
    pub record CallableOnEachSession (f : F) (sessions : List (Session T)) : Type 0 where
      pub at : (before after : List (Session T)) (session : Session T) (f' : F)
          → sessions ≡ before ++ session ∷ after → FoldsTo SomeCallAtSession f before f'
          → TakesSession f' session

    -- f was called at each session in turn, and the last argument has those at which it returned
    -- `true`, in order, with their weights and the payloads that it left there. Of the first
    -- session: what the call returned, the payload and the closure that it left, and what is kept
    -- of the rest
    abbrev pub RetainsSessions : F → List (Session T) → List (Session T) → Type 0
    RetainsSessions f [] kept = kept ≡ []
    RetainsSessions f (session ∷ sessions) kept = record {
      returned : Bool;
      payload : T;
      closure : F;
      rest : List (Session T);
      called : CalledAtSession f session returned payload closure;
      retained : RetainsSessions closure sessions rest;
      kept_is : kept ≡ cond returned ((session.0, session.1, payload) ∷ rest) rest;
    }
