-- Private: what a put of a session plans, and what it leaves of the table.
use Rattle.std.specs.Prelude.{◌≡◌, ℕ, ◌≤◌, ◌==◌, false, not, is_some, List, length, drop, max, Some}
use Rattle.std.specs.Option.{IsSome}
use Rattle.linked_hash_map.specs.Pairs.{last}
use Rattle.linked_hash_map.specs.SessionTables.{Session, SessionTable, session_of, payload_of, total_weight, without}
use Rattle.linked_hash_map.specs.SessionTables.{with_last, fit, IsLongestEnd}
use Rattle.linked_hash_map.specs.declared.sessions.storage.PutPlan.{PutPlan}

module _ {T : Type 0} where
  -- so many sessions go for those except that of the id to be within the weight that is left, and
  -- what these weigh then
  pub record AreLeaving (sessions : List (Session T)) (id weight_left count staying : ℕ) : Type 0
    where
      pub stay : drop count (without sessions id) ≡ fit weight_left (without sessions id)
      pub staying_is : staying ≡ total_weight (fit weight_left (without sessions id))
      pub within : count ≤ length (without sessions id)

  -- that, and whether the id is new
  pub record IsPutPlan (sessions : List (Session T)) (id weight_left : ℕ) (plan : PutPlan) : Type 0
    where
      pub is_new : is_some (session_of sessions id) ≡ not plan.is_new
      pub leaving : AreLeaving sessions id weight_left plan.count plan.staying

  -- the session is at the back, and the longest end that fits is left
  pub record HasPut (old : SessionTable T) (session : Session T) (new : SessionTable T) : Type 0
    where
      pub stay : new.sessions
          ≡ fit old.limit (with_last old.sessions session.0 session.1 session.2)
      pub longest : IsLongestEnd old.limit
          (with_last old.sessions session.0 session.1 session.2) new.sessions
      pub newest : last new.sessions ≡ Some session
      pub payload : payload_of new.sessions session.0 ≡ Some session.2
      pub others : (other : ℕ) → session.0 == other ≡ false
          → IsSome (payload_of new.sessions other)
          → payload_of new.sessions other ≡ payload_of old.sessions other
      pub capacity : new.capacity ≡ max old.capacity (length new.sessions)
