-- A table of sessions whose weights sum to at most a limit.
use Rattle.std.specs.Prelude.{◌≡◌, ℕ, ◌≤◌, ◌==◌, not, List, [], ◌∷◌, ◌++◌, map, length, filter, find, sum_by, nat_le, nat_eq, if◌then◌else◌}
use Rattle.std.specs.Prelude.{Option, option_map, unwrap_or}
use Rattle.std.specs.Borrow.{Bor}
use Rattle.std.specs.List.{IsDistinct}
use Rattle.linked_hash_map.specs.declared.map.TheConstants.{LIMIT}

-- a session: its id, its weight and its payload
abbrev pub Session : Type 0 → Type 0
Session T = ℕ × ℕ × T

-- what a contract sees of a table: its sessions in the order of their last put or touch, its limit,
-- and how many sessions there is room for
pub record SessionTable (T : Type 0) : Type 0 where
  pub sessions : List (Session T)
  pub limit : ℕ
  pub capacity : ℕ

module _ {T : Type 0} where
  abbrev pub session_table : List (Session T) → ℕ → ℕ → SessionTable T
  session_table sessions limit capacity =
      record { sessions = sessions; limit = limit; capacity = capacity }

  -- what an id, a weight and a `&T` to the payload point to
  abbrev pub deref_session : ℕ × ℕ × Bor T → Session T
  deref_session p = (p.0, p.1, p.2.now)

  -- the ids of the sessions, and the sum of their weights
  abbrev pub ids_of : List (Session T) → List ℕ
  ids_of sessions = map (λ session. session.0) sessions

  abbrev pub total_weight : List (Session T) → ℕ
  total_weight sessions = sum_by (λ session. session.1) sessions

  -- the session with the id, or none; its payload; and its weight, or 0 if there is none
  abbrev pub session_of : List (Session T) → ℕ → Option (Session T)
  session_of sessions id = find (λ session. id == session.0) sessions

  abbrev pub payload_of : List (Session T) → ℕ → Option T
  payload_of sessions id = option_map (λ session. session.2) (session_of sessions id)

  abbrev pub weight_of : List (Session T) → ℕ → ℕ
  weight_of sessions id = unwrap_or (option_map (λ session. session.1) (session_of sessions id)) 0

  -- the sessions except that with the id
  abbrev pub without : List (Session T) → ℕ → List (Session T)
  without sessions id = filter (λ session. not (id == session.0)) sessions

  -- the sessions except that with the id, and then one with it, this weight and this payload
  abbrev pub with_last : List (Session T) → ℕ → ℕ → T → List (Session T)
  with_last sessions id weight payload = without sessions id ++ (id, weight, payload) ∷ []

  -- the sessions with that of the id at the end, its weight as it was, and this payload
  abbrev pub to_end : List (Session T) → ℕ → T → List (Session T)
  to_end sessions id payload = with_last sessions id (weight_of sessions id) payload

  -- the longest end of the sessions whose weights sum to at most the limit: all of them if
  -- theirs do, and else that of the sessions behind the first
  abbrev pub fit : ℕ → List (Session T) → List (Session T)
  fit limit [] = []
  fit limit (session ∷ sessions) =
      if nat_le (total_weight (session ∷ sessions)) limit then session
      ∷ sessions else fit limit sessions

  -- the sessions before that end
  abbrev pub leaving : ℕ → List (Session T) → List (Session T)
  leaving limit [] = []
  leaving limit (session ∷ sessions) =
      if nat_le (total_weight (session ∷ sessions)) limit then [] else session
      ∷ leaving limit sessions

  -- some sessions come before this end of the list, and the two make the list
  abbrev pub IsEnd : List (Session T) → List (Session T) → Type 0
  IsEnd sessions end = (before : List (Session T)) × (before ++ end ≡ sessions)

  -- an end of the list whose weights sum to at most the limit, and no such end is longer
  pub record IsLongestEnd (limit : ℕ) (sessions end : List (Session T)) : Type 0 where
    pub is_end : IsEnd sessions end
    pub fits : total_weight end ≤ limit
    pub longest : (other : List (Session T)) → IsEnd sessions other → total_weight other ≤ limit
        → length other ≤ length end

  -- what holds of every table: no two sessions have one id, the weights sum to at most the limit,
  -- there are no more sessions than room, and no more room than a map may have
  pub record IsValidTable (table : SessionTable T) : Type 0 where
    pub distinct : IsDistinct nat_eq (ids_of table.sessions)
    pub within : total_weight table.sessions ≤ table.limit
    pub room : length table.sessions ≤ table.capacity
    pub few : table.capacity ≤ LIMIT
