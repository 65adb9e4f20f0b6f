-- Logs that never set the mode to Keep: each Put and each Refresh is a touch, so the pairs stand in
-- the order of the last of these for each live key.
use Rattle.std.specs.Prelude.{Bool, true, false, cond, not, ◌&&◌, List, [], ◌∷◌, ◌++◌, Option, Some, None, filter_map}
use Rattle.std.specs.List.{list_any}
use Rattle.linked_hash_map.specs.declared.map.Mode.TheVariants.{Keep}
use Rattle.linked_hash_map.specs.Log.{Event, Put, Refresh, SetMode, Log, live, pair_of}

module _ {K V : Type 0} where
  -- the event sets the mode to Keep
  abbrev pub sets_keep : Event K V → Bool
  sets_keep (SetMode Keep) = true
  sets_keep _ = false

  -- the key of a Put or a Refresh
  abbrev pub used_key : Event K V → Option K
  used_key (Put j v) = Some j
  used_key (Refresh j) = Some j
  used_key _ = None

  -- the event is a Put or a Refresh of the key
  abbrev pub is_use : (K → Bool) → Event K V → Bool
  is_use same (Put j v) = same j
  is_use same (Refresh j) = same j
  is_use same _ = false

-- given the equality of keys
module _ {K V : Type 0} (eq : K → K → Bool) where
  -- a key that is live, if none of the events `later` uses it
  abbrev pub last_used : (K → Bool) → Log K V → Option K → List K
  last_used is_live later None = []
  last_used is_live later (Some k) =
      cond (is_live k && not (list_any (is_use (eq k)) later)) (k ∷ []) []

  -- the live keys by their last uses in an end of a log, in order
  abbrev pub last_uses : (K → Bool) → Log K V → List K
  last_uses is_live [] = []
  last_uses is_live (event ∷ later) =
      last_used is_live later (used_key event) ++ last_uses is_live later

  -- the pairs of the live keys by their last uses in a log
  abbrev pub pairs_by_use : Log K V → List (K × V)
  pairs_by_use log =
      filter_map (λ k. pair_of (eq k) log) (last_uses (λ k. live (eq k) log) log)
