use Rattle.std.proofs.Common.{◌≡◌, ℕ, ◌+◌, ◌*◌, ◌≤◌, length}
use Rattle.json.specs.Json.{items, members, value, no_members, parse_map}
use Rattle.ordered_json.specs.Read.{resolved_items, resolved_members}
use Rattle.ordered_json.specs.View.{members_view}
use Rattle.ordered_json.proofs.Reading.{items_behind}
use Rattle.ordered_json.proofs.read.+read.Given as goal

abbrev pub decreases-read : goal.decreases-read
decreases-read l = 2 * l.depth

abbrev pub decreases-read_items : goal.decreases-read_items
decreases-read_items l = 2 * l.depth + 1

abbrev pub decreases-read_members : goal.decreases-read_members
decreases-read_members l = 2 * l.depth + 1

-- n turns are enough for the tokens that are left
abbrev pub invariant-read_items-items : goal.invariant-read_items-items
invariant-read_items-items l =
    (n : ℕ) × (length l.reader ≤ n)
    × (resolved_items (items (value l.depth) (length l.initial.reader) l.initial.reader)
    ≡ parse_map (items_behind l.found.items) (resolved_items (items (value l.depth) n l.reader)))
    × (length l.reader ≤ length l.initial.reader)

abbrev pub decreases-read_items-items : goal.decreases-read_items-items
decreases-read_items-items l = length l.reader

abbrev pub invariant-read_members-members : goal.invariant-read_members-members
invariant-read_members-members l =
    (n : ℕ) × (length l.reader ≤ n)
    × (resolved_members no_members (members (value l.depth) (length l.initial.reader) l.initial.reader)
    ≡ resolved_members (members_view l.found.pairs) (members (value l.depth) n l.reader))
    × (length l.reader ≤ length l.initial.reader)

abbrev pub decreases-read_members-members : goal.decreases-read_members-members
decreases-read_members-members l = length l.reader
