use Rattle.std.proofs.Common.{◌+◌, ◌*◌, length}
use Rattle.ordered_json.proofs.pointer.+swap.Given as goal

abbrev pub decreases-swap_at : goal.decreases-swap_at
decreases-swap_at l = 2 * length l.names.now

abbrev pub decreases-swap_in_array : goal.decreases-swap_in_array
decreases-swap_in_array l = 2 * length l.rest.now + 1

abbrev pub decreases-swap_in_object : goal.decreases-swap_in_object
decreases-swap_in_object l = 2 * length l.rest.now + 1
