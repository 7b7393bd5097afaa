-- What is left to read gets shorter, and may nest less deep.
use Rattle.std.proofs.Common.{◌+◌, ◌*◌, ◌≤◌, length}
use Rattle.vll_explain.proofs.written.+number_at.Given as goal

abbrev pub decreases-number_at : goal.decreases-number_at
decreases-number_at l = 3 * l.depth

abbrev pub decreases-number_or : goal.decreases-number_or
decreases-number_or l = 3 * l.depth + 1

abbrev pub decreases-number_in_list : goal.decreases-number_in_list
decreases-number_in_list l = 3 * l.depth + 2

abbrev pub decreases-number_in_object : goal.decreases-number_in_object
decreases-number_in_object l = 3 * l.depth + 2

abbrev pub invariant-number_in_list-items : goal.invariant-number_in_list-items
invariant-number_in_list-items l = length l.reader ≤ length l.initial.reader

abbrev pub decreases-number_in_list-items : goal.decreases-number_in_list-items
decreases-number_in_list-items l = length l.reader

abbrev pub invariant-number_in_object-members : goal.invariant-number_in_object-members
invariant-number_in_object-members l = length l.reader ≤ length l.initial.reader

abbrev pub decreases-number_in_object-members : goal.decreases-number_in_object-members
decreases-number_in_object-members l = length l.reader
