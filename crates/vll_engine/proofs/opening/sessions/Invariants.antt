use Rattle.std.proofs.Common.{◌≡◌, ◌++◌, ◌≤◌, length, vec_capacity}
use Rattle.vll_engine.proofs.opening.sessions.Given as goal

abbrev pub invariant-loop-seat : goal.invariant-loop-seat
invariant-loop-seat l =
    (l.yielded ++ l.seat-iterator.rest.items ≡ l.fn.seats.items)
    × (l.sessions.items ≡ l.yielded)
    × (length l.yielded ≡ l.client)
    × (length l.fn.seats.items ≤ vec_capacity l.sessions)
