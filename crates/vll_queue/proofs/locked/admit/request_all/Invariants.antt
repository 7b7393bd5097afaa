use Rattle.std.proofs.Common.{◌≡◌, ◌++◌, Some, length}
use Rattle.vll_queue.proofs.locked.admit.request_all.Given as goal

abbrev pub invariant-loop-claim : goal.invariant-loop-claim
invariant-loop-claim l = record {
  parts : l.yielded ++ l.claim-iterator ≡ l.call.claims;
  turn : l.seat ≡ record l.fn.seat { turn = Some (record { client = l.client; call = l.call; requested = length l.yielded; granted = l.free }); past = l.seat.past };
}
