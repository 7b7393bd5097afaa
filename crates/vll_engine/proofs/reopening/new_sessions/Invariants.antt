use Rattle.std.proofs.Common.{◌≡◌, ◌≤◌, [], vec_len, vec_capacity}
use Rattle.vll_counters.specs.Shown.{shown_queue, AreNewSessions}
use Rattle.vll_counters.specs.Steps.{first_queue}
use Rattle.vll_engine.proofs.reopening.new_sessions.Given as goal

abbrev pub invariant-loop-client : goal.invariant-loop-client
invariant-loop-client l = record {
  queue : l.queue ≡ shown_queue l.words.table [] (first_queue l.client);
  sessions : AreNewSessions l.words.table l.client l.sessions.items;
  long : vec_len l.sessions ≡ l.client;
  room : l.clients ≤ vec_capacity l.sessions;
}
