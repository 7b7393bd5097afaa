use Rattle.std.proofs.Common.{◌≡◌, ◌≤◌, [], vec_len, vec_capacity}
use Rattle.vll_counters.proofs.Common.{shown_queue, AreNewSessions, first_queue}
use Rattle.vll_counters.proofs.words.Words.open.Given as goal

abbrev pub invariant-loop-client : goal.invariant-loop-client
invariant-loop-client l = record {
  queue : l.queue ≡ shown_queue l.words.table [] (first_queue l._client);
  sessions : AreNewSessions l.words.table l._client l.sessions.items;
  long : vec_len l.sessions ≡ l._client;
  room : l.clients ≤ vec_capacity l.sessions;
}
