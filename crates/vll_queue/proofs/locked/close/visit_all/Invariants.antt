use Rattle.std.proofs.Common.{◌≡◌, List, ◌++◌, All, vec_capacity, vec_len}
use Rattle.vll_counters.specs.Headline.Views.{calls_in}
use Rattle.vll_counters.specs.Shown.{SessionShown}
use Rattle.vll_queue.specs.Sessions.{HasItsCalls}
use Rattle.vll_queue.proofs.locked.close.visit_all.Given as goal

-- the sessions that have come follow those that are left
abbrev pub invariant-loop-session : goal.invariant-loop-session
invariant-loop-session l = record {
  queue : l.queue ≡ record l.initial.queue { past = l.queue.past };
  come : List SessionShown;
  all : l.fn.sessions.items ≡ l.sessions.items ++ come;
  have : All (λ (s : SessionShown). HasItsCalls (calls_in l.initial.queue.lines) s.session) come;
  room : vec_capacity l.sessions ≡ vec_capacity l.fn.sessions;
}

abbrev pub decreases-loop-session : goal.decreases-loop-session
decreases-loop-session l = vec_len l.sessions
