use Rattle.std.proofs.Common.{ℕ, suc, [], ◌+◌, ◌≤◌, length, ap, sym, ◌∙◌, subst, add-one}
use Rattle.vll_counters.specs.Shown.{QueueShown, shown_queue}
use Rattle.vll_counters.specs.Steps.{first_queue, new_session}
use Rattle.vll_counters.proofs.Seats.{sessions_more, sessions_none}
use Rattle.vll_engine.proofs.reopening.new_sessions.Goals as goal

pub loop-client-init : goal.loop-client-init
loop-client-init c = record {
  queue = c.requires.first;
  sessions = sessions_none _ _ c.requires.none;
  long = c.args.sessions.ok.0 ∙ ap length c.requires.none;
  room = c.requires.room;
}

pub make_session-requires-clause-same : goal.make_session-requires-clause-same
make_session-requires-clause-same c = ap (λ (q : QueueShown). q.table) c.loop-client.invariant.queue

pub make_session-requires-clause-empty : goal.make_session-requires-clause-empty
make_session-requires-clause-empty c = ap (λ (q : QueueShown). q.lines) c.loop-client.invariant.queue

pub loop-client-preserved : goal.loop-client-preserved
loop-client-preserved c =
    let i = c.loop-client.invariant in record {
      queue =
          c.make_session.ensures.queue ∙ ap (λ (q : QueueShown). let x : QueueShown = record q { clients = suc q.clients } in x) i.queue
          ∙ ap (λ (n : ℕ). shown_queue c.args.words.now.table [] (first_queue n)) (sym (add-one c.loop-client.client));
      sessions = sessions_more _ _ _ _ c.of.result i.sessions (c.of.ensures ∙ c.make_session.ensures.session ∙ ap (λ (q : QueueShown). record { table = c.args.words.now.table; session = new_session q.clients; past = q.past }) i.queue)
          c.push_reserved.ensures.items;
      long = c.push_reserved.ensures.len ∙ ap (λ (n : ℕ). n + 1) i.long;
      room = subst (λ (n : ℕ). c.args.clients ≤ n) (sym c.push_reserved.ensures.capacity) i.room;
    }
