use Rattle.std.proofs.Common.{◌≡◌, ℕ, suc, [], ◌+◌, ◌≤◌, ap, sym, ◌∙◌, arith, subst, add-one}
use Rattle.vll_counters.proofs.Common.{QueueShown, shown_queue, first_queue, new_session}
use Rattle.vll_counters.proofs.Seats.{sessions_more, sessions_none, sessions_all}
use Rattle.vll_counters.proofs.words.Words.open.Goals as goal

pub loop-client-init : goal.loop-client-init
loop-client-init c = record {
  queue = c.in_ok-words.ensures.queue;
  sessions = sessions_none _ _ c.in_ok-sessions.ensures.items;
  long = c.in_ok-sessions.ensures.len;
  room = c.in_ok-sessions.ensures.capacity;
}

pub make_session-requires-clause-same : goal.make_session-requires-clause-same
make_session-requires-clause-same c = ap (λ (q : QueueShown). q.table) c.loop-client.invariant.queue

pub make_session-requires-clause-empty : goal.make_session-requires-clause-empty
make_session-requires-clause-empty c = ap (λ (q : QueueShown). q.lines) c.loop-client.invariant.queue

pub push_reserved-requires : goal.push_reserved-requires
push_reserved-requires c = let long = c.loop-client.invariant.long in let room = c.loop-client.invariant.room in let low = c.loop-client-test.true in omega arith

pub loop-client-preserved : goal.loop-client-preserved
loop-client-preserved c =
    let i = c.loop-client.invariant in record {
      queue =
          c.make_session.ensures.queue ∙ ap (λ (q : QueueShown). let x : QueueShown = record q { clients = suc q.clients } in x) i.queue
          ∙ ap (λ (n : ℕ). shown_queue c.in_ok-words.words.table [] (first_queue n)) (sym (add-one c.loop-client._client));
      sessions = sessions_more _ _ _ _ c.make_session.result i.sessions (c.make_session.ensures.session ∙ ap (λ (q : QueueShown). record { table = c.in_ok-words.words.table; session = new_session q.clients; past = q.past }) i.queue)
          c.push_reserved.ensures.items;
      long = c.push_reserved.ensures.len ∙ ap (λ (n : ℕ). n + 1) i.long;
      room = subst (λ (n : ℕ). c.args.clients ≤ n) (sym c.push_reserved.ensures.capacity) i.room;
    }

pub returns-clause-queue : goal.returns-clause-queue
returns-clause-queue c =
    let upto = c.loop-client.auto._client-end in
    let from = c.loop-client-test.false in
    let e : c.loop-client._client ≡ c.args.clients = omega arith in
    c.loop-client.invariant.queue ∙ ap (λ (n : ℕ). shown_queue c.in_ok-words.words.table [] (first_queue n)) e

pub returns-clause-sessions : goal.returns-clause-sessions
returns-clause-sessions c =
    let upto = c.loop-client.auto._client-end in
    let from = c.loop-client-test.false in
    let e : c.loop-client._client ≡ c.args.clients = omega arith in
    sessions_all _ _ _ _ e c.loop-client.invariant.sessions
