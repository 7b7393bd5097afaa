use Rattle.std.proofs.Common.{ap}
use Rattle.vll_counters.proofs.Common.{WordsShown, queue_view}
use Rattle.vll_counters.proofs.Seats.{queue_me, closes_at, closes_history}
use Rattle.vll_counters.proofs.words.Words.close.Goals as goal

pub returns-clause-words : goal.returns-clause-words
returns-clause-words c =
    let base = ap (λ (w : WordsShown). w.base) c.self.view_is in
    let me = queue_me _ _ _ c.queue.invariant.1 c.queue.view_is in
    closes_at _ _ _ _ (queue_view c.args.queue) c.args.queue.past _ _ _ base c.queue.invariant.0 me c.requires.closed c.requires.waiting c.requires.running c.close_with-closed.ensures.values.2 c.gathered-words.ensures.items

pub returns-clause-history : goal.returns-clause-history
returns-clause-history c =
    let base = ap (λ (w : WordsShown). w.base) c.self.view_is in
    let me = queue_me _ _ _ c.queue.invariant.1 c.queue.view_is in
    closes_history _ _ _ _ (queue_view c.args.queue) c.args.queue.past _ _ _ base me c.close_with-closed.ensures.values.2 c.gathered-words.ensures.items
