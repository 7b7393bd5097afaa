use Rattle.std.proofs.Common.{ap, sym, ◌∙◌, arith}
use Rattle.vll_counters.proofs.Common.{WordsShown, QueueShown, queue_view}
use Rattle.vll_counters.proofs.Seats.{queue_me, makes_at}
use Rattle.vll_counters.proofs.words.Words.make_session.Goals as goal

pub split_seat-requires : goal.split_seat-requires
split_seat-requires c =
    let table = ap (λ (s : QueueShown). s.table) c.queue.view_is ∙ c.requires.same ∙ sym (ap (λ (w : WordsShown). w.table) c.self.view_is) in
    let base = ap (λ (w : WordsShown). w.base) c.self.view_is in
    let words = c.self.invariant.words in
    let me = queue_me _ _ _ c.queue.invariant.1 c.queue.view_is in
    (table, omega (arith, words), makes_at _ _ _ _ (queue_view c.args.queue.now) c.args.queue.now.past base c.queue.invariant.0 (ap (λ x. x.0) me) c.requires.empty)
