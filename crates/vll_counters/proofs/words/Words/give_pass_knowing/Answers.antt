use Rattle.std.proofs.Common.{ap, sym, ◌∙◌, arith}
use Rattle.vll_counters.proofs.Common.{WordsShown, QueueShown, queue_view}
use Rattle.vll_counters.proofs.Seats.{queue_me, gives_at, given_pass}
use Rattle.vll_counters.proofs.words.Words.give_pass_knowing.Goals as goal

pub split_seat-requires : goal.split_seat-requires
split_seat-requires g c =
    let table = ap (λ (s : QueueShown). s.table) c.queue.view_is ∙ c.requires.same ∙ sym (ap (λ (w : WordsShown). w.table) c.self.view_is) in
    let base = ap (λ (w : WordsShown). w.base) c.self.view_is in
    let words = c.self.invariant.words in
    let me = queue_me _ _ _ c.queue.invariant.1 c.queue.view_is in
    (table, omega (arith, words), gives_at _ _ _ _ c.args.ticket _ (queue_view c.args.queue.now) c.args.queue.now.past base c.queue.invariant.0 c.requires.told (ap (λ x. x.0) me) c.requires.may_run)

pub invariant_of-result : goal.invariant_of-result
invariant_of-result g c =
    let me = queue_me _ _ _ c.queue.invariant.1 c.queue.view_is in
    given_pass _ _ _ _ (queue_view c.args.queue.now) c.args.queue.now.past c.requires.told me c.requires.may_run c.split_seat.ensures.4
