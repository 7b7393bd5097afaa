use Rattle.std.proofs.Common.{ap, sym, ◌∙◌}
use Rattle.vll_counters.proofs.Common.{WordsShown, QueueShown, queue_view}
use Rattle.vll_counters.proofs.Seats.{queue_me, pair_there, requests_at}
use Rattle.vll_counters.proofs.words.Words.request_knowing.Goals as goal

pub fetch_add-requires : goal.fetch_add-requires
fetch_add-requires g c =
    let table = ap (λ (s : QueueShown). s.table) c.queue.view_is ∙ c.requires.same ∙ sym (ap (λ (w : WordsShown). w.table) c.self.view_is) in
    let base = ap (λ (w : WordsShown). w.base) c.self.view_is in
    let me = queue_me _ _ _ c.queue.invariant.1 c.queue.view_is in (
      table,
      pair_there _ _ _ _ _ base c.self.invariant.words c.requires.there c.pair_word.ensures,
      requests_at _ _ _ _ _ _ (queue_view c.args.queue.now) c.args.queue.now.past c.args.claim _ _ _ base c.requires.told.0 c.requires.told.1 c.queue.invariant.0 me c.pair_word.ensures c.delta.ensures c.requires.next c.requires.there,
    )
