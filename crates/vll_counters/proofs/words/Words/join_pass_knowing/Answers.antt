use Rattle.std.proofs.Common.{ap, sym, ◌∙◌, arith, refl}
use Rattle.vll_counters.proofs.Common.{WordsShown, QueueShown, PassShown, queue_view}
use Rattle.vll_counters.proofs.Seats.{queue_me, pass_me, joined_pass, comes_pass_at, ends_at, told_pass}
use Rattle.vll_counters.proofs.words.Words.join_pass_knowing.Goals as goal

pub join_seat-requires : goal.join_seat-requires
join_seat-requires g c =
    let queue = ap (λ (s : QueueShown). s.table) c.queue.view_is ∙ c.requires.same.0 ∙ sym (ap (λ (w : WordsShown). w.table) c.self.view_is) in
    let pass = ap (λ (s : PassShown). s.table) c.pass.view_is ∙ c.requires.same.1 ∙ sym (ap (λ (w : WordsShown). w.table) c.self.view_is) in
    let base = ap (λ (w : WordsShown). w.base) c.self.view_is in
    let words = c.self.invariant.words in
    let me = queue_me _ _ _ c.queue.invariant.1 c.queue.view_is in
    let other = pass_me _ _ _ c.pass.invariant c.pass.view_is in
    (queue, pass, ap (λ x. x.1) other, omega (arith, words), comes_pass_at _ _ _ _ _ _ (queue_view c.args.queue.now) c.args.queue.now.past c.args.pass.past c.args.pass.pass base c.queue.invariant.0 (ap (λ x. x.0) me) (ap (λ x. x.0) other) refl)

pub load-requires : goal.load-requires
load-requires g c =
    let queue = ap (λ (s : QueueShown). s.table) c.queue.view_is ∙ c.requires.same.0 ∙ sym (ap (λ (w : WordsShown). w.table) c.self.view_is) in
    let base = ap (λ (w : WordsShown). w.base) c.self.view_is in
    let words = c.self.invariant.words in
    let me = queue_me _ _ _ c.queue.invariant.1 c.queue.view_is in
    let other = pass_me _ _ _ c.pass.invariant c.pass.view_is in
    let j = c.join_seat.ensures in
    (j.0 ∙ queue, omega (arith, words), ends_at _ _ _ _ _ _ _ _ c.args.pass.pass base c.requires.told (j.1 ∙ c.queue.invariant.0) (j.2 ∙ joined_pass _ _ _ _ _ _ me other) refl c.requires.closed c.requires.stored c.requires.released)

pub returns-clause-pass : goal.returns-clause-pass
returns-clause-pass g c =
    let me = queue_me _ _ _ c.queue.invariant.1 c.queue.view_is in
    let other = pass_me _ _ _ c.pass.invariant c.pass.view_is in
    told_pass _ _ _ _ (c.join_seat.ensures.2 ∙ joined_pass _ _ _ _ _ _ me other) c.load.ensures.2.0.1
