use Rattle.std.proofs.Common.{ap, sym, ◌∙◌, arith, Bor}
use Rattle.vll_counters.proofs.Common.{option_map, Call, WordsShown, QueueShown, SessionShown, queue_view}
use Rattle.vll_counters.proofs.Seats.{queue_me, session_me, joined_session, comes_session_at, opens_at, may_open, library_is, told_session}
use Rattle.vll_counters.proofs.words.Words.join_session_knowing.Goals as goal

pub join_seat-requires : goal.join_seat-requires
join_seat-requires g c =
    let queue = ap (λ (s : QueueShown). s.table) c.queue.view_is ∙ c.requires.same.0 ∙ sym (ap (λ (w : WordsShown). w.table) c.self.view_is) in
    let session = ap (λ (s : SessionShown). s.table) c.session.view_is ∙ c.requires.same.1 ∙ sym (ap (λ (w : WordsShown). w.table) c.self.view_is) in
    let base = ap (λ (w : WordsShown). w.base) c.self.view_is in
    let words = c.self.invariant.words in
    let me = queue_me _ _ _ c.queue.invariant.1 c.queue.view_is in
    let other = session_me _ _ _ c.session.invariant c.session.view_is in
    (queue, session, ap (λ x. x.1) other, omega (arith, words), comes_session_at _ _ _ _ _ _ (queue_view c.args.queue.now) c.args.queue.now.past c.args.session.past c.args.session.session base c.queue.invariant.0 (ap (λ x. x.0) me) (ap (λ x. x.0) other) c.requires.alone c.requires.closed)

pub load-requires : goal.load-requires
load-requires g c =
    let queue = ap (λ (s : QueueShown). s.table) c.queue.view_is ∙ c.requires.same.0 ∙ sym (ap (λ (w : WordsShown). w.table) c.self.view_is) in
    let base = ap (λ (w : WordsShown). w.base) c.self.view_is in
    let words = c.self.invariant.words in
    let me = queue_me _ _ _ c.queue.invariant.1 c.queue.view_is in
    let other = session_me _ _ _ c.session.invariant c.session.view_is in
    let j = c.join_seat.ensures in (
      j.0 ∙ queue,
      omega (arith, words),
      opens_at _ _ _ _ _ _ _ _ (option_map (λ (b : Bor Call). b.now) c.args.call) _ base c.requires.told.0 c.requires.told.1 (j.1 ∙ c.queue.invariant.0) (j.2 ∙ joined_session _ _ _ _ _ _ me other) c.requires.closed
          (may_open _ _ _ _ c.self.invariant.catalog (library_is _ _ _ base c.self.invariant.records) c.requires.ready c.requires.room),
    )

pub returns-clause-session : goal.returns-clause-session
returns-clause-session g c =
    let me = queue_me _ _ _ c.queue.invariant.1 c.queue.view_is in
    let other = session_me _ _ _ c.session.invariant c.session.view_is in
    told_session _ _ _ _ _ _ c.requires.told.0 (c.join_seat.ensures.2 ∙ joined_session _ _ _ _ _ _ me other) c.load.ensures.2.0.1
