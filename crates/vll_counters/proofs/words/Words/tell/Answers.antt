use Rattle.std.proofs.Common.{ap, sym, ◌∙◌, arith}
use Rattle.vll_counters.proofs.Common.{WordsShown, SessionShown}
use Rattle.vll_counters.proofs.Seats.{session_me}
use Rattle.vll_counters.proofs.Hearing.{tells_at}
use Rattle.vll_counters.proofs.words.Words.tell.Goals as goal

pub split_seat-requires : goal.split_seat-requires
split_seat-requires c =
    let table = ap (λ (s : SessionShown). s.table) c.session.view_is ∙ c.requires.same ∙ sym (ap (λ (w : WordsShown). w.table) c.self.view_is) in
    let base = ap (λ (w : WordsShown). w.base) c.self.view_is in
    let words = c.self.invariant.words in
    let me = session_me _ _ _ c.session.invariant c.session.view_is in
    (table, omega (arith, words), tells_at _ _ _ _ c.args.session.now.session c.args.session.now.past base (ap (λ x. x.0) me))
