use Rattle.std.proofs.Common.{ap, sym, ◌∙◌}
use Rattle.vll_counters.proofs.Common.{WordsShown, SessionShown}
use Rattle.vll_counters.proofs.Seats.{session_me, value_there, finds_at}
use Rattle.vll_counters.proofs.words.Words.find_knowing.Goals as goal

pub load-requires : goal.load-requires
load-requires g c =
    let table = ap (λ (s : SessionShown). s.table) c.session.view_is ∙ c.requires.same ∙ sym (ap (λ (w : WordsShown). w.table) c.self.view_is) in
    let base = ap (λ (w : WordsShown). w.base) c.self.view_is in (
      table,
      value_there _ _ _ _ _ base c.self.invariant.words c.requires.there c.value_word.ensures,
      finds_at _ _ _ _ _ _ c.args.session.now.session c.args.session.now.past c.args.id _ _ base c.requires.told.0 c.requires.told.1 (session_me _ _ _ c.session.invariant c.session.view_is) c.value_word.ensures c.requires.there,
    )
