use Rattle.std.proofs.Common.{ap, sym, ◌∙◌}
use Rattle.vll_counters.proofs.Common.{WordsShown, PassShown}
use Rattle.vll_counters.proofs.Seats.{pass_me, pair_there, releases_at}
use Rattle.vll_counters.proofs.words.Words.release_knowing.Goals as goal

pub fetch_sub-requires : goal.fetch_sub-requires
fetch_sub-requires g c =
    let table = ap (λ (s : PassShown). s.table) c.pass.view_is ∙ c.requires.same ∙ sym (ap (λ (w : WordsShown). w.table) c.self.view_is) in
    let base = ap (λ (w : WordsShown). w.base) c.self.view_is in (
      table,
      pair_there _ _ _ _ _ base c.self.invariant.words c.requires.there c.pair_word.ensures,
      releases_at _ _ _ _ _ _ c.args.pass.now.pass c.args.pass.now.past c.args.claim _ _ _ base c.requires.told.0 c.requires.told.1 (pass_me _ _ _ c.pass.invariant c.pass.view_is) c.pair_word.ensures c.delta.ensures c.requires.next c.requires.there c.requires.stored,
    )
