use Rattle.std.proofs.Common.{ap, sym, ◌∙◌, rules}
use Rattle.vll_counters.proofs.Common.{WordsShown, PassShown}
use Rattle.vll_counters.proofs.Seats.{pass_me, value_there, stores_at}
use Rattle.vll_counters.proofs.words.Words.store.Goals as goal

pub store-requires : goal.store-requires
store-requires c =
    let table = ap (λ (s : PassShown). s.table) c.pass.view_is ∙ c.requires.same ∙ sym (ap (λ (w : WordsShown). w.table) c.self.view_is) in
    let base = ap (λ (w : WordsShown). w.base) c.self.view_is in (
      table,
      value_there _ _ _ _ _ base c.self.invariant.words c.requires.there c.value_word.ensures,
      stores_at _ _ _ _ _ c.args.pass.now.pass c.args.pass.now.past c.args.id _ _ base (pass_me _ _ _ c.pass.invariant c.pass.view_is) c.value_word.ensures c.requires.next c.requires.there c.requires.loaded c.requires.commits c.requires.value,
    )

pub returns : goal.returns
returns c = search rules
