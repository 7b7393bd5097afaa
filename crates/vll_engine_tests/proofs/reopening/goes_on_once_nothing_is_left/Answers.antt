-- The sessions are returned as they were passed, twice.
use Rattle.std.proofs.Common.{◌≡◌, ◌∙◌, All, subst, sym}
use Rattle.vll_engine_tests.proofs.reopening.goes_on_once_nothing_is_left.Goals as goal

pub reopened-requires-clause-sessions : goal.reopened-requires-clause-sessions
reopened-requires-clause-sessions g c =
    let back = c.is_not_reopened-engine-2.ensures.sessions ∙ c.is_not_reopened-engine.ensures.sessions in
    subst (λ v. All (λ s. s.table ≡ g.N.Name.engine.table) v.items) (sym back) c.put_back-2.ensures
