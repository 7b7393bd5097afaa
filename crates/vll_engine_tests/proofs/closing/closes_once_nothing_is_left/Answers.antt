use Rattle.std.proofs.Common.{◌≡◌, sym, ◌∙◌, subst}
use Rattle.std.specs.Prelude.{All}
use Rattle.std.specs.Global.{Vec}
use Rattle.vll_counters.specs.Shown.{SessionShown}
use Rattle.vll_engine_tests.proofs.closing.closes_once_nothing_is_left.Goals as goal

pub put_back-requires-clause-others : goal.put_back-requires-clause-others
put_back-requires-clause-others g c =
    subst (λ (sessions : Vec SessionShown). All (λ (s : SessionShown). s.table ≡ g.N.Name.engine.table) sessions.items)
    (sym (c.stays_open-engine-2.ensures ∙ c.stays_open-engine.ensures)) c.last_of-session.ensures.others
