use Rattle.std.proofs.Common.{sym, subst}
use Rattle.vll_check.specs.Calls.{IsReady}
use Rattle.vll_check.specs.Headline.Catalog.{Catalog}
use Rattle.vll_counters.proofs.Seats.{library_is}
use Rattle.vll_counters_tests.proofs.words.a_session_finds_what_a_pass_has_stored.Goals as goal

pub enter-pass-requires-clause-ready : goal.enter-pass-requires-clause-ready
enter-pass-requires-clause-ready g c =
    subst (λ (l : Catalog). IsReady l c.in_ok-call.call) (library_is c.in_ok-library.library _ c.in-Ok.words.base (sym c.in-Ok.ensures.words) c.in_ok-library.ensures) c.in_ok-call.ensures
