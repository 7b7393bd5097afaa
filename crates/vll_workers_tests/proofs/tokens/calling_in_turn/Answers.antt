use Rattle.std.proofs.Common.{All, sym, subst}
use Rattle.vll_check.specs.Calls.{Fits}
use Rattle.vll_check.specs.Headline.Catalog.{Catalog}
use Rattle.vll_queue.specs.Shown.{library_of}
use Rattle.vll_tokens.specs.Tokens.{IsFit}
use Rattle.vll_workers_tests.proofs.tokens.calling_in_turn.Goals as goal

pub returns-clause-fit : goal.returns-clause-fit
returns-clause-fit g c =
    let fits : All (Fits (library_of g.N.Name.engine)) c.in_ok-script.script.items =
    subst (λ (l : Catalog). All (Fits l) c.in_ok-script.script.items) c.requires.library c.in_ok-script.ensures.fits in
    subst (IsFit g.N.Name.engine) (sym c.new.ensures) (record { session = c.requires.session; fits = fits })
