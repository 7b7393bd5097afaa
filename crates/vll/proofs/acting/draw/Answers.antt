use Rattle.std.proofs.Common.{subst, sym}
use Rattle.vll_draw.specs.OneByOne.{with_schedule}
use Rattle.vll_draw.specs.Page.{Lists}
use Rattle.vll_replay.specs.Replay.{text_of_setup}
use Rattle.vll.proofs.acting.draw.Goals as goal

pub returns-clause-write : goal.returns-clause-write
returns-clause-write g c is =
    (c.as_bytes.result.now, subst (λ page. Lists page (text_of_setup (with_schedule c.args.scenario))) (sym c.as_bytes.ensures.value) c.in-Ok.ensures, c.in-Err.ensures.err)
