use Rattle.std.proofs.Common.{◌∙◌, sym}
use Rattle.vll_core.proofs.Lowest.{shown_lowest}
use Rattle.vll_core.proofs.queue.Queue.lowest.Goals as goal

pub returns-in_err-front : goal.returns-in_err-front
returns-in_err-front g c = c.from_residual.ensures ∙ (sym c.in_err-front.was ∙ shown_lowest _ _ _ c.self.invariant c.self.view_is c.front.ensures)

pub returns : goal.returns
returns g c = sym c.in_ok-front.was ∙ shown_lowest _ _ _ c.self.invariant c.self.view_is c.front.ensures
