use Rattle.std.proofs.Common.{◌∙◌, arith, refl}
use Rattle.vll_core.proofs.Common.{entry_load}
use Rattle.vll_core.proofs.NextClaims.{load_next, none_next}
use Rattle.vll_core.proofs.RunningWorks.{work_within}
use Rattle.vll_core.proofs.machine.Machine.next_load.Goals as goal

pub index-execution-requires : goal.index-execution-requires
index-execution-requires g c = omega (arith, work_within c.self.inside _ _ _ c.self.invariant c.self.view_is c.in_ok-call.ensures, c.self.inside.execution.ok.0, c.ticket.view_is)

pub returns-in_err-call : goal.returns-in_err-call
returns-in_err-call g c = c.from_residual.ensures ∙ none_next entry_load _ refl c.in_err-call.ensures

pub returns : goal.returns
returns g c = load_next c.self.inside c.args.self.now c.args.ticket _ c.in_ok-call.call c.index-execution.result.now c.self.invariant c.self.view_is c.in_ok-call.ensures c.ticket.view_is c.index-execution.ensures _ c.next_load.ensures
