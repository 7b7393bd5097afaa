use Rattle.std.proofs.Common.{ap, ◌∙◌}
use Rattle.vll_check.proofs.Common.{check_fault}
use Rattle.vll_check.proofs.Fitting.{found_passed}
use Rattle.vll_check.proofs.library.Library.call.Goals as goal

pub call_to-requires : goal.call_to-requires
call_to-requires c =
    let procedure = c.in-Some.procedure.now in
    ap (λ n. check_fault n procedure) c.records.ensures.records
    ∙ found_passed c.args.self.now c.in-Some.number procedure c.records.ensures.catalog c.in-Some.ensures.procedure
