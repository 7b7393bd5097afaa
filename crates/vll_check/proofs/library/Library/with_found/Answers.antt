use Rattle.std.proofs.Common.{ap, sym, ◌∙◌, rules}
use Rattle.vll_check.proofs.Common.{check_fault}
use Rattle.vll_check.proofs.Fitting.{found_passed}
use Rattle.vll_check.proofs.library.Library.with_found.Goals as goal

pub found_for-requires-clause-checked : goal.found_for-requires-clause-checked
found_for-requires-clause-checked c =
    let procedure = c.in-Some.procedure.now in
    ap (λ n. check_fault n procedure) c.records.ensures.records
    ∙ found_passed c.args.self.now c.args.call.now.number procedure c.records.ensures.catalog (sym c.in-Some.ensures.procedure)

pub returns-clause-ready : goal.returns-clause-ready
returns-clause-ready c = (c.args.call.now, c.args.value, (c.requires, search rules))
