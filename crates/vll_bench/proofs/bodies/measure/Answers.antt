-- The library has the procedure of each call that it makes, and it is well-formed.
use Rattle.std.proofs.Common.{◌≡◌, subst}
use Rattle.vll_proc.specs.Made.{IsCallOf}
use Rattle.vll_proc.specs.WellFormed.{IsWellFormed}
use Rattle.vll_check.specs.Calls.{CallsProcedure}
use Rattle.vll_check.proofs.Fitting.{ready_well}
use Rattle.vll_bench.proofs.bodies.measure.Goals as goal

pub time_of-requires-clause-formed : goal.time_of-requires-clause-formed
time_of-requires-clause-formed g c =
    let calls : CallsProcedure c.in_ok-library.library c.with_found-call.result = ready_well c.in_ok-library.library c.with_found-call.result c.in-Some.ensures.catalog c.with_found-call.ensures.ready in
    let found = calls.found in
    let given = c.in-Some.ensures.procedure in
    let same : calls.procedure ≡ c.in-Some.procedure.now = cc in
    subst IsWellFormed same calls.formed

pub time_of-requires-clause-made : goal.time_of-requires-clause-made
time_of-requires-clause-made g c =
    let calls : CallsProcedure c.in_ok-library.library c.with_found-call.result = ready_well c.in_ok-library.library c.with_found-call.result c.in-Some.ensures.catalog c.with_found-call.ensures.ready in
    let found = calls.found in
    let given = c.in-Some.ensures.procedure in
    let same : calls.procedure ≡ c.in-Some.procedure.now = cc in
    (c.in_ok-library.library.records, subst (λ p. IsCallOf c.in_ok-library.library.records p c.with_found-call.result) same calls.made)
