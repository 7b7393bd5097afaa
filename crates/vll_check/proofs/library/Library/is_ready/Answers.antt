use Rattle.std.proofs.Common.{◌≡◌, ◌∙◌, ℕ, Some, ap, sym, subst, IsTrue}
use Rattle.vll_check.proofs.Common.{◌↔◌, Call, found_by, check_fault, IsMadeFor}
use Rattle.vll_check.proofs.Fitting.{found_passed, ready_iff_made}
use Rattle.vll_check.proofs.library.Library.is_ready.Goals as goal

pub is_ready_for-requires : goal.is_ready_for-requires
is_ready_for-requires c =
    let procedure = c.in-Some.procedure.now in
    ap (λ n. check_fault n procedure) c.records.ensures.records
    ∙ found_passed c.args.self.now c.args.call.now.number procedure c.records.ensures.catalog (sym c.in-Some.ensures.procedure)

pub returns-in-Some : goal.returns-in-Some
returns-in-Some c =
    let procedure = c.in-Some.procedure.now in
    let call = c.args.call.now in
    let library = c.args.self.now in
    let known : IsTrue c.is_ready_for.result ↔ ((made : Call) × (v : ℕ) × (IsMadeFor library.records procedure made × (call ≡ found_by library.records (Some procedure) made v))) =
    subst (λ n. IsTrue c.is_ready_for.result ↔ ((made : Call) × (v : ℕ) × (IsMadeFor n procedure made × (call ≡ found_by n (Some procedure) made v)))) c.records.ensures.records c.is_ready_for.ensures in
    let ready = ready_iff_made library call procedure c.records.ensures.catalog.once (sym c.in-Some.ensures.procedure) in
    (λ t. ready.0 (known.0 t), λ f. known.1 (ready.1 f))
