use Rattle.std.proofs.Common.{◌≡◌, ℕ, List, Some, Ok, ap, sym, subst, ◌∙◌}
use Rattle.vll_check.proofs.Common.{IsTrue, ◌↔◌, call_to, check_fault}
use Rattle.vll_check.proofs.Fitting.{found_passed, fits_iff_made}
use Rattle.vll_check.proofs.library.Library.fits.Goals as goal

pub is_made_for-requires : goal.is_made_for-requires
is_made_for-requires c =
    let procedure = c.in-Some.procedure.now in
    ap (λ n. check_fault n procedure) c.records.ensures.records
    ∙ found_passed c.args.self.now c.args.call.now.number procedure c.records.ensures.catalog (sym c.in-Some.ensures.procedure)

pub returns-in-Some : goal.returns-in-Some
returns-in-Some c =
    let procedure = c.in-Some.procedure.now in
    let call = c.args.call.now in
    let made : IsTrue c.is_made_for.result ↔ ((args : List ℕ) × (call_to c.args.self.now.records call.number (Some procedure) args ≡ Ok call)) =
    subst (λ n. IsTrue c.is_made_for.result ↔ ((args : List ℕ) × (call_to n call.number (Some procedure) args ≡ Ok call))) c.records.ensures.records c.is_made_for.ensures in
    let fits = fits_iff_made c.args.self.now call procedure c.records.ensures.catalog.once (sym c.in-Some.ensures.procedure) in
    (λ t. fits.0 (made.0 t), λ f. made.1 (fits.1 f))
