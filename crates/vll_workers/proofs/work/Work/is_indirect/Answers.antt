use Rattle.std.proofs.Common.{Bor, ◌∙◌, ◌+◌, ap, subst, sym}
use Rattle.std.specs.Option.{option_map}
use Rattle.vll_proc.specs.declared.call.Call.{Call}
use Rattle.vll_check.specs.Calls.{Fits}
use Rattle.vll_tokens.proofs.Owned.{call_fits}
use Rattle.vll_workers.proofs.work.Work.is_indirect.Goals as goal

pub source-requires : goal.source-requires
source-requires g c =
    subst (λ l. Fits l c.in-Some.call.now) (sym c.library.ensures)
    (call_fits g.N.Name.engine c.args.token.now (c.args.token.now.next + c.args.ahead) c.in-Some.call.now (record { session = c.requires.session; fits = c.requires.fits })
    (sym c.upcoming.ensures ∙ ap (option_map (λ (b : Bor Call). b.now)) c.in-Some.is))
