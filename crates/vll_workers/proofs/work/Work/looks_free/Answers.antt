use Rattle.std.proofs.Common.{Bor, ◌∙◌, ◌+◌, ap, sym}
use Rattle.std.specs.Option.{option_map}
use Rattle.vll_proc.specs.declared.call.Call.{Call}
use Rattle.vll_tokens.proofs.Owned.{call_fits}
use Rattle.vll_workers.proofs.work.Work.looks_free.Goals as goal

pub look-requires : goal.look-requires
look-requires g c =
    call_fits g.N.Name.engine c.args.token.now (c.args.token.now.next + c.loop-ahead.ahead) c.in-Some.call.now (record { session = c.requires.session; fits = c.requires.fits })
    (sym c.upcoming.ensures ∙ ap (option_map (λ (b : Bor Call). b.now)) c.in-Some.is)
