use Rattle.std.proofs.Common.{◌∙◌, sym, ap, subst}
use Rattle.std.specs.List.{All}
use Rattle.std.proofs.lemmas.List.Elements.{All-push}
use Rattle.vll_check.specs.Calls.{Fits}
use Rattle.vll_check.specs.Headline.Catalog.{Catalog}
use Rattle.vll_counters.specs.Shown.{SessionShown}
use Rattle.vll_queue.specs.Shown.{library_of}
use Rattle.vll_tokens.specs.Tokens.{IsFit}
use Rattle.vll_workers_tests.proofs.resumed.with_one_more.Goals as goal

-- the session is the engine's still, and the library makes the call that is added
pub returns : goal.returns
returns g c =
    let e = g.N.Name.engine in
    let call = c.bump_of.result in
    let fits = subst (All (Fits (library_of e))) (sym c.into_parts-session.ensures.script) c.requires.fits in
    let new = subst (λ (l : Catalog). Fits l call) c.library.ensures c.bump_of.ensures in
    subst (IsFit e) (sym c.resume.ensures) (record {
      session = c.reply-reply.ensures.session.0 ∙ ap (λ (s : SessionShown). s.table) c.into_parts-session.ensures.session ∙ c.requires.session;
      fits = subst (All (Fits (library_of e))) (sym c.in_ok-push.ensures.items) (All-push (Fits (library_of e)) c.into_parts-session.result.1.items call fits new);
    })
