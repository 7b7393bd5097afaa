-- A call without a source is tried as it is.
use Rattle.std.proofs.Common.{◌≡◌, ◌∙◌, None, ap, sym, subst}
use Rattle.vll_check.specs.Headline.Calls.{source}
use Rattle.vll_check.specs.Headline.Catalog.{Catalog}
use Rattle.vll_check.specs.Catalog.{IsCatalog}
use Rattle.vll_queue.specs.Shown.{library_of}
use Rattle.vll_engine.proofs.Attempts.{attempted_as_it_is}
use Rattle.vll_engine.proofs.engine.Engine.try_call.Goals as goal

pub returns-in-None-clause-answer : goal.returns-in-None-clause-answer
returns-in-None-clause-answer g c =
    let e = g.N.Name.engine in
    let call = c.args.call.now in
    let none : source (library_of e) call ≡ None = sym (ap (λ (l : Catalog). source l call) c.args.self.now.library_is) ∙ sym c.source-source.ensures.source ∙ c.in-None.is in
    attempted_as_it_is e c.args.session.now.session c.try_ready.new.session.session call c.try_ready.result c.try_ready.new.reply (subst IsCatalog c.args.self.now.library_is c.args.self.now.catalog) c.requires.fits none c.try_ready.ensures.answer
