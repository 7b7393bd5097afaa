use Rattle.std.proofs.Common.{◌≡◌, ◌∙◌, None, ap, sym, subst}
use Rattle.vll_check.specs.Headline.Calls.{source}
use Rattle.vll_check.specs.Headline.Catalog.{Catalog}
use Rattle.vll_check.specs.Catalog.{IsCatalog}
use Rattle.vll_queue.specs.Begin.{Begins}
use Rattle.vll_queue.specs.Shown.{library_of}
use Rattle.vll_queue.proofs.Looking.{begins_found, begins_without}
use Rattle.vll_engine.proofs.engine.Engine.begin.Goals as goal

pub returns-in-None-clause-answer : goal.returns-in-None-clause-answer
returns-in-None-clause-answer g c =
    let e = g.N.Name.engine in
    let call = c.args.call.now in
    let none : source (library_of e) call ≡ None = sym (ap (λ (l : Catalog). source l call) c.args.self.now.library_is) ∙ sym c.source.ensures.source ∙ c.in-None.is in
    begins_without e c.args.session.now.session c.admit.new.session.session call c.into_begun.result (subst IsCatalog c.args.self.now.library_is c.args.self.now.catalog) c.requires.fits none (subst (Begins e c.args.session.now.session c.admit.new.session.session call) (sym c.into_begun.ensures) c.admit.ensures.answer) c.admit.ensures.given

pub returns-in-Some-clause-answer : goal.returns-in-Some-clause-answer
returns-in-Some-clause-answer g c =
    begins_found g.N.Name.engine c.args.session.now.session c.find-call.new.session.session c.admit-admission.new.session.session c.args.call.now c.find-call.result c.into_begun-in-Some.result c.find-call.ensures.looked
    (subst (Begins g.N.Name.engine c.find-call.new.session.session c.admit-admission.new.session.session c.find-call.result) (sym c.into_begun-in-Some.ensures) c.admit-admission.ensures.answer) c.admit-admission.ensures.given
