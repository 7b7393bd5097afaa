use Rattle.std.proofs.Common.{◌≡◌, ◌∙◌, None, ap, sym}
use Rattle.vll_check.specs.Headline.Calls.{source}
use Rattle.vll_check.specs.Headline.Catalog.{Catalog}
use Rattle.vll_queue.specs.Admission.{begun}
use Rattle.vll_queue.specs.Shown.{library_of}
use Rattle.vll_engine.proofs.Onto.{begins_fresh, begins_without_onto}
use Rattle.vll_engine.proofs.passes.Passes.begin.Goals as goal

pub returns-in-None-clause-answer : goal.returns-in-None-clause-answer
returns-in-None-clause-answer g c =
    let e = g.N.Name.engine in
    let call = c.args.call.now in
    let none : source (library_of e) call ≡ None = sym (ap (λ (l : Catalog). source l call) c.args.hold.now.library_is) ∙ sym c.source.ensures.source ∙ c.in-None.is in
    begins_without_onto e c.args.session.now.session c.admit-admission.new.session.session call (begun c.admit-admission.result) c.push_admitted.result c.args.self.now c.push_admitted.new.self c.args.hold.now.catalog c.requires.fits none c.admit-admission.ensures.answer c.push_admitted.ensures c.admit-admission.ensures.given

pub push_admitted-requires-clause-fresh : goal.push_admitted-requires-clause-fresh
push_admitted-requires-clause-fresh g c = begins_fresh g.N.Name.engine c.args.session.now.session c.admit-admission.new.session.session c.args.call.now (begun c.admit-admission.result) c.admit-admission.ensures.answer
