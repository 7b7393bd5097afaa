use Rattle.std.proofs.Common.{◌≡◌, ◌∙◌, ap, rules}
use Rattle.vll_check.specs.Headline.Calls.{with_found}
use Rattle.vll_check.specs.Headline.Catalog.{Catalog}
use Rattle.vll_queue.specs.Shown.{library_of}
use Rattle.vll_queue.proofs.Looking.{found_of, looked_there_found, looked_up}
use Rattle.vll_queue.proofs.finding.find.Goals as goal

pub returns-clause-looked : goal.returns-clause-looked
returns-clause-looked g c =
    let e = g.N.Name.engine in
    let call = c.args.call.now in
    let is : c.with_found.result ≡ with_found (library_of e) call c.find-value.result = c.with_found.ensures.call ∙ ap (λ (l : Catalog). with_found l call c.find-value.result) c.requires.library in
    looked_there_found e c.args.session.now.session c.find-value.new.session.session _ call c.with_found.result c.args.source c.find-value.result c.requires.fits c.requires.source
    (found_of e c.args.words.now c.in-Some.seat.session c.args.session.now.session _ _ _ _ c.requires.words (search rules) c.find-value.ensures.step.now) is

pub returns-clause-looked_up : goal.returns-clause-looked_up
returns-clause-looked_up g c =
    let e = g.N.Name.engine in
    let call = c.args.call.now in
    let is : c.with_found.result ≡ with_found (library_of e) call c.find-value.result = c.with_found.ensures.call ∙ ap (λ (l : Catalog). with_found l call c.find-value.result) c.requires.library in
    looked_up e c.args.session.now.session c.find-value.new.session.session _ call c.with_found.result c.args.source c.find-value.result c.requires.fits c.requires.source
    (found_of e c.args.words.now c.in-Some.seat.session c.args.session.now.session _ _ _ _ c.requires.words (search rules) c.find-value.ensures.step.now) is
