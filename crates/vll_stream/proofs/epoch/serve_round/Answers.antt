use Rattle.std.proofs.Common.{◌≡◌, ◌<◌, ℕ, Bool, List, Option, All, Result, Err, IfErr, sym, subst, rules}
use Rattle.std.specs.Io.KnownBytes.{Appends}
use Rattle.vll_check.specs.Headline.Catalog.{Catalog}
use Rattle.vll_check.specs.Calls.{Fits}
use Rattle.vll_scenario.specs.Streams.{AppendsBeginning}
use Rattle.vll_queue.specs.Shown.{library_of}
use Rattle.vll_lines.specs.Lines.{IsRound}
use Rattle.vll_lines.specs.Calls.{calls_of}
use Rattle.vll_lines.specs.declared.request.ClientCall.{ClientCall}
use Rattle.vll_lines.specs.declared.request.Request.{Request}
use Rattle.vll_stream.specs.Private.Callers.{made_so_far}
use Rattle.vll_stream.specs.Private.Faults.{fault_of_round}
use Rattle.vll_stream.specs.Private.Parts.{Place, place_of}
use Rattle.vll_stream.specs.Private.Stopped.{StopsAfter}
use Rattle.vll_stream.specs.Private.Told.{AnswersLines}
use Rattle.vll_stream.specs.declared.fault.StreamFault.{StreamFault}
use Rattle.vll_stream.specs.declared.fault.StreamFault.TheVariants as fault
use Rattle.vll_stream.proofs.Rounds.{round_after, round_breaks_off, round_broken, round_unanswered}
use Rattle.vll_stream.proofs.epoch.serve_round.Given.{Over}
use Rattle.vll_stream.proofs.epoch.serve_round.Goals.{In_ok-round, In_ok-text}
use Rattle.vll_stream.proofs.epoch.serve_round.Goals as goal

pub answer_lines-requires : goal.answer_lines-requires
answer_lines-requires g c =
    let e = g.N.Name.engine in
    let requests = c.in_ok-round.round.requests.items in
    let fits =
    subst (λ (xs : List Request). All (λ (x : ClientCall). Fits (library_of e) x.call) (calls_of xs)) (sym c.as_slice.ensures.value)
    (subst (λ (l : Catalog). All (λ (x : ClientCall). Fits l x.call) (calls_of requests)) c.library.ensures c.in_ok-round.ensures.fits) in
    let low =
    subst (λ (xs : List Request). All (λ (x : ClientCall). x.client < e.clients) (calls_of xs)) (sym c.as_slice.ensures.value)
    (subst (λ (k : ℕ). All (λ (x : ClientCall). x.client < k) (calls_of requests)) c.clients-clients.ensures c.in_ok-round.ensures.clients) in
    search rules

-- the round that was read
read_of : (g : Over) (c : In_ok-round g) → IsRound (library_of g.N.Name.engine) g.N.Name.engine.clients (g.S.Source.remaining c.args.reader.now) (g.S.Source.remaining c.read.new.source) c.args.tail.now.items
    c.read.new.tail.items c.in_ok-round.round
read_of g c =
    let e = g.N.Name.engine in
    let old : Option (List ℕ) = g.S.Source.remaining c.args.reader.now in
    let left : Option (List ℕ) = g.S.Source.remaining c.read.new.source in
    let tail : List ℕ = c.read.new.tail.items in
    subst (λ (k : ℕ). IsRound (library_of e) k old left c.args.tail.now.items tail c.in_ok-round.round) c.clients-clients.ensures
    (subst (λ (l : Catalog). IsRound l c.clients-clients.result old left c.args.tail.now.items tail c.in_ok-round.round) c.library.ensures c.in_ok-round.ensures.round)

-- its answers
answered_of : (g : Over) (c : In_ok-text g) → AnswersLines g.N.Name.engine (made_so_far c.args.callers.now) (made_so_far c.answer_lines.new.callers) c.in_ok-round.round.requests.items c.args.callers.now.counts
    c.in_ok-text.text.items c.answer_lines.new.callers.counts
answered_of g c =
    let e = g.N.Name.engine in
    subst (λ (xs : List Request). AnswersLines e (made_so_far c.args.callers.now) (made_so_far c.answer_lines.new.callers) xs c.args.callers.now.counts c.in_ok-text.text.items c.answer_lines.new.callers.counts)
    c.as_slice.ensures.value c.in_ok-text.ensures.answers

pub returns-clause-round : goal.returns-clause-round
returns-clause-round g c =
    let at = goal.at.returns-clause-round g c in
    let known = g.S.Source.remaining in
    let contents = g.W.Sink.contents in
    let old : Place = place_of known contents c.args.reader.now c.args.tail.now.items c.args.writer.now c.args.callers.now.counts in
    let wrote = subst (Appends old.output (contents c.write_text.new.writer)) c.as_slice-2.ensures.value c.in_ok-write_text.ensures.ok in
    round_after g.N.Name.engine (made_so_far c.args.callers.now) (made_so_far c.answer_lines.new.callers) c.in_ok-round.round old (known c.read.new.source) c.read.new.tail.items (read_of g at.In_ok-round)
    c.answer_lines.new.callers.counts c.in_ok-text.text.items (answered_of g at.In_ok-text) (contents c.write_text.new.writer) wrote

pub returns-in_err-round-clause-err : goal.returns-in_err-round-clause-err
returns-in_err-round-clause-err g c =
    let e = g.N.Name.engine in
    let calls = made_so_far c.args.callers.now in
    let known = g.S.Source.remaining in
    let old : Place = place_of known g.W.Sink.contents c.args.reader.now c.args.tail.now.items c.args.writer.now c.args.callers.now.counts in
    let why = c.in_err-round.field-0.0 in
    let is : c.from_residual.result ≡ Err (fault_of_round why) = search rules in
    subst (λ (r : Result Bool StreamFault). IfErr r (λ w. StopsAfter e.base e.clients calls w old (known c.read.new.source) old.output)) (sym is)
    (round_broken e calls why old (known c.read.new.source) c.requires.callers.found c.requires.tail c.in_err-round.ensures.err)

pub returns-in_err-text-clause-err : goal.returns-in_err-text-clause-err
returns-in_err-text-clause-err g c =
    let e = g.N.Name.engine in
    let calls = made_so_far c.args.callers.now in
    let known = g.S.Source.remaining in
    let old : Place = place_of known g.W.Sink.contents c.args.reader.now c.args.tail.now.items c.args.writer.now c.args.callers.now.counts in
    let read = read_of g (goal.at.returns-in_err-text-clause-err g c).In_ok-round in
    let why = c.in_err-text.field-0.0 in
    let is : c.from_residual-in_err-text.result ≡ Err why = search rules in
    subst (λ (r : Result Bool StreamFault). IfErr r (λ w. StopsAfter e.base e.clients calls w old (known c.read.new.source) old.output)) (sym is)
    (round_unanswered e calls why c.in_ok-round.round old (known c.read.new.source) c.read.new.tail.items read c.requires.callers.found c.in_err-text.ensures.own)

pub returns-in_err-write_text-clause-err : goal.returns-in_err-write_text-clause-err
returns-in_err-write_text-clause-err g c =
    let at = goal.at.returns-in_err-write_text-clause-err g c in
    let e = g.N.Name.engine in
    let calls = made_so_far c.args.callers.now in
    let known = g.S.Source.remaining in
    let contents = g.W.Sink.contents in
    let old : Place = place_of known contents c.args.reader.now c.args.tail.now.items c.args.writer.now c.args.callers.now.counts in
    let wrote = subst (AppendsBeginning old.output (contents c.write_text.new.writer)) c.as_slice-2.ensures.value c.in_err-write_text.ensures.err in
    let is : c.from_residual-in_err-write_text.result ≡ Err fault.Write = search rules in
    subst (λ (r : Result Bool StreamFault). IfErr r (λ w. StopsAfter e.base e.clients calls w old (known c.read.new.source) (contents c.write_text.new.writer))) (sym is)
    (round_breaks_off e calls (made_so_far c.answer_lines.new.callers) c.in_ok-round.round old (known c.read.new.source) c.read.new.tail.items (read_of g at.In_ok-round) c.answer_lines.new.callers.counts
    c.in_ok-text.text.items (answered_of g at.In_ok-text) c.in_ok-text.ensures.callers.found (contents c.write_text.new.writer) c.in_ok-round.ensures.tail wrote)
