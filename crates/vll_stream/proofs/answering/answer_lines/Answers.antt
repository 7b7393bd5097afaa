use Rattle.std.proofs.Common.{◌≡◌, ◌<◌, ◌+◌, ◌∷◌, ◌++◌, List, Some, [], length, take, slice_get, refl, sym, subst}
use Rattle.std.proofs.lemmas.Option.{slice_get_read}
use Rattle.vll_check.specs.Calls.{Fits}
use Rattle.vll_core.proofs.Places.{take_next}
use Rattle.vll_queue.specs.Shown.{library_of}
use Rattle.vll_lines.specs.declared.request.ClientCall.{ClientCall}
use Rattle.vll_lines.specs.declared.request.Request.{Request}
use Rattle.vll_stream.specs.Private.Callers.{made_so_far}
use Rattle.vll_stream.specs.Private.Told.{AnswersLines}
use Rattle.vll_stream.proofs.Rounds.{answers_none, answers_then, calls_at}
use Rattle.vll_stream.proofs.answering.answer_lines.Goals as goal

pub loop-request-init : goal.loop-request-init
loop-request-init g c =
    let e = g.N.Name.engine in
    let calls = made_so_far c.args.callers.now in
    let n = c.args.callers.now.counts in
    (c.requires.callers, subst (λ (text : List _). AnswersLines e calls calls [] n text n) (sym c.new-text.ensures.items) (answers_none e calls n))

pub answer_line-requires-clause-callers : goal.answer_line-requires-clause-callers
answer_line-requires-clause-callers g c = c.loop-request.invariant.0

pub answer_line-requires-clause-clients : goal.answer_line-requires-clause-clients
answer_line-requires-clause-clients g c =
    let requests = c.args.requests.now in
    let i = c.loop-request.request-index in
    calls_at (λ (x : ClientCall). x.client < g.N.Name.engine.clients) requests i c.request-item.result (slice_get_read requests (length requests) i c.request-item.result refl c.loop-request-test.true c.request-item.is) c.requires.clients

pub answer_line-requires-clause-fits : goal.answer_line-requires-clause-fits
answer_line-requires-clause-fits g c =
    let requests = c.args.requests.now in
    let i = c.loop-request.request-index in
    calls_at (λ (x : ClientCall). Fits (library_of g.N.Name.engine) x.call) requests i c.request-item.result (slice_get_read requests (length requests) i c.request-item.result refl c.loop-request-test.true c.request-item.is)
    c.requires.fits

pub loop-request-preserved : goal.loop-request-preserved
loop-request-preserved g c =
    let e = g.N.Name.engine in
    let requests = c.args.requests.now in
    let l = c.loop-request in
    let i = l.request-index in
    let request : Request = c.request-item.result in
    let first = made_so_far c.args.callers.now in
    let now = made_so_far c.answer_line.new.callers in
    let n = c.args.callers.now.counts in
    let next = c.answer_line.new.callers.counts in
    let at : slice_get requests i ≡ Some request = slice_get_read requests (length requests) i request refl c.loop-request-test.true c.request-item.is in
    let more = c.in_ok-text.ensures.answer in
    let both = answers_then e first (made_so_far l.callers) now (take i requests) (request ∷ []) n l.callers.counts next l.text.items more.0 l.invariant.1 more.2 in (
      c.in_ok-text.ensures.callers,
      subst (λ (text : List _). AnswersLines e first now (take (i + 1) requests) n text next) (sym more.1)
          (subst (λ (xs : List Request). AnswersLines e first now xs n (l.text.items ++ more.0) next) (sym (take_next requests i request at)) both),
    )
