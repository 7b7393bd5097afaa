use Rattle.std.proofs.Common.{ℕ, ◌<◌, List, [], ◌∷◌, Ok, ap, ◌∙◌, subst, sym}
use Rattle.vll_check.specs.Calls.{Fits}
use Rattle.vll_queue.specs.Shown.{library_of}
use Rattle.vll_lines.specs.Answers.{counts_line, fault_line, records_at, records_line}
use Rattle.vll_lines.specs.declared.counts.Counts.{Counts}
use Rattle.vll_lines.specs.declared.request.ClientCall.{ClientCall}
use Rattle.vll_lines.specs.declared.request.Request.{Request}
use Rattle.vll_stream.specs.Private.Callers.{made_so_far}
use Rattle.vll_stream.specs.Private.Told.{AnswersLines}
use Rattle.vll_stream.proofs.Rounds.{answers_counts, answers_fault, answers_records, call_of_one}
use Rattle.vll_stream.proofs.answering.answer_line.Goals as goal

pub make-requires-clause-client : goal.make-requires-clause-client
make-requires-clause-client g c =
    let inside = rw c.in-Ok-Call.is at c.in-Ok-Call.field-0-is in
    call_of_one (λ (x : ClientCall). x.client < g.N.Name.engine.clients) c.args.request.now c.in-Ok-Call.call (c.in-Ok-Call.is ∙ ap Ok inside) c.requires.clients

pub make-requires-clause-fits : goal.make-requires-clause-fits
make-requires-clause-fits g c =
    let inside = rw c.in-Ok-Call.is at c.in-Ok-Call.field-0-is in
    call_of_one (λ (x : ClientCall). Fits (library_of g.N.Name.engine) x.call) c.args.request.now c.in-Ok-Call.call (c.in-Ok-Call.is ∙ ap Ok inside) c.requires.fits

pub returns-in_ok-push_fault-in-Err-clause-answer : goal.returns-in_ok-push_fault-in-Err-clause-answer
returns-in_ok-push_fault-in-Err-clause-answer g c =
    let a : Request = c.args.request.now in (
      fault_line a.id c.in-Err.why,
      c.in_ok-push_fault-in-Err.ensures,
      answers_fault g.N.Name.engine (made_so_far c.args.callers.now) a c.args.callers.now.counts c.in-Err.why c.in-Err.is,
    )

pub returns-in_ok-push_counts-in-Ok-Counts-clause-answer : goal.returns-in_ok-push_counts-in-Ok-Counts-clause-answer
returns-in_ok-push_counts-in-Ok-Counts-clause-answer g c =
    let e = g.N.Name.engine in
    let a : Request = c.args.request.now in
    let calls = made_so_far c.args.callers.now in
    let from : Counts = c.args.callers.now.counts in
    let inside = rw c.in-Ok-Counts.is at c.in-Ok-Counts.field-0-is in (
      counts_line a.id c.counts-counts.result c.args.so_far,
      c.in_ok-push_counts-in-Ok-Counts.ensures,
      subst (λ (k : Counts). AnswersLines e calls calls (a ∷ []) from (counts_line a.id k c.args.so_far) from) (sym c.counts-counts.ensures)
          (answers_counts e calls a from c.args.so_far (c.in-Ok-Counts.is ∙ ap Ok inside)),
    )

pub returns-in_ok-push_records-in-Ok-Records-clause-answer : goal.returns-in_ok-push_records-in-Ok-Records-clause-answer
returns-in_ok-push_records-in-Ok-Records-clause-answer g c =
    let e = g.N.Name.engine in
    let a : Request = c.args.request.now in
    let calls = made_so_far c.args.callers.now in
    let from : Counts = c.args.callers.now.counts in
    let inside = rw c.in-Ok-Records.is at c.in-Ok-Records.field-0-is in
    let values = c.records-records.ensures ∙ c.in_ok-catch_up-in-Ok-Records.ensures.records in (
      records_line a.id (records_at c.in-Ok-Records.range c.records-records.result.now),
      c.in_ok-push_records-in-Ok-Records.ensures,
      subst (λ (k : Counts). AnswersLines e calls (made_so_far c.catch_up.new.self) (a ∷ []) from (records_line a.id (records_at c.in-Ok-Records.range c.records-records.result.now)) k) (sym c.catch_up.ensures.counts)
          (subst (λ (rs : List ℕ). AnswersLines e calls (made_so_far c.catch_up.new.self) (a ∷ []) from (records_line a.id (records_at c.in-Ok-Records.range rs)) from) (sym values)
          (answers_records e calls (made_so_far c.catch_up.new.self) a from c.in-Ok-Records.range (c.in-Ok-Records.is ∙ ap Ok inside) c.in_ok-catch_up-in-Ok-Records.ensures.made)),
    )
