use Rattle.std.proofs.Common.{◌≡◌, length, Some, ap, sym, ◌∙◌, arith}
use Rattle.vll_core.proofs.Common.{exact_unsigned_eq, Holds, applied_at}
use Rattle.vll_core.proofs.AtWork.{holds_all}
use Rattle.vll_core.proofs.execution.Execution.run_if_loaded.Goals as goal

pub returns-then-has_loaded-clause-at_work : goal.returns-then-has_loaded-clause-at_work
returns-then-has_loaded-clause-at_work c = λ procs records is made known loading.
    let execution = c.args.self.now in
    let call = c.args.call.now in
    let all : execution.loads ≡ length call.claims = exact_unsigned_eq execution.loads (length call.claims) (sym c.has_loaded.ensures ∙ c.if-has_loaded.true) in
    let held : Holds execution.frame call.claims records = holds_all execution.loads execution.frame call.claims records all known loading.loaded in
    let found = ap (λ p. applied_at p call records) is in
    record {
      within = loading.within;
      whole = c.run-reply.ensures.whole;
      loaded = λ left. absurd (omega (arith, left, all));
      pending = λ left. absurd (omega (arith, left, all));
      ran = λ done. rw found (ap Some (c.run-reply.ensures.reply records made held));
      holds = λ done. rw found (c.run-reply.ensures.cells records made held);
    }
