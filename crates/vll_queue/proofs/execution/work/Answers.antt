use Rattle.std.proofs.Common.{◌∙◌, sym, ap, subst}
use Rattle.vll_proc.specs.Cells.{Holds}
use Rattle.vll_proc.specs.Headline.Serial.{apply}
use Rattle.vll_check.specs.Catalog.{IsCatalog}
use Rattle.vll_core.specs.State.{is_aborted}
use Rattle.vll_counters.specs.Shown.{PassShown, passed}
use Rattle.vll_counters.specs.Steps.{records_before_pass, reply_of_pass}
use Rattle.vll_queue.specs.Private.Worked.{all_stored}
use Rattle.vll_queue.proofs.Working.{body_ran, claims_there, done_aborted, done_committed, has_procedure}
use Rattle.vll_queue.proofs.execution.work.Goals as goal

pub load_all-requires-clause-there : goal.load_all-requires-clause-there
load_all-requires-clause-there g c =
    claims_there g.N.Name.engine c.args.words.now c.args.seat.now.table c.args.seat.now.pass c.args.call.now (subst IsCatalog c.requires.library c.proc.ensures.catalog) c.requires.fresh.of c.requires.words c.requires.call

pub run-reply-requires-clause-formed : goal.run-reply-requires-clause-formed
run-reply-requires-clause-formed g c =
    (has_procedure g.N.Name.engine c.args.library.now c.args.seat.now.table c.args.seat.now.pass c.args.call.now c.proc.result c.unwrap-procedure.result c.proc.ensures.catalog c.requires.fresh.of c.requires.library c.requires.call c.proc.ensures.procedure c.unwrap-procedure.ensures).formed

pub run-reply-requires-clause-made : goal.run-reply-requires-clause-made
run-reply-requires-clause-made g c =
    (c.args.library.now.records, (has_procedure g.N.Name.engine c.args.library.now c.args.seat.now.table c.args.seat.now.pass c.args.call.now c.proc.result c.unwrap-procedure.result c.proc.ensures.catalog c.requires.fresh.of c.requires.library c.requires.call c.proc.ensures.procedure c.unwrap-procedure.ensures).made)

pub store_all-requires-clause-there : goal.store_all-requires-clause-there
store_all-requires-clause-there g c =
    claims_there g.N.Name.engine c.args.words.now c.args.seat.now.table c.args.seat.now.pass c.args.call.now (subst IsCatalog c.requires.library c.proc.ensures.catalog) c.requires.fresh.of c.requires.words c.requires.call

pub store_all-requires-clause-commits : goal.store_all-requires-clause-commits
store_all-requires-clause-commits g c =
    let has = has_procedure g.N.Name.engine c.args.library.now c.args.seat.now.table c.args.seat.now.pass c.args.call.now c.proc.result c.unwrap-procedure.result c.proc.ensures.catalog c.requires.fresh.of c.requires.library c.requires.call c.proc.ensures.procedure c.unwrap-procedure.ensures in
    let ran = body_ran g.N.Name.engine c.args.words.now c.args.library.now c.args.seat.now.pass c.args.call.now c.unwrap-procedure.result.now c.load_all.new.frame c.run-reply.new.self c.run-reply.result c.requires.words c.requires.library c.requires.call has c.load_all.ensures.frame c.run-reply.ensures.reply c.run-reply.ensures.cells in
    ap (λ (s : PassShown). is_aborted (reply_of_pass c.args.words.now.base s.pass)) c.load_all.ensures.pass ∙ ap is_aborted (ran.reply_is ∙ c.in-Committed.is)

pub store_all-requires-clause-frame : goal.store_all-requires-clause-frame
store_all-requires-clause-frame g c =
    let has = has_procedure g.N.Name.engine c.args.library.now c.args.seat.now.table c.args.seat.now.pass c.args.call.now c.proc.result c.unwrap-procedure.result c.proc.ensures.catalog c.requires.fresh.of c.requires.library c.requires.call c.proc.ensures.procedure c.unwrap-procedure.ensures in
    let ran = body_ran g.N.Name.engine c.args.words.now c.args.library.now c.args.seat.now.pass c.args.call.now c.unwrap-procedure.result.now c.load_all.new.frame c.run-reply.new.self c.run-reply.result c.requires.words c.requires.library c.requires.call has c.load_all.ensures.frame c.run-reply.ensures.reply c.run-reply.ensures.cells in
    subst (λ (s : PassShown). Holds c.run-reply.new.self c.args.call.now.claims (apply c.args.words.now.base.procs s.pass.call (records_before_pass c.args.words.now.base s.pass)).records) (sym c.load_all.ensures.pass) ran.holds

pub returns-in-Committed-clause-done : goal.returns-in-Committed-clause-done
returns-in-Committed-clause-done g c =
    let has = has_procedure g.N.Name.engine c.args.library.now c.args.seat.now.table c.args.seat.now.pass c.args.call.now c.proc.result c.unwrap-procedure.result c.proc.ensures.catalog c.requires.fresh.of c.requires.library c.requires.call c.proc.ensures.procedure c.unwrap-procedure.ensures in
    let ran = body_ran g.N.Name.engine c.args.words.now c.args.library.now c.args.seat.now.pass c.args.call.now c.unwrap-procedure.result.now c.load_all.new.frame c.run-reply.new.self c.run-reply.result c.requires.words c.requires.library c.requires.call has c.load_all.ensures.frame c.run-reply.ensures.reply c.run-reply.ensures.cells in
    let stored = c.store_all.ensures.pass ∙ ap (λ (s : PassShown). passed s (all_stored s.pass)) c.load_all.ensures.pass in
    done_committed g.N.Name.engine c.args.words.now c.args.seat.now _ c.load_all.new.seat.pass.loaded c.run-reply.result c.requires.fresh c.requires.words ran.reply_is
    (ap (λ (s : PassShown). record { table = s.table; pass = s.pass; reply = c.run-reply.result }) stored)

pub returns-in_default-clause-done : goal.returns-in_default-clause-done
returns-in_default-clause-done g c =
    let has = has_procedure g.N.Name.engine c.args.library.now c.args.seat.now.table c.args.seat.now.pass c.args.call.now c.proc.result c.unwrap-procedure.result c.proc.ensures.catalog c.requires.fresh.of c.requires.library c.requires.call c.proc.ensures.procedure c.unwrap-procedure.ensures in
    let ran = body_ran g.N.Name.engine c.args.words.now c.args.library.now c.args.seat.now.pass c.args.call.now c.unwrap-procedure.result.now c.load_all.new.frame c.run-reply.new.self c.run-reply.result c.requires.words c.requires.library c.requires.call has c.load_all.ensures.frame c.run-reply.ensures.reply c.run-reply.ensures.cells in
    done_aborted g.N.Name.engine c.args.words.now c.args.seat.now _ c.load_all.new.seat.pass.loaded c.in_default.field-0 c.requires.fresh c.requires.words (ran.reply_is ∙ c.in_default.is)
    (λ i. record { table = (c.load_all.ensures.pass i).table; pass = (c.load_all.ensures.pass i).pass; reply = c.in_default.is i })
