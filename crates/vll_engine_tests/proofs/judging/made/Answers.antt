-- The procedure of a call that is ready is the one with its number, is well-formed, and has few claims.
use Rattle.std.proofs.Common.{option_map, Bor, sym, ap, ◌∙◌}
use Rattle.vll_proc.proofs.Called.{claims_few}
use Rattle.vll_proc.specs.declared.syntax.Proc.{Proc}
use Rattle.vll_core.proofs.AtWork.{procedure_ready}
use Rattle.vll_engine_tests.proofs.judging.made.Goals as goal

pub loaded-frame-requires : goal.loaded-frame-requires
loaded-frame-requires g c =
    let ready = procedure_ready c.args.library.now c.args.call.now c.unwrap-procedure.result.now c.proc.ensures.catalog c.requires (sym c.proc.ensures.procedure ∙ ap (option_map (λ (b : Bor Proc). b.now)) c.unwrap-procedure.ensures) in
    claims_few c.args.library.now.records c.unwrap-procedure.result.now c.args.call.now ready.0 ready.1

pub run-reply-requires-clause-formed : goal.run-reply-requires-clause-formed
run-reply-requires-clause-formed g c =
    (procedure_ready c.args.library.now c.args.call.now c.unwrap-procedure.result.now c.proc.ensures.catalog c.requires (sym c.proc.ensures.procedure ∙ ap (option_map (λ (b : Bor Proc). b.now)) c.unwrap-procedure.ensures)).0

pub store-requires : goal.store-requires
store-requires g c =
    let ready = procedure_ready c.args.library.now c.args.call.now c.unwrap-procedure.result.now c.proc.ensures.catalog c.requires (sym c.proc.ensures.procedure ∙ ap (option_map (λ (b : Bor Proc). b.now)) c.unwrap-procedure.ensures) in
    claims_few c.args.library.now.records c.unwrap-procedure.result.now c.args.call.now ready.0 ready.1

pub run-reply-requires-clause-made : goal.run-reply-requires-clause-made
run-reply-requires-clause-made g c =
    (c.args.library.now.records, (procedure_ready c.args.library.now c.args.call.now c.unwrap-procedure.result.now c.proc.ensures.catalog c.requires (sym c.proc.ensures.procedure ∙ ap (option_map (λ (b : Bor Proc). b.now)) c.unwrap-procedure.ensures)).1)
