-- The procedure of a call that is ready is the one with its number, is well-formed, and has few claims.
use Rattle.std.proofs.Common.{option_map, Bor, sym, ap, ◌∙◌}
use Rattle.vll_proc.proofs.Called.{claims_few}
use Rattle.vll_proc.specs.declared.syntax.Proc.{Proc}
use Rattle.vll_core.proofs.AtWork.{procedure_ready}
use Rattle.vll_bench.proofs.plain.make_ready.Goals as goal

pub load_all-requires : goal.load_all-requires
load_all-requires c =
    let ready = procedure_ready c.args.library.now c.args.call.now c.unwrap-procedure.result.now c.proc.ensures.catalog c.requires (sym c.proc.ensures.procedure ∙ ap (option_map (λ (b : Bor Proc). b.now)) c.unwrap-procedure.ensures) in
    claims_few c.args.library.now.records c.unwrap-procedure.result.now c.args.call.now ready.0 ready.1

pub run-requires-clause-formed : goal.run-requires-clause-formed
run-requires-clause-formed c =
    (procedure_ready c.args.library.now c.args.call.now c.unwrap-procedure.result.now c.proc.ensures.catalog c.requires (sym c.proc.ensures.procedure ∙ ap (option_map (λ (b : Bor Proc). b.now)) c.unwrap-procedure.ensures)).0

pub store_all-requires : goal.store_all-requires
store_all-requires c =
    let ready = procedure_ready c.args.library.now c.args.call.now c.unwrap-procedure.result.now c.proc.ensures.catalog c.requires (sym c.proc.ensures.procedure ∙ ap (option_map (λ (b : Bor Proc). b.now)) c.unwrap-procedure.ensures) in
    claims_few c.args.library.now.records c.unwrap-procedure.result.now c.args.call.now ready.0 ready.1

pub run-requires-clause-made : goal.run-requires-clause-made
run-requires-clause-made c =
    (c.args.library.now.records, (procedure_ready c.args.library.now c.args.call.now c.unwrap-procedure.result.now c.proc.ensures.catalog c.requires (sym c.proc.ensures.procedure ∙ ap (option_map (λ (b : Bor Proc). b.now)) c.unwrap-procedure.ensures)).1)
