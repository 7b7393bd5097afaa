-- The procedure of a call that is ready is the one with its number, is well-formed, and has few claims.
use Rattle.std.proofs.Common.{option_map, Bor, sym, ap, ◌∙◌}
use Rattle.vll_proc.proofs.Called.{claims_few}
use Rattle.vll_proc.specs.declared.syntax.Proc.{Proc}
use Rattle.vll_core.proofs.AtWork.{procedure_ready}
use Rattle.vll_bench.proofs.table.make_ready.Goals as goal

pub make_from-requires-clause-formed : goal.make_from-requires-clause-formed
make_from-requires-clause-formed g c =
    (procedure_ready c.args.library.now c.args.call.now c.unwrap-procedure.result.now c.proc.ensures.catalog c.requires (sym c.proc.ensures.procedure ∙ ap (option_map (λ (b : Bor Proc). b.now)) c.unwrap-procedure.ensures)).0

pub make_from-requires-clause-made : goal.make_from-requires-clause-made
make_from-requires-clause-made g c =
    (c.args.library.now.records, (procedure_ready c.args.library.now c.args.call.now c.unwrap-procedure.result.now c.proc.ensures.catalog c.requires (sym c.proc.ensures.procedure ∙ ap (option_map (λ (b : Bor Proc). b.now)) c.unwrap-procedure.ensures)).1)

pub make_from-requires-clause-few : goal.make_from-requires-clause-few
make_from-requires-clause-few g c =
    let ready = procedure_ready c.args.library.now c.args.call.now c.unwrap-procedure.result.now c.proc.ensures.catalog c.requires (sym c.proc.ensures.procedure ∙ ap (option_map (λ (b : Bor Proc). b.now)) c.unwrap-procedure.ensures) in
    claims_few c.args.library.now.records c.unwrap-procedure.result.now c.args.call.now ready.0 ready.1
