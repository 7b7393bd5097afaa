use Rattle.std.proofs.Common.{refl, arith}
use Rattle.vll_core.proofs.Common.{claims_few}
use Rattle.vll_core.proofs.AtWork.{loading_of, loading_next}
use Rattle.vll_core.proofs.execution.Execution.load.Goals as goal

pub put-requires : goal.put-requires
put-requires c = omega (arith, c.requires.left, claims_few c.requires.made.0 c.args.procedure.now c.args.call.now c.requires.formed c.requires.made.1)

pub overflow_add-self : goal.overflow_add-self
overflow_add-self c = omega (arith, c.requires.left, claims_few c.requires.made.0 c.args.procedure.now c.args.call.now c.requires.formed c.requires.made.1)

pub returns-clause-at_work : goal.returns-clause-at_work
returns-clause-at_work c = λ procs records d is made known here value execution.
    let call = c.args.call.now in
    let few = claims_few c.requires.made.0 c.args.procedure.now call c.requires.formed c.requires.made.1 in
    c.run_if_loaded.ensures.at_work procs records is made known
    (loading_next call.claims records c.args.self.now _ c.args.value d few (loading_of procs call records c.args.self.now execution c.requires.left) here value refl c.put.ensures refl)
