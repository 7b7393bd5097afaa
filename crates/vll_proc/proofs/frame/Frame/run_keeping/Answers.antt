-- The body may run on the cells, and what it ends with there is what it ends with on the records.
use Rattle.std.proofs.Common.{drop, sym, ap, ◌∙◌}
use Rattle.vll_proc.proofs.Common.{MOST_CLAIMS}
use Rattle.vll_proc.proofs.Called.{HasCells-made, HasCellsBelow-made}
use Rattle.vll_proc.proofs.Kept.{length-ended}
use Rattle.vll_proc.proofs.Runs.{begins_on, put_back, keys_known, args_known, told}
use Rattle.vll_proc.proofs.frame.Frame.run_keeping.Goals as goal

pub steps-requires-clause-cells : goal.steps-requires-clause-cells
steps-requires-clause-cells g c = HasCells-made c.requires.made.0 c.args.procedure.now c.args.call.now c.requires.formed c.requires.made.1

pub steps-requires-clause-keys : goal.steps-requires-clause-keys
steps-requires-clause-keys g c = rw c.as_slice.ensures (keys_known c.args.procedure.now c.requires.formed)

pub steps-requires-clause-args : goal.steps-requires-clause-args
steps-requires-clause-args g c = rw c.as_slice.ensures (args_known c.args.procedure.now c.requires.formed)

pub returns-in-Ok-clause-reply : goal.returns-in-Ok-clause-reply
returns-in-Ok-clause-reply g c = λ records made holds.
    let whole = rw c.self.view_is at c.self.told in
    let ended = begins_on c.args.procedure.now c.args.call.now c.args.self.now _ c.requires.stays (rw (c.as_slice.ensures, c.new.ensures) at c.in-Ok.ensures.effect) in
    sym (told c.args.procedure.now c.args.call.now c.args.self.now records _ c.requires.formed made whole ended holds).0

pub returns-in-Ok-clause-cells : goal.returns-in-Ok-clause-cells
returns-in-Ok-clause-cells g c = λ records made holds.
    let whole = rw c.self.view_is at c.self.told in
    let ended = begins_on c.args.procedure.now c.args.call.now c.args.self.now _ c.requires.stays (rw (c.as_slice.ensures, c.new.ensures) at c.in-Ok.ensures.effect) in
    (told c.args.procedure.now c.args.call.now c.args.self.now records _ c.requires.formed made whole ended holds).1

pub returns-in-Err-clause-reply : goal.returns-in-Err-clause-reply
returns-in-Err-clause-reply g c = λ records made holds.
    let whole = rw c.self.view_is at c.self.told in
    let ended = begins_on c.args.procedure.now c.args.call.now c.args.self.now _ c.requires.stays (rw (c.as_slice.ensures, c.new.ensures) at c.in-Err.ensures.effect) in
    sym (told c.args.procedure.now c.args.call.now c.args.self.now records _ c.requires.formed made whole ended holds).0

pub returns-in-Ok-clause-whole : goal.returns-in-Ok-clause-whole
returns-in-Ok-clause-whole g c =
    let whole = rw c.self.view_is at c.self.told in
    length-ended MOST_CLAIMS c.as_slice.result.now _ _ whole c.in-Ok.ensures.effect

pub returns-in-Err-clause-aborted : goal.returns-in-Err-clause-aborted
returns-in-Err-clause-aborted g c = λ why is.
    let kept = c.copy_from_slice-in-Err.ensures.after ∙ c.copy_from_slice.ensures.after in
    let below = HasCellsBelow-made c.requires.made.0 g.row.KEPT c.args.procedure.now c.args.call.now c.requires.formed c.requires.made.1 c.requires.some c.requires.claims in
    put_back g.row.KEPT c.args.self.now c.steps.new.cells _ _ (rw c.self.view_is at kept) (ap (drop g.row.KEPT) c.self-2.view_is) (c.steps.ensures.others g.row.KEPT below)

pub returns-in-Err-clause-cells : goal.returns-in-Err-clause-cells
returns-in-Err-clause-cells g c = λ records made holds.
    let whole = rw c.self.view_is at c.self.told in
    let ended = begins_on c.args.procedure.now c.args.call.now c.args.self.now _ c.requires.stays (rw (c.as_slice.ensures, c.new.ensures) at c.in-Err.ensures.effect) in
    let kept = c.copy_from_slice-in-Err.ensures.after ∙ c.copy_from_slice.ensures.after in
    let below = HasCellsBelow-made c.requires.made.0 g.row.KEPT c.args.procedure.now c.args.call.now c.requires.formed c.requires.made.1 c.requires.some c.requires.claims in
    let back = put_back g.row.KEPT c.args.self.now c.steps.new.cells _ _ (rw c.self.view_is at kept) (ap (drop g.row.KEPT) c.self-2.view_is) (c.steps.ensures.others g.row.KEPT below) in
    rw back (told c.args.procedure.now c.args.call.now c.args.self.now records _ c.requires.formed made whole ended holds).1
