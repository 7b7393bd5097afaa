-- The source is a key position of the procedure, and each has one of the cells.
use Rattle.std.proofs.Common.{arith, sym, ◌∙◌}
use Rattle.vll_proc.proofs.Called.{keys_few, HasCells-made, source_within}
use Rattle.vll_proc.proofs.frame.Frame.has_moved.Goals as goal

pub bounds-call-source : goal.bounds-call-source
bounds-call-source c =
    let within = source_within c.args.procedure.now c.in-Some-source.source c.requires.formed (sym c.source.ensures ∙ c.in-Some-source.is) in
    let few = keys_few c.args.procedure.now c.requires.formed in
    omega arith

pub get-requires : goal.get-requires
get-requires c =
    let within = source_within c.args.procedure.now c.in-Some-source.source c.requires.formed (sym c.source.ensures ∙ c.in-Some-source.is) in
    let few = keys_few c.args.procedure.now c.requires.formed in
    HasCells-made c.requires.made.0 c.args.procedure.now c.args.call.now c.requires.formed c.requires.made.1 c.in-Some-source.source (omega arith)
