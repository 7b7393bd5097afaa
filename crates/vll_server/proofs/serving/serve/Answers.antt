use Rattle.std.proofs.Common.{◌∙◌, Err, ap}
use Rattle.vll_server.proofs.Served.{as_many}
use Rattle.vll_server.proofs.serving.serve.Goals as goal

-- what was written is the text of what the run has left
pub returns-in-Ok-clause-ok : goal.returns-in-Ok-clause-ok
returns-in-Ok-clause-ok g c = (c.in_ok-closed.closed, c.in_ok-closed.ensures.ok, c.in-Ok.ensures.ok)

-- or a beginning of it
pub returns-clause-write : goal.returns-clause-write
returns-clause-write g c failed =
    let written = c.write_outcome.ensures.write (c.in-Err-Write.is ∙ ap Err c.in-Err-Write.field-0-is) in
    (c.in_ok-closed.closed, c.in_ok-closed.ensures.ok, written)

-- there is a pair word for each record
pub write_outcome-requires-clause-paired : goal.write_outcome-requires-clause-paired
write_outcome-requires-clause-paired g c = as_many c.args.scenario c.in_ok-closed.closed c.in_ok-closed.ensures.ok
