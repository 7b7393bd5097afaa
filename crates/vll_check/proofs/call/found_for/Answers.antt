use Rattle.std.proofs.Common.{rules}
use Rattle.vll_check.proofs.Common.{source_of}
use Rattle.vll_check.proofs.Fitting.{placed_found, is_there}
use Rattle.vll_check.proofs.call.found_for.Goals as goal

pub call_of-requires-clause-some : goal.call_of-requires-clause-some
call_of-requires-clause-some c =
    let p = c.args.procedure.now in
    let some = is_there (source_of p.keys) (search rules) in
    (placed_found c.args.records p c.args.call.now c.args.value some.0 c.ranges.records.fits c.requires.checked c.requires.made some.1).0

pub call_of-requires-clause-placed : goal.call_of-requires-clause-placed
call_of-requires-clause-placed c =
    let p = c.args.procedure.now in
    let some = is_there (source_of p.keys) (search rules) in
    (placed_found c.args.records p c.args.call.now c.args.value some.0 c.ranges.records.fits c.requires.checked c.requires.made some.1).1

pub returns : goal.returns
returns c = search rules
