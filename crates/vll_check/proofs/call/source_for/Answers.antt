use Rattle.std.proofs.Common.{◌≡◌, Some, slice_get, rules}
use Rattle.vll_check.proofs.Fitting.{placed_key, key_within}
use Rattle.vll_check.proofs.call.source_for.Goals as goal

pub record_of-requires-clause-placed : goal.record_of-requires-clause-placed
record_of-requires-clause-placed c =
    let p = c.args.procedure.now in
    let at : slice_get p.keys c.args.place ≡ Some c.in_ok-key.key.now = search rules in
    placed_key c.args.records p c.args.call.now c.args.place c.in_ok-key.key.now c.ranges.records.fits c.requires.checked c.requires.made at

pub returns-clause-within : goal.returns-clause-within
returns-clause-within c =
    let p = c.args.procedure.now in
    let at : slice_get p.keys c.args.place ≡ Some c.in_ok-key.key.now = search rules in
    key_within c.args.records p c.args.call.now c.args.place c.in_ok-key.key.now c.in_ok-record_of.field-0 c.requires.checked c.requires.made at (search rules)
