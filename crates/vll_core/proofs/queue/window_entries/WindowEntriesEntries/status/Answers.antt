use Rattle.std.proofs.Common.{◌<◌, length, get_or, arith}
use Rattle.vll_core.proofs.Common.{length-map, slice_get-get_or, Running, entry_at}
use Rattle.vll_core.proofs.WindowEntries.{status_at}
use Rattle.vll_core.proofs.queue.window_entries.WindowEntriesEntries.status.Goals as goal

pub returns : goal.returns
returns c =
    let w = c.args.self.now in
    let ts = w.tickets.now in
    let ss = w.statuses.now in
    let t = get_or ts c.args.index 0 in
    let within : c.args.index < length ts = omega (arith, c.requires, length-map ts (entry_at w.journal.now ss)) in
    status_at w.journal.now ss ts c.args.index t (get_or ss t Running) w.lines (slice_get-get_or ts c.args.index 0 within) (slice_get-get_or ss t Running (w.below c.args.index 0 within))
