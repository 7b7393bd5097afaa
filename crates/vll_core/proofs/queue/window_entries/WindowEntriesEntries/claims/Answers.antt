use Rattle.std.proofs.Common.{◌<◌, length, get_or, arith}
use Rattle.vll_core.proofs.Common.{length-map, slice_get-get_or, entry_at}
use Rattle.vll_core.proofs.WindowEntries.{claims_at}
use Rattle.vll_core.proofs.queue.window_entries.WindowEntriesEntries.claims.Goals as goal

pub returns : goal.returns
returns c =
    let w = c.args.self.now in
    let ts = w.tickets.now in
    let ls = w.journal.now in
    let l = c.index-self-self.result in
    let t = get_or ts c.args.index 0 in
    let within : c.args.index < length ts = omega (arith, c.requires, length-map ts (entry_at ls w.statuses.now)) in
    let below : t < length ls = omega (arith, w.below c.args.index 0 within, w.lines) in
    claims_at ls w.statuses.now ts c.args.index t (get_or ls t l) w.lines (slice_get-get_or ts c.args.index 0 within) (slice_get-get_or ls t l below)
