use Rattle.std.proofs.Common.{◌∙◌, ap, List, ℕ, slice_get}
use Rattle.vll_core.proofs.Entries.{copied_item}
use Rattle.vll_core.proofs.WindowEntries.{scan_none, scan_some}
use Rattle.vll_core.proofs.queue.window.Window.scan.Goals as goal

pub returns-in_err-index-clause-found : goal.returns-in_err-index-clause-found
returns-in_err-index-clause-found g c =
    c.from_residual.ensures
    ∙ scan_none (g.H.Place.place_of c.args.hash.now) c.args.bits.now c.args.journal.now c.args.statuses.now c.args.self.now.tickets.items _ _ c.deref.ensures.value c.scan_among.ensures.found c.in_err-index.was

pub returns-clause-found : goal.returns-clause-found
returns-clause-found g c =
    c.copied.ensures
    ∙ scan_some (g.H.Place.place_of c.args.hash.now) c.args.bits.now c.args.journal.now c.args.statuses.now c.args.self.now.tickets.items _ _ c.deref.ensures.value c.scan_among.ensures.found _ _ c.in_ok-index.was
    (copied_item _ _ _ c.get.ensures.lookup ∙ ap (λ (ts : List ℕ). slice_get ts c.in_ok-index.index) c.deref-2.ensures.value)
