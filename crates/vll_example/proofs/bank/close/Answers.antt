-- Each call of the journal may enter, so it keeps the total.
use Rattle.std.proofs.Common.{refl, ap, ◌∙◌, sum}
use Rattle.vll_counters.specs.Headline.Views.{calls_in}
use Rattle.vll_queue.specs.Shown.{library_of}
use Rattle.vll_example.proofs.Total.{journal_keeps}
use Rattle.vll_example.proofs.bank.close.Goals as goal

pub returns : goal.returns
returns g c =
    let e = g.N.Name.engine in
    let serial = c.in_ok-closed.ensures.serial in
    let lines = c.in_ok-closed.closed.journal.items in
    let keep = journal_keeps (library_of e) (sum e.base.records) lines c.requires.procedures serial.ready in
    record { total = ap sum serial.at_end ∙ (c.invariants_carry_over.ensures.end e.base.procs (calls_in lines) e.base.records (refl, refl) keep).1 }
