use Rattle.std.proofs.Common.{◌≡◌, ◌≤◌, Some, length, refl, ap, arith}
use Rattle.std.specs.List.{slice_get}
use Rattle.std.proofs.lemmas.Option.{slice_get_read}
use Rattle.vll_core.specs.Journal.{journal_of}
use Rattle.vll_replay.specs.ReplayText.{call_words}
use Rattle.vll_replay.specs.Headline.Text.{call_line}
use Rattle.vll_replay.proofs.Standing.{calls-next, journal-length, texts_from-end}
use Rattle.vll_replay.proofs.replay_text.push_calls.Goals as goal

pub loop-ticket-preserved : goal.loop-ticket-preserved
loop-ticket-preserved c =
    let core = c.args.core.now in
    let line = c.index-journal-ticket.result in
    let journal : slice_get (journal_of core.base core.state) c.loop-ticket.ticket ≡ Some line =
    rw (← c.journal-journal.ensures.lines) (slice_get_read c.journal-journal.result.now _ c.loop-ticket.ticket line refl c.loop-ticket-test.true c.index-journal-ticket.is) in
    calls-next core.base core.state c.loop-ticket.ticket line c.state-status.result _ _ _ journal c.state-status.ensures c.in_ok-push_call.ensures c.loop-ticket.invariant

pub returns : goal.returns
returns c =
    let core = c.args.core.now in
    let past : length core.state.entries ≤ c.loop-ticket.ticket = omega (arith, c.loop-ticket-test.false, journal-length core.base core.state, ap length c.journal-journal.ensures.lines) in
    texts_from-end call_line (call_words core.base core.state) core.state.entries c.loop-ticket.ticket _ _ past c.loop-ticket.invariant
