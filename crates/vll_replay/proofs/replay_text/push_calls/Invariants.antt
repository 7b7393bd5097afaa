use Rattle.std.proofs.Common.{◌≡◌, ◌++◌, string_bytes}
use Rattle.vll_replay.specs.ReplayText.{call_words}
use Rattle.vll_replay.specs.Headline.Text.{call_line}
use Rattle.vll_replay.proofs.Standing.{texts_from}
use Rattle.vll_replay.proofs.replay_text.push_calls.Given as goal

abbrev pub invariant-loop-ticket : goal.invariant-loop-ticket
invariant-loop-ticket l =
    let words = call_words l.core.base l.core.state in
    string_bytes l.text ++ texts_from call_line words l.core.state.entries l.ticket ≡ string_bytes l.initial.text ++ texts_from call_line words l.core.state.entries 0
