use Rattle.std.proofs.Common.{◌≡◌, ◌++◌, string_bytes}
use Rattle.vll_replay.specs.Headline.Text.{record_line}
use Rattle.vll_replay.proofs.Standing.{record_words, texts_from}
use Rattle.vll_replay.proofs.replay_text.push_records.Given as goal

abbrev pub invariant-loop-record : goal.invariant-loop-record
invariant-loop-record l =
    let words = record_words l.core.base l.core.state in
    string_bytes l.text ++ texts_from record_line words l.core.base.records l.record ≡ string_bytes l.initial.text ++ texts_from record_line words l.core.base.records 0
