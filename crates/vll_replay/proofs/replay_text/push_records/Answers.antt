use Rattle.std.proofs.Common.{◌≤◌, ◌<◌, length, arith}
use Rattle.vll_replay.specs.Headline.Text.{record_line}
use Rattle.vll_replay.proofs.Standing.{record_words, records-next, texts_from-end}
use Rattle.vll_replay.proofs.replay_text.push_records.Goals as goal

pub loop-record-preserved : goal.loop-record-preserved
loop-record-preserved c =
    let core = c.args.core.now in
    let words = c.words-words.ensures.words in
    let within : c.loop-record.record < length core.base.records = omega (arith, words.long, c.loop-record-test.true) in
    records-next core.base core.state c.words-words.result.now c.loop-record.record _ _ _ words within c.in_ok-push_record_line.ensures c.loop-record.invariant

pub returns : goal.returns
returns c =
    let core = c.args.core.now in
    let words = c.words-words.ensures.words in
    let past : length core.base.records ≤ c.loop-record.record = omega (arith, words.long, c.loop-record-test.false) in
    texts_from-end record_line (record_words core.base core.state) core.base.records c.loop-record.record _ _ past c.loop-record.invariant
