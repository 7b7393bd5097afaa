-- The text of an outcome.
use Rattle.std.specs.Prelude.{ℕ, [], map, Option, Some, None}
use Rattle.std.specs.List.{zip}
use Rattle.vll_proc.specs.declared.call.Reply.{Reply}
use Rattle.vll_proc.specs.Headline.Text.{reply_text}
use Rattle.vll_core.specs.declared.line.Line.{Line}
use Rattle.vll_queue.specs.declared.closed.Closed.{Closed}
use Rattle.vll_replay.specs.Headline.Text.{Text, outcome_text}

-- a reply, or nothing if there is none
abbrev pub answer_text : Option Reply → Text
answer_text None = []
answer_text (Some r) = reply_text r

-- a line of the journal as a client and words
abbrev pub line_words : Line → ℕ × Text
line_words l = (l.client, answer_text l.reply)

-- the text of what a run leaves: a line for each call, and one for each record, with the pair word beside it. A run
-- leaves as many pair words as records
abbrev pub closed_text : Closed → Text
closed_text c = outcome_text (map line_words c.journal.items) (zip c.records.items c.pairs.items)
