-- The text of an outcome of calls that run one at a time.
use Rattle.std.specs.Prelude.{ℕ, List, map, replicate, length}
use Rattle.std.specs.List.{enumerate_from, zip}
use Rattle.vll_proc.specs.declared.syntax.Proc.{Proc}
use Rattle.vll_proc.specs.Headline.Serial.{Made, answer, end}
use Rattle.vll_replay.specs.Headline.Text.{Text, outcome_text}
use Rattle.vll_server.specs.Headline.Text.{answer_text}

-- the outcome of a list of calls that run one at a time: their replies, the last records, and every pair word 0
abbrev pub serial_text : List Proc → List ℕ → List Made → Text
serial_text procs records calls =
    let after = end procs calls records in
    outcome_text
    (map (λ (p : ℕ × Made). (p.1.0, answer_text (answer procs calls records p.0))) (enumerate_from 0 calls))
    (zip after (replicate (length after) 0))
