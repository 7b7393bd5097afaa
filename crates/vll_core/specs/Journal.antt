-- The journal: the entered calls in order of entry, with the replies of those that are finished.
use Rattle.std.specs.Prelude.{ℕ, List, map, Option, Some, None, if◌then◌else◌}
use Rattle.std.specs.List.{enumerate_from}
use Rattle.vll_proc.specs.declared.call.Reply.{Reply}
use Rattle.vll_core.specs.declared.line.Line.{Line}
use Rattle.vll_sca.specs.Status.{is_gone}
use Rattle.vll_core.specs.Headline.State.{Base}
use Rattle.vll_core.specs.State.{Entered, State, reply_at}

module _ (o : Base) (s : State) where
  -- a finished call has the reply that it gives if the calls run one at a time; other calls have none
  abbrev pub reply_of : ℕ → Entered → Option Reply
  reply_of t e = if is_gone e.status then Some (reply_at o s t e) else None

  -- the line of a ticket
  abbrev pub line_of : ℕ × Entered → Line
  line_of (t, e) = record { client = e.client; call = e.call; reply = reply_of t e }

  -- the lines by ticket
  abbrev pub journal_of : List Line
  journal_of = map line_of (enumerate_from 0 s.entries)
