-- The reply in a line.
use Rattle.std.specs.Prelude.{◌≡◌, ℕ, Option, Some, None, slice_get}
use Rattle.vll_proc.specs.declared.call.Reply.{Reply}
use Rattle.vll_sca.specs.declared.status.Status.TheVariants.{Gone}
use Rattle.vll_core.specs.declared.line.Line.{Line}
use Rattle.vll_core.specs.Queue.{Queued, lines, statuses}

-- the reply in a line, if there is such a line and it has one
abbrev pub reply_in : Option Line → Option Reply
reply_in None = None
reply_in (Some l) = l.reply

-- the call of a ticket is gone, and its line has this reply
pub record HasReply {H : Type 0} (q : Queued H) (ticket : ℕ) (reply : Reply) : Type 0 where
  pub line : Line
  pub at : slice_get (lines q) ticket ≡ Some line
  pub reply_is : line.reply ≡ Some reply
  pub gone : slice_get (statuses q) ticket ≡ Some Gone
