-- The words of a call, given its line and its status.
use Rattle.std.specs.Prelude.{Option, Some, None, codes}
use Rattle.vll_proc.specs.declared.call.Reply.{Reply}
use Rattle.vll_sca.specs.declared.status.Status.{Status}
use Rattle.vll_sca.specs.declared.status.Status.TheVariants.{Waiting}
use Rattle.vll_proc.specs.Headline.Text.{reply_text}
use Rattle.vll_replay.specs.Headline.Text.{Text}

-- the reply in the line if there is one, else the status
abbrev pub standing_text : Option Reply → Option Status → Text
standing_text (Some reply) status = reply_text reply
standing_text None (Some Waiting) = codes "waiting"
standing_text None other = codes "running"
