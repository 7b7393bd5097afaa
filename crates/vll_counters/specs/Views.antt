-- What else the views of seats have.
use Rattle.std.specs.Prelude.{List, Option, Some, None}
use Rattle.vll_proc.specs.Headline.Serial.{Made}
use Rattle.vll_counters.specs.declared.views.SessionView.{SessionView}
use Rattle.vll_counters.specs.declared.views.View.{View}
use Rattle.vll_counters.specs.declared.views.View.TheVariants.{Queue, Session, News, Hearing}

-- the session that a seat has: its own, or at the queue's seat the one that has joined it
abbrev pub session_in : View → Option SessionView
session_in (Queue q) = q.session
session_in (Session g) = Some g
session_in (Hearing g calls) = Some g
session_in v = None

-- the calls of the news that a seat has: its own, or at a session's seat those of the news that has joined it
abbrev pub news_in : View → Option (List Made)
news_in (News calls) = Some calls
news_in (Hearing g calls) = Some calls
news_in v = None
