-- Lists of entered calls, and the pass that a seat has.
use Rattle.std.specs.Prelude.{◌≡◌, ℕ, ◌==◌, List, ◌++◌, map, filter, Option, Some, None}
use Rattle.vll_proc.specs.declared.call.Call.{Call}
use Rattle.vll_proc.specs.Headline.Serial.{Made}
use Rattle.vll_core.specs.declared.line.Line.{Line}
use Rattle.vll_counters.specs.declared.views.PassView.{PassView}
use Rattle.vll_counters.specs.declared.views.View.{View}
use Rattle.vll_counters.specs.declared.views.View.TheVariants.{Queue, Pass}

-- the calls of a journal, each with its client
abbrev pub calls_in : List Line → List Made
calls_in lines = map (λ (l : Line). (l.client, l.call)) lines

-- the calls of one client, in their order
abbrev pub calls_by : ℕ → List Made → List Call
calls_by client calls = map (λ (m : Made). m.1) (filter (λ (m : Made). m.0 == client) calls)

-- the second list begins with the first
abbrev pub Begins : List Made → List Made → Type 0
Begins some all = (more : List Made) × (all ≡ some ++ more)

-- the pass that a seat has: its own, or at the queue's seat the one that has joined it
abbrev pub pass_in : View → Option PassView
pass_in (Queue q) = q.pass
pass_in (Pass p) = Some p
pass_in v = None
