-- The calls that the clients of an engine have made.
use Rattle.std.specs.Prelude.{◌≡◌, ℕ, ◌<◌, ◌≤◌, List, [], ◌∷◌, ◌++◌, length, take, All, IfSome, Option, Some, None, slice_get, vec_capacity}
use Rattle.vll_proc.specs.declared.call.Call.{Call}
use Rattle.vll_proc.specs.declared.call.Reply.{Reply}
use Rattle.vll_proc.specs.Headline.Serial.{Made, apply, end}
use Rattle.vll_check.specs.Calls.{bare}
use Rattle.vll_counters.specs.Headline.Views.{calls_by}
use Rattle.vll_counters.specs.Shown.{SessionShown}
use Rattle.vll_queue.specs.Headline.Found.{AreFoundThere}
use Rattle.vll_queue.specs.Sessions.{HasItsCalls}
use Rattle.vll_queue.specs.Shown.{Named}
use Rattle.vll_lines.specs.declared.request.ClientCall.{ClientCall}
use Rattle.vll_stream.specs.declared.callers.Callers.{Callers}
use Rattle.vll_stream.specs.declared.snapshot.Snapshot.{Snapshot}

-- what a session has seen, if there is one
abbrev pub seen_by : Option SessionShown → List Made
seen_by None = []
seen_by (Some s) = s.session.seen

-- what the session of a client has seen, if a client is given
abbrev pub seen_of : List SessionShown → Option ℕ → List Made
seen_of sessions None = []
seen_of sessions (Some client) = seen_by (slice_get sessions client)

-- the calls that were made: as many as there are, of those that the informed client has seen
abbrev pub made_so_far : Callers → List Made
made_so_far callers = take callers.calls (seen_of callers.sessions.items callers.informed)

-- these are the records as the first of an engine's calls have left them, and there is room for the lines of all
pub record IsSnapshot (e : Named) (calls : List Made) (s : Snapshot) : Type 0 where
  pub few : s.calls ≤ length calls
  pub values : s.values.items ≡ end e.base.procs (take s.calls calls) e.base.records
  pub room : e.config.limit ≤ vec_capacity s.room

-- the session of an engine's client: of the client's calls it has seen those among these
pub record IsCaller (e : Named) (calls : List Made) (client : ℕ) (s : SessionShown) : Type 0 where
  pub table : s.table ≡ e.table
  pub its : s.session.client ≡ client
  pub own : calls_by client s.session.seen ≡ calls_by client calls

-- all clients of an engine, each with its session, the calls that they have made, each of which has found what was there, and
-- a snapshot of the records
pub record AreCallers (e : Named) (callers : Callers) : Type 0 where
  pub all : length callers.sessions.items ≡ e.clients
  pub each : (client : ℕ) (s : SessionShown) → slice_get callers.sessions.items client ≡ Some s → IsCaller e (made_so_far callers) client s
  pub many : length (made_so_far callers) ≡ callers.calls
  pub informed : IfSome callers.informed (λ client. client < e.clients)
  pub found : AreFoundThere e.base (made_so_far callers)
  pub snapshot : IsSnapshot e (made_so_far callers) callers.snapshot

-- a client has seen all calls that were made, and no more were made
pub record IsInformed (e : Named) (old new : Callers) (client : ℕ) : Type 0 where
  pub callers : AreCallers e new
  pub made : made_so_far new ≡ made_so_far old
  pub informed : new.informed ≡ Some client
  pub calls : new.calls ≡ old.calls
  pub counts : new.counts ≡ old.counts

-- a client has made a call after these, whatever it has found: it has the reply of a serial run, and these are the calls now
pub record MakesCall (e : Named) (calls now : List Made) (request : ClientCall) (reply : Reply) : Type 0 where
  pub call : Call
  pub same : bare call ≡ bare request.call
  pub made : now ≡ calls ++ (request.client, call) ∷ []
  pub replied : reply ≡ (apply e.base.procs call (end e.base.procs calls e.base.records)).reply

-- these are an engine's calls, each of one of its clients, and each of these sessions has seen a beginning of them, with all
-- calls of its client
pub record AreTheCalls (e : Named) (calls : List Made) (sessions : List SessionShown) : Type 0 where
  pub clients : All (λ (m : Made). m.0 < e.clients) calls
  pub seen : All (λ (s : SessionShown). HasItsCalls calls s.session) sessions
