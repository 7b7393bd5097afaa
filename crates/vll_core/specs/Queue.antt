-- The queue: the entered calls in order of entry, each with its line and its status.
use Rattle.std.specs.Prelude.{◌≡◌, ℕ, ◌≤◌, Bool, not, List, [], ◌∷◌, ◌++◌, map, length, count_by, position, Option, Some, None, is_some, slice_get, slice_set, if◌then◌else◌}
use Rattle.vll_proc.specs.declared.call.Call.{Call}
use Rattle.vll_proc.specs.declared.call.Reply.{Reply}
use Rattle.vll_sca.specs.declared.bits.TheConstants.{MOST_BITS}
use Rattle.vll_core.specs.declared.config.TheConstants.{MOST_CALLS, MOST_WAITING}
use Rattle.vll_core.specs.declared.config.Config.{Config}
use Rattle.vll_core.specs.declared.line.Line.{Line}
use Rattle.vll_sca.specs.declared.entry.Entry.{Entry}
use Rattle.vll_sca.specs.Scan.{scan}
use Rattle.vll_sca.specs.declared.status.Status.{Status}
use Rattle.vll_sca.specs.declared.status.Status.TheVariants.{Running, Waiting, Gone}
use Rattle.vll_sca.specs.Headline.Status.{is_waiting}
use Rattle.vll_sca.specs.Status.{is_gone}

-- a call in the queue: its line in the journal, and its status
pub record QueueEntry : Type 0 where
  pub line : Line
  pub status : Status

-- how many calls may wait and how many may be entered, the number of bits and the hash of the contention analysis,
-- and the entered calls by ticket
pub record Queued (H : Type 0) : Type 0 where
  pub cap : ℕ
  pub limit : ℕ
  pub bits : ℕ
  pub hash : H
  pub entries : List QueueEntry

-- the lines by ticket
abbrev pub lines : {H : Type 0} → Queued H → List Line
lines q = map (λ (e : QueueEntry). e.line) q.entries

-- the statuses by ticket
abbrev pub statuses : {H : Type 0} → Queued H → List Status
statuses q = map (λ (e : QueueEntry). e.status) q.entries

-- a line has a reply
abbrev pub has_reply : Line → Bool
has_reply l = is_some l.reply

-- a call runs or waits
abbrev pub is_left : Status → Bool
is_left s = not (is_gone s)

-- what is true of every queue: the limit, the cap and the number of bits are within their bounds, the limit and the cap
-- are not exceeded, and a line has a reply exactly if its call is gone
pub record IsQueued {H : Type 0} (q : Queued H) : Type 0 where
  pub some_calls : 1 ≤ q.limit
  pub few_calls : q.limit ≤ MOST_CALLS
  pub some_wait : 1 ≤ q.cap
  pub few_wait : q.cap ≤ MOST_WAITING
  pub some_bits : 1 ≤ q.bits
  pub few_bits : q.bits ≤ MOST_BITS
  pub capped : count_by is_waiting (statuses q) ≤ q.cap
  pub within : length q.entries ≤ q.limit
  pub answered : map has_reply (lines q) ≡ map is_gone (statuses q)

-- a queue in which nothing is entered
abbrev pub empty : {H : Type 0} → Config → H → Queued H
empty config hash = record { cap = config.cap; limit = config.limit; bits = config.bits; hash = hash; entries = [] }

-- what was chosen at the opening of a queue
abbrev pub config_of : {H : Type 0} → Queued H → Config
config_of q = record { cap = q.cap; limit = q.limit; bits = q.bits }

-- the same queue with nothing entered
abbrev pub emptied : {H : Type 0} → Queued H → Queued H
emptied q = record q { entries = [] }

-- a call that enters, without a reply: it runs if all its requests were granted, else it waits
abbrev pub entry : ℕ → Call → Bool → QueueEntry
entry client call free =
    record { line = record { client = client; call = call; reply = None }; status = if free then Running else Waiting }

-- an entry is put at the end
abbrev pub admitted : {H : Type 0} → Queued H → QueueEntry → Queued H
admitted q e = record q { entries = q.entries ++ e ∷ [] }

-- an entry is changed at its place; if there is none, nothing changes
abbrev pub changed_at : List QueueEntry → ℕ → (QueueEntry → QueueEntry) → List QueueEntry
changed_at es t change = elim (slice_get es t) [ None ↦ es | Some e ↦ slice_set es t (change e) ]

-- the call of a ticket runs
abbrev pub started : {H : Type 0} → Queued H → ℕ → Queued H
started q t = record q { entries = changed_at q.entries t (λ e. record e { status = Running }) }

-- the call of a ticket is gone, and its line has the reply
abbrev pub finished : {H : Type 0} → Queued H → ℕ → Reply → Queued H
finished q t reply =
    record q { entries = changed_at q.entries t (λ e. record { line = record e.line { reply = Some reply }; status = Gone }) }

-- a ticket, if its call waits
abbrev pub waiting_ticket : ℕ → Option Status → Option ℕ
waiting_ticket t None = None
waiting_ticket t (Some s) = if is_waiting s then Some t else None

-- the lowest ticket that is not gone, if it waits
abbrev pub front_among : List Status → Option ℕ
front_among ss = elim (position is_left ss) [ None ↦ None | Some t ↦ waiting_ticket t (slice_get ss t) ]

-- the queue after a ticket was found: if there is one, its call runs
abbrev pub started_if : {H : Type 0} → Queued H → Option ℕ → Queued H
started_if q None = q
started_if q (Some t) = started q t

-- the queue after its front is started, if it waits
abbrev pub fronted : {H : Type 0} → Queued H → Queued H
fronted q = started_if q (front_among (statuses q))

-- an entry as the contention analysis sees it
abbrev pub analysed : QueueEntry → Entry
analysed e = record { claims = e.line.call.claims; status = e.status }

-- the ticket that the contention analysis finds, by the places that the hash gives to records
abbrev pub found_by : {H : Type 0} → (H → ℕ → ℕ) → Queued H → Option ℕ
found_by place q = scan (place q.hash) q.bits (map analysed q.entries)

-- the queue after it was scanned: if a ticket is found, its call runs
abbrev pub scanned : {H : Type 0} → (H → ℕ → ℕ) → Queued H → Queued H
scanned place q = started_if q (found_by place q)
