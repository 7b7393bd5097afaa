-- The state of the plain machine, and what counters and values are in it.
use Rattle.std.specs.Prelude.{ℕ, Bool, true, false, ◌&&◌, ◌==◌, not, List, [], ◌++◌, map, filter, length, take, drop, Option, Some, None, slice_index, if◌then◌else◌}
use Rattle.std.specs.List.{list_any, flat_map, enumerate_from, position_or_len}
use Rattle.vll_record.specs.declared.claim.Claim.{Claim}
use Rattle.vll_record.specs.Headline.Claim.{is_write}
use Rattle.vll_record.specs.Claim.{conflict}
use Rattle.vll_record.specs.Headline.Counter.{claims_on, pair_word_of}
use Rattle.vll_record.specs.Counter.{delta_of}
use Rattle.vll_proc.specs.declared.call.Call.{Call}
use Rattle.vll_proc.specs.declared.call.Reply.{Reply}
use Rattle.vll_proc.specs.declared.call.Reply.TheVariants.{Committed, Aborted}
use Rattle.vll_proc.specs.Headline.Serial.{Made, apply, before}
use Rattle.vll_sca.specs.declared.status.Status.{Status}
use Rattle.vll_core.specs.Headline.State.{Base}

-- what is fixed from the opening on: the base, how many calls may be entered and how many may wait, and for the
-- contention analysis the hash as the places that it gives to records, and the number of bits
pub record Opening : Type 0 where
  pub base : Base
  pub cap : ℕ
  pub limit : ℕ
  pub bits : ℕ
  pub place : ℕ → ℕ

-- an entered call, with the numbers of its loads, stores and releases
pub record Entered : Type 0 where
  pub client : ℕ
  pub call : Call
  pub status : Status
  pub loads : ℕ
  pub stores : ℕ
  pub releases : ℕ

-- the call whose turn is open, the number of its claims requested so far, and whether all of these were granted
pub record Turn : Type 0 where
  pub client : ℕ
  pub call : Call
  pub requested : ℕ
  pub granted : Bool

-- the entered calls in order, the open turn, and for each script the calls that are left and the value kept for the
-- first of these
pub record State : Type 0 where
  pub entries : List Entered
  pub turn : Option Turn
  pub scripts : List (List Call)
  pub kept : List (Option ℕ)

-- an entered call as a client and its call
abbrev pub made : Entered → Made
made e = (e.client, e.call)

-- the calls in order of entry
abbrev pub entered : State → List Made
entered s = map made s.entries

-- the claims that a call has requested and not released
abbrev pub open_of : Entered → List Claim
open_of e = drop e.releases e.call.claims

-- the claims that the open turn has requested
abbrev pub requested_of : Option Turn → List Claim
requested_of None = []
requested_of (Some t) = take t.requested t.call.claims

-- the open claims of a state
abbrev pub open_claims : State → List Claim
open_claims s = flat_map open_of s.entries ++ requested_of s.turn

-- CX * 2^32 + CS of a record
abbrev pub counter : State → ℕ → ℕ
counter s r = pair_word_of (claims_on r (open_claims s))

-- what a claim adds to the counter of a record
abbrev pub delta_on : ℕ → Claim → ℕ
delta_on r c = if c.id == r then delta_of c.mode else 0

-- the Write claims of a call
abbrev pub writes : Call → List Claim
writes c = filter is_write c.claims

-- the reply of a call that aborted
abbrev pub is_aborted : Reply → Bool
is_aborted (Committed outputs) = false
is_aborted (Aborted why) = true

module _ (o : Base) where
  -- the records before ticket t, if the calls run one at a time
  abbrev pub records_before : State → ℕ → List ℕ
  records_before s t = before o.procs (entered s) o.records t

  -- what the call at ticket t replies, if the calls run one at a time
  abbrev pub reply_at : State → ℕ → Entered → Reply
  reply_at s t e = (apply o.procs e.call (records_before s t)).reply

  -- a call has aborted if all its loads are made and its reply is Aborted
  abbrev pub has_aborted : State → ℕ → Entered → Bool
  has_aborted s t e = (e.loads == length e.call.claims) && is_aborted (reply_at s t e)

  -- ticket t has a Write claim on r, has not stored r, and has not aborted
  abbrev pub will_store : State → ℕ → ℕ × Entered → Bool
  will_store s r (t, e) =
      list_any (λ (c : Claim). c.id == r) (drop e.stores (writes e.call)) && not (has_aborted s t e)

  -- the lowest ticket that is yet to store r, or the number of tickets if there is none
  abbrev pub unstored : State → ℕ → ℕ
  unstored s r = position_or_len (will_store s r) (enumerate_from 0 s.entries)

  -- a record's value: what it is before the lowest ticket that is yet to store it
  abbrev pub value : State → ℕ → ℕ
  value s r = slice_index (records_before s (unstored s r)) r

-- no open claim of a lower ticket conflicts with one of these claims
abbrev pub is_clear : State → ℕ → List Claim → Bool
is_clear s t claims = not (conflict (flat_map open_of (take t s.entries)) claims)
