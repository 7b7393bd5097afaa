-- How the queue keeps its entries: lines and statuses are in two lists by ticket, whose room is allocated at the
-- opening, and the window has the tickets of those that are left.
use Rattle.std.specs.Prelude.{◌≡◌, ℕ, ◌≤◌, true, map, length, count_by, None, vec_capacity}
use Rattle.vll_sca.specs.Headline.Status.{is_waiting}
use Rattle.vll_sca.specs.Status.{is_running, is_gone}
use Rattle.vll_sca.specs.declared.bits.TheConstants.{MOST_BITS}
use Rattle.vll_core.specs.declared.config.TheConstants.{MOST_CALLS, MOST_WAITING}
use Rattle.vll_core.specs.declared.queue.Queue.TheInside.{Inside}
use Rattle.vll_core.specs.Queue.{Queued, has_reply, found_by}
use Rattle.vll_core.specs.Private.Paired.{paired}
use Rattle.vll_core.specs.Private.Window.{IsWindow}

-- the queue that the fields show
abbrev pub kept : {H : Type 0} → Inside H → Queued H
kept a = record { cap = a.cap; limit = a.limit; bits = a.bits; hash = a.hash; entries = paired a.journal.items a.statuses.items }

-- the window has the tickets of the entries that are left, the counts are those of the statuses, there is room up to
-- the limit, and the analysis, by the places that the hash gives to records, finds nothing if the queue remembers a
-- scan that found nothing
pub record IsKept {H : Type 0} (place : H → ℕ → ℕ) (a : Inside H) : Type 0 where
  pub some_calls : 1 ≤ a.limit
  pub few_calls : a.limit ≤ MOST_CALLS
  pub some_wait : 1 ≤ a.cap
  pub few_wait : a.cap ≤ MOST_WAITING
  pub some_bits : 1 ≤ a.bits
  pub few_bits : a.bits ≤ MOST_BITS
  pub capped : count_by is_waiting a.statuses.items ≤ a.cap
  pub within : length a.statuses.items ≤ a.limit
  pub as_many : length a.journal.items ≡ length a.statuses.items
  pub room : a.limit ≤ vec_capacity a.statuses
  pub room_for_lines : a.limit ≤ vec_capacity a.journal
  pub room_in_window : a.limit ≤ vec_capacity a.window.tickets
  pub answered : map has_reply a.journal.items ≡ map is_gone a.statuses.items
  pub window : IsWindow a.statuses.items a.window
  pub waiting : a.waiting ≡ count_by is_waiting a.statuses.items
  pub running : a.running ≡ count_by is_running a.statuses.items
  pub fruitless : a.is_fruitless ≡ true → found_by place (kept a) ≡ None
