-- The window of the queue: the tickets of the calls that are left, those that run or wait, among others whose calls are
-- gone.
use Rattle.std.specs.Prelude.{◌≡◌, ℕ, ◌<◌, ◌≤◌, Bool, List, [], length, map, All, slice_index_or}
use Rattle.std.specs.List.{filter, position_or_len, range_with_len}
use Rattle.vll_sca.specs.declared.entry.Entry.{Entry}
use Rattle.vll_sca.specs.declared.status.Status.{Status}
use Rattle.vll_sca.specs.declared.status.Status.TheVariants.{Gone}
use Rattle.vll_core.specs.declared.line.Line.{Line}
use Rattle.vll_core.specs.declared.queue.window.Window.{Window}
use Rattle.vll_core.specs.Queue.{is_left}
use Rattle.vll_core.specs.Private.Paired.{seen}

-- the call of a ticket is left
abbrev pub is_left_at : List Status → ℕ → Bool
is_left_at ss t = is_left (slice_index_or ss t Gone)

-- the tickets whose calls are left
abbrev pub left_among : List Status → List ℕ → List ℕ
left_among ss ts = filter (is_left_at ss) ts

-- the index of the first ticket whose call is left, or the number of tickets
abbrev pub first_left : List Status → List ℕ → ℕ
first_left ss ts = position_or_len (is_left_at ss) ts

-- the tickets are those of entered calls, and include all whose calls are left, in order
pub record HasLeft (ss : List Status) (ts : List ℕ) : Type 0 where
  pub few : length ts ≤ length ss
  pub below : All (λ (t : ℕ). t < length ss) ts
  pub left : left_among ss ts ≡ left_among ss (range_with_len 0 (length ss))

-- such are the tickets of the window, and `first` is the index of the first whose call is left
pub record IsWindow (ss : List Status) (w : Window) : Type 0 where
  pub tickets : HasLeft ss w.tickets.items
  pub first : w.first ≡ first_left ss w.tickets.items

-- the entry of a ticket, as the analysis sees it
abbrev pub entry_at : List Line → List Status → ℕ → Entry
entry_at ls ss t = slice_index_or (seen ls ss) t (record { claims = []; status = Gone })

-- the entries of tickets
abbrev pub entries_at : List Line → List Status → List ℕ → List Entry
entries_at ls ss ts = map (entry_at ls ss) ts

-- these entries, each with its ticket
abbrev pub numbered : List Line → List Status → List ℕ → List (ℕ × Entry)
numbered ls ss ts = map (λ (t : ℕ). (t, entry_at ls ss t)) ts
