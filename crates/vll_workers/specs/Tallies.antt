-- The counts of several workers, added.
use Rattle.std.specs.Prelude.{ℕ, ◌+◌, ◌-◌, ◌^◌, min}
use Rattle.vll_workers.specs.declared.tally.Tally.{Tally}

-- the sum of two counts, or the largest number if that is less
abbrev pub added : ℕ → ℕ → ℕ
added a b = min (a + b) (2 ^ 64 - 1)

-- nothing was done
abbrev pub nothing : Tally
nothing = record { blocked = 0; busy = 0; front = 0; scan = 0; holds = 0; rests = 0 }

-- each count of two tallies added
abbrev pub both : Tally → Tally → Tally
both a b = record {
  blocked = added a.blocked b.blocked;
  busy = added a.busy b.busy;
  front = added a.front b.front;
  scan = added a.scan b.scan;
  holds = added a.holds b.holds;
  rests = added a.rests b.rests;
}
