-- What a service has done so far: its calls, counted by their replies, and its rounds.
use Rattle.std.specs.Prelude.{ℕ, ◌+◌, ◌-◌, ◌^◌, min, max, Bool, ◌||◌, ◌==◌, List, [], ◌∷◌}
use Rattle.vll_proc.specs.declared.call.Reason.{Reason}
use Rattle.vll_proc.specs.declared.call.Reason.TheVariants.{Code, Overflow, Underflow, ZeroDivisor, Moved}
use Rattle.vll_proc.specs.declared.call.Reply.{Reply}
use Rattle.vll_proc.specs.declared.call.Reply.TheVariants.{Committed, Aborted}
use Rattle.vll_lines.specs.declared.counts.Counts.{Counts}
use Rattle.vll_lines.specs.declared.counts.Rounds.{Rounds}

-- no call
abbrev pub none_counted : Counts
none_counted = record { calls = 0; code = 0; overflow = 0; underflow = 0; zero_divisor = 0; moved = 0 }

-- one more was aborted, for this reason: all codes are counted together
abbrev pub with_abort : Counts → Reason → Counts
with_abort counts (Code n) = record counts { code = counts.code + 1 }
with_abort counts Overflow = record counts { overflow = counts.overflow + 1 }
with_abort counts Underflow = record counts { underflow = counts.underflow + 1 }
with_abort counts ZeroDivisor = record counts { zero_divisor = counts.zero_divisor + 1 }
with_abort counts Moved = record counts { moved = counts.moved + 1 }

-- one more was aborted, if this reply says so
abbrev pub with_reply : Counts → Reply → Counts
with_reply counts (Committed outputs) = counts
with_reply counts (Aborted why) = with_abort counts why

-- one more call, with its reply
abbrev pub counted : Counts → Reply → Counts
counted counts reply = record (with_reply counts reply) { calls = counts.calls + 1 }

-- more calls, with their replies
abbrev pub all_counted : Counts → List Reply → Counts
all_counted counts [] = counts
all_counted counts (reply ∷ replies) = all_counted (counted counts reply) replies

-- whether a count is the last number of 64 bits
abbrev pub is_last : ℕ → Bool
is_last n = n == 2 ^ 64 - 1

-- whether one of the counts is
abbrev pub is_full : Counts → Bool
is_full counts =
    is_last counts.calls || (is_last counts.code || (is_last counts.overflow || (is_last counts.underflow || (is_last counts.zero_divisor || is_last counts.moved))))

-- no round
abbrev pub none_read : Rounds
none_read = record { rounds = 0; most_lines = 0 }

-- one more round, of so many lines: a count that is the last number of 64 bits stays
abbrev pub with_round : Rounds → ℕ → Rounds
with_round so_far lines = record { rounds = min (so_far.rounds + 1) (2 ^ 64 - 1); most_lines = max so_far.most_lines lines }
