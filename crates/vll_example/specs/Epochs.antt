-- What the bank's epochs leave.
use Rattle.std.specs.Prelude.{◌≡◌, ℕ, List, Option, Some, map}
use Rattle.std.specs.List.{flat_map}
use Rattle.vll_proc.specs.declared.call.Reply.{Reply}
use Rattle.vll_proc.specs.Epochs.{in_a_row}
use Rattle.vll_proc.specs.Headline.Serial.{end}
use Rattle.vll_proc.specs.Serial.{replies}
use Rattle.vll_core.specs.declared.line.Line.{Line}
use Rattle.vll_counters.specs.Headline.Views.{calls_in}
use Rattle.vll_example.specs.Bank.{procedures}

-- the replies in these journals, one journal after the other
abbrev pub replies_in : List (List Line) → List (Option Reply)
replies_in journals = flat_map (λ (lines : List Line). map (λ (l : Line). l.reply) lines) journals

-- in a row, the journals' calls have the replies that they get if they run one at a time in this order from the first
-- accounts, and leave the last ones
pub record AreOneSerialRun (first : List ℕ) (journals : List (List Line)) (last : List ℕ) : Type 0 where
  pub answered : replies_in journals ≡ map Some (replies procedures (in_a_row (map calls_in journals)) first)
  pub at_end : last ≡ end procedures (in_a_row (map calls_in journals)) first
