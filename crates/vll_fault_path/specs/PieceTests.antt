-- The tests that find the piece at fault.
use Rattle.std.specs.Prelude.{ℕ, ◌+◌, Bool, true, ◌&&◌, nat_le, option_map, unwrap_or}
use Rattle.serde_json.specs.Data.{Data, Items, no_items, item}
use Rattle.serde_json.specs.Events.{items_len}
use Rattle.serde_json.specs.Find.{as_array}
use Rattle.vll_core.specs.declared.config.TheConstants.{MOST_CALLS, MOST_RECORDS, MOST_WAITING}
use Rattle.vll_core.specs.Faults.{is_up_to}
use Rattle.vll_sca.specs.declared.bits.TheConstants.{MOST_BITS}
use Rattle.vll_proc.specs.declared.syntax.Edition.{Edition}
use Rattle.vll_scenario.specs.declared.limits.TheConstants.{MOST_CLIENTS, MOST_EVENTS, MOST_PROCS}
use Rattle.vll_fault_path.specs.declared.piece.Kind.{Kind}
use Rattle.vll_fault_path.specs.declared.piece.Kind.TheVariants as kind
use Rattle.vll_fault_path.specs.declared.piece.Step.{Step}
use Rattle.vll_fault_path.specs.declared.piece.Step.TheVariants as step
use Rattle.vll_fault_path.specs.Pieces.{Piece, is_read}
use Rattle.vll_scenario.specs.Tree.{u32_at}

-- the number of items of a value that is a list
abbrev pub count_in : Data → ℕ
count_in d = unwrap_or (option_map items_len (as_array d)) 0

-- the number of calls of some scripts together
abbrev pub calls_in : Items → ℕ
calls_in no_items = 0
calls_in (item d ds) = count_in d + calls_in ds

-- whether the option to which a step leads is within its limits
abbrev pub option_has_size : Step → ℕ → Bool
option_has_size step.Cap n = is_up_to MOST_WAITING n
option_has_size step.Bits n = is_up_to MOST_BITS n
option_has_size step.Limit n = is_up_to MOST_CALLS n
option_has_size _ n = true

-- whether a part of a scenario is within its limits
abbrev pub has_size : Step → Kind → Data → Bool
has_size s kind.Records d = is_up_to MOST_RECORDS (count_in d)
has_size s kind.Procedures d = nat_le (count_in d) MOST_PROCS
has_size s kind.Scripts d = nat_le (count_in d) MOST_CLIENTS && nat_le (unwrap_or (option_map calls_in (as_array d)) 0) MOST_CALLS
has_size s kind.Schedule d = nat_le (count_in d) MOST_EVENTS
has_size s kind.Whole d = unwrap_or (option_map (option_has_size s) (u32_at d)) true
has_size s _ d = true

-- a test of the pieces of a scenario: whether each is what it has to be, or whether each is within its limits
pub data PieceTest : Type 0 where
  Shape : PieceTest
  Sizes : PieceTest

-- whether a piece passes a test
abbrev pub passes : Edition → PieceTest → Piece → Bool
passes edition Shape p = is_read edition p.kind p.value
passes edition Sizes p = has_size p.step p.kind p.value
