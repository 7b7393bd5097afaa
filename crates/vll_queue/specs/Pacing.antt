-- What a pacing holds: a number for each knob, in the order in which `Knob` declares them.
use Rattle.std.specs.Prelude.{ℕ, List, slice_set, slice_index_or}
use denote.Enum.Declared.{tag_of}
use Rattle.vll_queue.specs.contracts.pacing.Knob.{the_type}
use Rattle.vll_queue.specs.declared.pacing.Knob.{Knob}
use Rattle.vll_queue.specs.declared.pacing.Pacing.{Pacing}

-- The number of a knob.
abbrev pub number_of : Pacing → Knob → ℕ
number_of p k = slice_index_or p.numbers (tag_of the_type k) 0

-- The numbers with another one for a knob.
abbrev pub with_number : Pacing → Knob → ℕ → List ℕ
with_number p k n = slice_set p.numbers (tag_of the_type k) n
