-- The room for scans between one scan and the next.
use Rattle.std.specs.Prelude.{◌≤◌}
use Rattle.vll_sca.specs.declared.bits.TheConstants.{MOST_BITS}
use Rattle.vll_sca.specs.declared.bits.Bits.TheInside.{Inside}
use Rattle.vll_sca.specs.Private.ClaimMarks.{HasRoom, IsClear}

-- at most MOST_BITS bits, room for one mark of each kind on every place, and nothing is marked
pub record IsReady (b : Inside) : Type 0 where
  pub few : b.count ≤ MOST_BITS
  pub room : HasRoom b.count b.marks
  pub clear : IsClear b.marks
