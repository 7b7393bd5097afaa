-- Calls that are counted by their replies.
use Rattle.std.proofs.Common.{◌≡◌, ◌+◌, ◌-◌, ◌^◌, ◌≢◌, false, List, [], ◌∷◌, ◌++◌, length, refl, arith}
use Rattle.std.proofs.lemmas.Bool.{eqb-false, or_parts}
use Rattle.vll_proc.specs.declared.call.Reply.{Reply}
use Rattle.vll_lines.specs.Counts.{all_counted, counted, is_full, is_last}
use Rattle.vll_lines.specs.declared.counts.Counts.{Counts}

-- the replies of both lists
pub all_counted_both : (counts : Counts) (t u : List Reply) → all_counted counts (t ++ u) ≡ all_counted (all_counted counts t) u
all_counted_both counts [] u = refl
all_counted_both counts (reply ∷ t) u = all_counted_both (counted counts reply) t u

-- there is a call for each reply
pub calls_counted : (counts : Counts) (replies : List Reply) → (all_counted counts replies).calls ≡ counts.calls + length replies
calls_counted counts [] = omega arith
calls_counted counts (reply ∷ replies) =
    let later : (all_counted (counted counts reply) replies).calls ≡ counts.calls + 1 + length replies = calls_counted (counted counts reply) replies in
    omega (arith, later)

-- no count is the last number of 64 bits
pub record HasRoom (counts : Counts) : Type 0 where
  pub calls : counts.calls ≢ 2 ^ 64 - 1
  pub code : counts.code ≢ 2 ^ 64 - 1
  pub overflow : counts.overflow ≢ 2 ^ 64 - 1
  pub underflow : counts.underflow ≢ 2 ^ 64 - 1
  pub zero_divisor : counts.zero_divisor ≢ 2 ^ 64 - 1
  pub moved : counts.moved ≢ 2 ^ 64 - 1

pub room : (counts : Counts) → is_full counts ≡ false → HasRoom counts
room counts isnt =
    let a = or_parts (is_last counts.calls) _ isnt in
    let b = or_parts (is_last counts.code) _ a.1 in
    let c = or_parts (is_last counts.overflow) _ b.1 in
    let d = or_parts (is_last counts.underflow) _ c.1 in
    let e = or_parts (is_last counts.zero_divisor) (is_last counts.moved) d.1 in
    record {
      calls = eqb-false _ _ a.0;
      code = eqb-false _ _ b.0;
      overflow = eqb-false _ _ c.0;
      underflow = eqb-false _ _ d.0;
      zero_divisor = eqb-false _ _ e.0;
      moved = eqb-false _ _ e.1;
    }
