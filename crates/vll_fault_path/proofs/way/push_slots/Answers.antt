use Rattle.std.proofs.Common.{arith}
use Rattle.std.proofs.lemmas.Grind.{common_steps}
use Rattle.vll_fault_path.proofs.Ways.{items_len-view}
use Rattle.vll_fault_path.proofs.way.push_slots.Goals as goal

pub returns-in_ok-push_behind : goal.returns-in_ok-push_behind
returns-in_ok-push_behind c =
    let same = items_len-view c.args.values.now in
    grind (arith, common_steps)

pub returns-else-slots-values : goal.returns-else-slots-values
returns-else-slots-values c =
    let same = items_len-view c.args.values.now in
    grind (arith, common_steps)
