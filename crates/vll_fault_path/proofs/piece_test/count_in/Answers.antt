-- As many items as the list has.
use Rattle.std.proofs.Common.{rules}
use Rattle.vll_fault_path.proofs.Ways.{items_len-view}
use Rattle.vll_fault_path.proofs.piece_test.count_in.Goals as goal

pub returns-in-Some : goal.returns-in-Some
returns-in-Some c =
    let same = items_len-view c.in-Some.list.now.items in
    search rules
