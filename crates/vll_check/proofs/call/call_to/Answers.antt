use Rattle.std.proofs.Common.{◌≡◌, ℕ, true, ◌<◌, ◌^◌, None, rules}
use Rattle.vll_check.proofs.Common.{list_all, place_is_there}
use Rattle.vll_check.proofs.Passed.{all_placed}
use Rattle.vll_check.proofs.call.call_to.Goals as goal

pub call_of-requires-clause-placed : goal.call_of-requires-clause-placed
call_of-requires-clause-placed c k d lt =
    let records : ℕ = c.args.records in
    let few : records < 2 ^ 32 = search rules in
    let given : list_all (place_is_there records c.args.args.now) c.args.procedure.now.keys ≡ true = search rules in
    all_placed records c.args.procedure.now c.args.args.now None few c.requires c.if-args-procedure.false given tt k d lt
