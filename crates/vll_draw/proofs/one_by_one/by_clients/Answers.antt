use Rattle.std.proofs.Common.{◌≡◌, ◌++◌, ◌∙◌, List, Some, map, slice_get, refl, ap}
use Rattle.std.proofs.lemmas.Option.{slice_get_read}
use Rattle.vll_proc.specs.declared.call.Call.{Call}
use Rattle.vll_scenario.specs.Setup.{lists_of}
use Rattle.vll_draw.specs.OneByOne.{by_clients}
use Rattle.vll_draw.proofs.OneByOne.{clients_next}
use Rattle.vll_draw.proofs.one_by_one.by_clients.Goals as goal

pub loop-client-preserved : goal.loop-client-preserved
loop-client-preserved c =
    let script = c.index-scripts-client.result in
    let client = c.loop-client.client in
    let at : slice_get c.args.scripts.now client ≡ Some script = slice_get_read c.args.scripts.now _ client script refl c.loop-client-test.true c.index-scripts-client.is in
    let new = c.in_ok-push_script.ensures ∙ ap (λ (calls : List Call). c.loop-client.calls.items ++ map (λ (call : Call). (client, call)) calls) c.as_slice.ensures.value in
    clients_next c.args.scripts.now client script c.loop-client.calls.items c.push_script.new.calls.items (by_clients 0 (lists_of c.args.scripts.now)) at new c.loop-client.invariant
