use Rattle.std.proofs.Common.{IfOk, List, arith, ap, length}
use Rattle.std.specs.Prelude.{sum_by}
use Rattle.vll_proc.specs.declared.call.Call.{Call}
use Rattle.vll_sca.specs.declared.place.Placing.{Placing}
use Rattle.vll_sca.specs.Placing.{placing}
use Rattle.vll_counters.specs.Headline.Views.{calls_in}
use Rattle.vll_queue.specs.declared.closed.Closed.{Closed}
use Rattle.vll_queue.specs.Closed.{IsSerial}
use Rattle.vll_queue.specs.Shown.{Named, OpeningShown, library_of, name_of}
use Rattle.vll_workers.specs.Headline.Merge.{IsMerge}
use Rattle.vll_scenario.specs.Setup.{lists_of}
use Rattle.vll_server.proofs.Served.{all_served}
use Rattle.vll_server.proofs.serving.run_scenario.Goals as goal

-- the opening is the scenario's
pub returns-clause-ok : goal.returns-clause-ok
returns-clause-ok g c =
    let opening = c.in_ok-opening.opening in
    let engine : Named = name_of placing opening in
    let opened = c.in_ok-opening.ensures.opened in
    let scripts = lists_of c.in_ok-opening.scripts.items in
    let serial : IfOk c.run_scripts.result (IsSerial engine) = c.run_scripts.ensures.serial in
    let merge : IfOk c.run_scripts.result (λ (closed : Closed). IsMerge (library_of engine) (calls_in closed.journal.items) scripts) = c.run_scripts.ensures.merge in
    all_served c.args.scenario engine scripts c.run_scripts.result (ap (λ (o : OpeningShown Placing). (name_of placing o).base) opened) c.in_ok-opening.ensures.scripts serial merge

-- it takes as many calls as the scripts have
pub run_scripts-requires-clause-limit : goal.run_scripts-requires-clause-limit
run_scripts-requires-clause-limit g c κs within =
    let limit = ap (λ (o : OpeningShown Placing). o.config.limit) c.in_ok-opening.ensures.opened in
    omega (arith, limit, ap (λ (scripts : List (List Call)). sum_by length scripts) c.in_ok-opening.ensures.scripts)
