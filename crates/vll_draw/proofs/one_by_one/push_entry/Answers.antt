use Rattle.std.proofs.Common.{◌∷◌, [], replicate}
use Rattle.std.proofs.lemmas.Result.{on_ok_weaker}
use Rattle.vll_core.specs.declared.event.Event.TheVariants as event
use Rattle.vll_scenario.specs.declared.limits.TheConstants.{MOST_EVENTS}
use Rattle.vll_draw.proofs.OneByOne.{cut_four, cut_length}
use Rattle.vll_draw.proofs.one_by_one.push_entry.Goals as goal

pub push_times-requires-2 : goal.push_times-requires-2
push_times-requires-2 c = cut_length MOST_EVENTS _ _ c.in_ok-push_times.ensures

pub push_times-requires-3 : goal.push_times-requires-3
push_times-requires-3 c = cut_length MOST_EVENTS _ _ c.in_ok-push_times-2.ensures

pub push_times-requires-4 : goal.push_times-requires-4
push_times-requires-4 c = cut_length MOST_EVENTS _ _ c.in_ok-push_times-3.ensures

pub returns : goal.returns
returns c =
    on_ok_weaker c.push_times-4.result
    (λ last. cut_four MOST_EVENTS c.args.schedule.now (replicate c.args.found (event.Find c.args.client)) (event.Enter c.args.client ∷ []) (replicate c.args.claims event.Claim) (event.Admit ∷ [])
    c.push_times.new.schedule c.push_times-2.new.schedule c.push_times-3.new.schedule c.push_times-4.new.schedule
    c.in_ok-push_times.ensures c.in_ok-push_times-2.ensures c.in_ok-push_times-3.ensures last)
    c.push_times-4.ensures
