use Rattle.std.proofs.Common.{◌≡◌, ◌++◌, ◌∙◌, ℕ, List, ap, length, take}
use Rattle.std.proofs.lemmas.Result.{on_ok_weaker}
use Rattle.vll_proc.specs.declared.call.Call.{Call}
use Rattle.vll_proc.specs.declared.call.Reply.{Reply}
use Rattle.vll_proc.specs.Headline.Serial.{apply}
use Rattle.vll_core.specs.declared.event.Event.{Event}
use Rattle.vll_scenario.specs.declared.limits.TheConstants.{MOST_EVENTS}
use Rattle.vll_draw.specs.OneByOne.{alone, entry_of, finds, run_of, stores}
use Rattle.vll_draw.proofs.OneByOne.{cut_length, cut_parts}
use Rattle.vll_draw.proofs.one_by_one.push_call.Goals as goal

pub push_run-requires : goal.push_run-requires
push_run-requires c = cut_length MOST_EVENTS _ _ c.in_ok-push_entry.ensures

-- the numbers are those of the call as it enters
pub returns-clause-schedule : goal.returns-clause-schedule
returns-clause-schedule c =
    let old = c.args.schedule.now in
    let client = c.args.made.now.0 in
    let t = c.args.ticket in
    let library = c.args.library.now in
    let records = c.args.records.now in
    let call = c.entering-call.result in
    let Cut : ℕ → ℕ → ℕ → List Event = λ found claims stored. take MOST_EVENTS (old ++ (entry_of client found claims ++ run_of t claims stored)) in
    let f = finds library c.args.made.now.1 in
    let is : Cut c.finds-found.result c.len-claims.result c.stores.result ≡ Cut f (length call.claims) (stores call (apply library.procs call records).reply) =
    ap (λ n. Cut n c.len-claims.result c.stores.result) c.finds-found.ensures ∙ (ap (λ n. Cut f n c.stores.result) c.len-claims.ensures.value
    ∙ (ap (λ n. Cut f (length call.claims) n) c.stores.ensures ∙ ap (λ (r : Reply). Cut f (length call.claims) (stores call r)) c.make-reply.ensures.reply)) in
    on_ok_weaker c.push_run.result
    (λ last. cut_parts MOST_EVENTS old (entry_of client c.finds-found.result c.len-claims.result) (run_of t c.len-claims.result c.stores.result) c.push_entry.new.schedule c.push_run.new.schedule c.in_ok-push_entry.ensures last
    ∙ (is ∙ ap (λ (k : Call). take MOST_EVENTS (old ++ alone client f t k (apply library.procs k records).reply)) c.entering-call.ensures.call))
    c.push_run.ensures
