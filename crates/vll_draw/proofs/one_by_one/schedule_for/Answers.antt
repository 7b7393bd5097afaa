use Rattle.std.proofs.Common.{◌≡◌, ◌+◌, ◌++◌, ◌∙◌, ℕ, List, All, Some, ap, drop, length, refl, slice_get, subst, sym, take}
use Rattle.std.specs.Global.{Vec}
use Rattle.std.proofs.lemmas.List.Elements.{All-take}
use Rattle.std.proofs.lemmas.Option.{slice_get_read}
use Rattle.vll_proc.specs.declared.call.Call.{Call}
use Rattle.vll_proc.specs.Headline.Serial.{Made}
use Rattle.vll_check.specs.Calls.{Fits}
use Rattle.vll_check.specs.Headline.Catalog.{Catalog}
use Rattle.vll_core.proofs.Places.{all_at}
use Rattle.vll_scenario.specs.Setup.{lists_of}
use Rattle.vll_scenario.specs.declared.limits.TheConstants.{MOST_EVENTS}
use Rattle.vll_draw.specs.OneByOne.{by_clients, one_by_one}
use Rattle.vll_draw.proofs.OneByOne.{calls_last, calls_next, clients_fit, cut_length, written}
use Rattle.vll_draw.proofs.one_by_one.schedule_for.Goals as goal

pub push_call-requires-clause-fits : goal.push_call-requires-clause-fits
push_call-requires-clause-fits c =
    let library = c.args.parts.now.library in
    let scripts = lists_of c.args.parts.now.scripts.items in
    let limit = c.args.parts.now.config.limit in
    let Fit : Made → Type 0 = λ made. Fits library made.1 in
    let fits : All (λ script. All (Fits library) script) scripts = subst (λ (l : Catalog). All (λ script. All (Fits l) script) scripts) (sym c.requires.library) c.requires.kept.fits in
    let calls : c.as_slice-calls.result.now ≡ take limit (by_clients 0 scripts) =
    c.as_slice-calls.ensures.value ∙ (c.truncate.ensures.items ∙ ap (take limit) (c.in_ok-calls.ensures ∙ ap (λ (vs : List (Vec Call)). by_clients 0 (lists_of vs)) c.as_slice.ensures.value)) in
    let all = subst (All Fit) (sym calls) (All-take Fit limit (by_clients 0 scripts) (clients_fit library 0 scripts fits)) in
    let made = c.index-calls-ticket.result in
    all_at Fit c.as_slice-calls.result.now c.loop-ticket.ticket made all (slice_get_read c.as_slice-calls.result.now _ c.loop-ticket.ticket made refl c.loop-ticket-test.true c.index-calls-ticket.is)

pub loop-ticket-preserved : goal.loop-ticket-preserved
loop-ticket-preserved c =
    let library = c.args.parts.now.library in
    let calls = c.as_slice-calls.result.now in
    let t = c.loop-ticket.ticket in
    let made = c.index-calls-ticket.result in
    let old = c.as_mut_slice.result.now in
    let new = c.push_call.new.records in
    let value = c.as_mut_slice.ensures.value in
    let number = c.in_ok-push_call.ensures.number in
    let kept = written c.loop-ticket.records.len new c.loop-ticket.records.items (number ∙ c.as_mut_slice.ensures.len) (sym (ap length value) ∙ c.as_mut_slice.ensures.len) in
    let at : slice_get calls t ≡ Some made = slice_get_read calls _ t made refl c.loop-ticket-test.true c.index-calls-ticket.is in
    let left = ap (λ (rs : List ℕ). take MOST_EVENTS (c.loop-ticket.schedule ++ one_by_one library rs t (drop t calls))) value ∙ c.loop-ticket.invariant.2 in (
      cut_length MOST_EVENTS _ _ c.in_ok-push_call.ensures.schedule,
      ap length kept ∙ (number ∙ (ap length value ∙ c.loop-ticket.invariant.1)),
      ap (λ (rs : List ℕ). take MOST_EVENTS (c.push_call.new.schedule ++ one_by_one library rs (t + 1) (drop (t + 1) calls))) kept
          ∙ calls_next MOST_EVENTS library calls t made old new c.loop-ticket.schedule c.push_call.new.schedule (take MOST_EVENTS (one_by_one library c.args.parts.now.records.items 0 calls)) at
          (c.in_ok-push_call.ensures.records, c.in_ok-push_call.ensures.schedule) left,
    )

pub returns : goal.returns
returns c =
    let library = c.args.parts.now.library in
    let records = c.args.parts.now.records.items in
    let scripts = lists_of c.args.parts.now.scripts.items in
    let limit = c.args.parts.now.config.limit in
    let calls = c.as_slice-calls.result.now in
    let all : calls ≡ take limit (by_clients 0 scripts) =
    c.as_slice-calls.ensures.value ∙ (c.truncate.ensures.items ∙ ap (take limit) (c.in_ok-calls.ensures ∙ ap (λ (vs : List (Vec Call)). by_clients 0 (lists_of vs)) c.as_slice.ensures.value)) in
    calls_last MOST_EVENTS library calls c.loop-ticket.ticket c.loop-ticket.records.items c.loop-ticket.schedule (take MOST_EVENTS (one_by_one library records 0 calls)) c.loop-ticket-test.false c.loop-ticket.invariant.0 c.loop-ticket.invariant.2
    ∙ (ap (λ (ms : List Made). take MOST_EVENTS (one_by_one library records 0 ms)) all
    ∙ ap (λ (l : Catalog). take MOST_EVENTS (one_by_one l records 0 (take limit (by_clients 0 scripts)))) c.requires.library)
