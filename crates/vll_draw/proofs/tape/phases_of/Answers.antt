use Rattle.std.proofs.Common.{◌≡◌, ◌<◌, ◌≤◌, ◌∙◌, ◌++◌, ◌∷◌, [], List, Option, Some, ap, sym, arith, length, take}
use Rattle.std.specs.List.{slice_get}
use Rattle.std.specs.Option.{option_map}
use Rattle.std.proofs.lemmas.List.{length-map, take_all}
use Rattle.std.proofs.lemmas.Option.{slice_get-map}
use Rattle.vll_sca.specs.declared.status.Status.{Status}
use Rattle.vll_core.specs.State.{Entered}
use Rattle.vll_core.proofs.Places.{entry_at, take_next}
use Rattle.vll_replay.proofs.Standing.{journal-length}
use Rattle.vll_draw.specs.declared.picture.drawing.Phase.{Phase}
use Rattle.vll_draw.specs.Taped.{phase_of, phases_in}
use Rattle.vll_draw.proofs.tape.phases_of.Goals as goal

-- the phase of an entered call
abbrev phase_in : Entered → Phase
phase_in e = phase_of (Some e.status)

pub loop-ticket-preserved : goal.loop-ticket-preserved
loop-ticket-preserved c =
    let core = c.args.core.now in
    let ticket = c.loop-ticket.ticket in
    let all = phases_in core.state in
    let within : ticket < length core.state.entries = omega (arith, c.loop-ticket-test.true, journal-length core.base core.state, ap length c.journal-ticket-end.ensures.lines) in
    let entry = entry_at core.state.entries ticket within in
    let at : slice_get all ticket ≡ Some (phase_in entry.0) = slice_get-map phase_in core.state.entries ticket ∙ ap (λ (e : Option Entered). option_map phase_in e) entry.1 in
    let is : c.phase_of.result ≡ phase_in entry.0 =
    c.phase_of.ensures ∙ ap phase_of (c.state.ensures ∙ ap (λ (x : Option Entered). option_map (λ (e : Entered). e.status) x) entry.1) in
    c.in_ok-push.ensures.items
    ∙ ap (λ (ps : List Phase). ps ++ c.phase_of.result ∷ []) c.loop-ticket.invariant
    ∙ ap (λ (p : Phase). take ticket all ++ p ∷ []) is
    ∙ sym (take_next all ticket (phase_in entry.0) at)

pub returns : goal.returns
returns c =
    let core = c.args.core.now in
    let past : length (phases_in core.state) ≤ c.loop-ticket.ticket =
    omega (arith, length-map core.state.entries phase_in, c.loop-ticket-test.false, journal-length core.base core.state, ap length c.journal-ticket-end.ensures.lines) in
    c.loop-ticket.invariant ∙ take_all c.loop-ticket.ticket (phases_in core.state) past
