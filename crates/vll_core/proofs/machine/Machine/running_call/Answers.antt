use Rattle.std.proofs.Common.{◌≡◌, sym, ap, ◌∙◌, ℕ, Option, option_map, Some, None}
use Rattle.vll_core.proofs.Common.{Call, Status, running, Entered, Shown, Inside, shown}
use Rattle.vll_core.proofs.RunningCalls.{none_runs, other_runs_not, line_runs, line_there}
use Rattle.vll_core.proofs.machine.Machine.running_call.Goals as goal

-- the call that runs is that of the state that is shown
told_of : {H : Type 0} (a : Inside H) (s : Shown H) (t : ℕ) (o : Option Call) → shown a ≡ s → option_map (λ (e : Entered). e.call) (running (shown a).state t) ≡ o
    → o ≡ option_map (λ (e : Entered). e.call) (running s.state t)
told_of {H} a s t o view is = sym is ∙ ap (λ (x : Shown H). option_map (λ (e : Entered). e.call) (running x.state t)) view

pub returns-in_err-status : goal.returns-in_err-status
returns-in_err-status g c =
    c.from_residual.ensures ∙ told_of c.self.inside c.args.self.now c.args.ticket None c.self.view_is (none_runs c.self.inside c.args.ticket (sym c.in_err-status.ensures))

pub returns-in_err-line-in-Running : goal.returns-in_err-line-in-Running
returns-in_err-line-in-Running g c =
    absurd (line_there c.self.inside c.args.ticket _ c.self.invariant.works (sym c.in_ok-status.ensures) (sym c.in_err-line-in-Running.ensures))

pub returns-in_ok-line-in-Running : goal.returns-in_ok-line-in-Running
returns-in_ok-line-in-Running g c =
    told_of c.self.inside c.args.self.now c.args.ticket _ c.self.view_is
    (line_runs c.self.inside c.args.ticket c.in_ok-line-in-Running.field-0.now c.self.invariant.works (sym c.in_ok-status.ensures ∙ ap (λ (s : Status). Some s) c.in-Running.is) (sym c.in_ok-line-in-Running.ensures))

pub returns-in_default : goal.returns-in_default
returns-in_default g c =
    told_of c.self.inside c.args.self.now c.args.ticket None c.self.view_is
    (other_runs_not c.self.inside c.args.ticket _ c.self.invariant.works (sym c.in_ok-status.ensures) c.in_default.not-Running)
