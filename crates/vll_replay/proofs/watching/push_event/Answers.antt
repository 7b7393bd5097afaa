use Rattle.std.proofs.Common.{◌≡◌, ◌++◌, ◌∷◌, [], List, ap, subst, rules}
use Rattle.std.proofs.lemmas.Result.{on_ok_weaker}
use Rattle.vll_sca.specs.Placing.{placing}
use Rattle.vll_core.specs.Machine.{state_after, step, answer_of}
use Rattle.vll_core.specs.Shown.{opening_of}
use Rattle.vll_core.specs.State.{Opening, State}
use Rattle.vll_replay.specs.Steps.{Step, step_of}
use Rattle.vll_replay.proofs.watching.push_event.Goals as goal

-- the machine is opened as it was before the event
pub returns-clause-observed : goal.returns-clause-observed
returns-clause-observed g c =
    let e = c.args.event.now in
    let After : Opening → Type 0 = λ o. (task : g.O.Observer.Task) (past : List Step) (s : State) → g.O.Observer.looks task o past s e c.before-2.new.self → c.step-answer.result ≡ answer_of (step o s e)
    → c.step-answer.new.self.state ≡ state_after s (step o s e) → g.O.Observer.saw task o (past ++ step_of o s e ∷ []) c.after.new.self in
    let after = subst After (ap (opening_of placing) c.step-answer.ensures.state) c.in_ok-after.ensures in
    on_ok_weaker c.push_event_line.result
    (λ _. λ task past saw. after task past c.args.core.now.state (c.in_ok-before.ensures task past saw) c.step-answer.ensures.answer (ap (λ x. x.state) c.step-answer.ensures.state))
    c.push_event_line.ensures

pub returns-clause-text : goal.returns-clause-text
returns-clause-text g c = search rules
