use Rattle.std.proofs.Common.{◌≡◌, ◌∙◌, sym, ap, Option, Some, None, ℕ, Bool, if◌then◌else◌}
use Rattle.vll_core.proofs.Common.{Status, statuses, front_among, started_if, waiting_ticket}
use Rattle.vll_core.proofs.Entries.{front_none, front_some, waits}
use Rattle.vll_core.proofs.queue.Queue.front.Given.{Over}
use Rattle.vll_core.proofs.queue.Queue.front.Goals.{After-from_residual, After-from_residual-in_err-status, Then-not-is_waiting, After-start}
use Rattle.vll_core.proofs.queue.Queue.front.Goals as goal

none_left : (g : Over) (c : After-from_residual g) → front_among (statuses c.args.self.now) ≡ None
none_left g c = front_none _ _ c.lowest.ensures c.in_err-front.was

absent : (g : Over) (c : After-from_residual-in_err-status g) → front_among (statuses c.args.self.now) ≡ None
absent g c =
    front_some _ _ _ _ None c.lowest.ensures c.in_ok-front.was c.status.ensures (ap (λ (o : Option Status). waiting_ticket c.in_ok-front.front o) c.in_err-status.was)

idle : (g : Over) (c : Then-not-is_waiting g) → front_among (statuses c.args.self.now) ≡ None
idle g c =
    front_some _ _ _ _ None c.lowest.ensures c.in_ok-front.was c.status.ensures
    (waits _ _ _ _ c.in_ok-status.was c.is_waiting.ensures ∙ ap (λ (w : Bool). if w then Some c.in_ok-front.front else None) c.if-not-is_waiting.true)

ready : (g : Over) (c : After-start g) → front_among (statuses c.args.self.now) ≡ Some c.in_ok-front.front
ready g c =
    front_some _ _ _ _ (Some c.in_ok-front.front) c.lowest.ensures c.in_ok-front.was c.status.ensures
    (waits _ _ _ _ c.in_ok-status.was c.is_waiting.ensures ∙ ap (λ (w : Bool). if w then Some c.in_ok-front.front else None) c.if-not-is_waiting.false)

pub returns-in_err-front-clause-ticket : goal.returns-in_err-front-clause-ticket
returns-in_err-front-clause-ticket g c = c.from_residual.ensures ∙ sym (none_left g c)

pub returns-in_err-front-clause-fronted : goal.returns-in_err-front-clause-fronted
returns-in_err-front-clause-fronted g c = sym (ap (λ (o : Option ℕ). started_if c.args.self.now o) (none_left g c))

pub returns-in_err-status-clause-ticket : goal.returns-in_err-status-clause-ticket
returns-in_err-status-clause-ticket g c = c.from_residual-in_err-status.ensures ∙ sym (absent g c)

pub returns-in_err-status-clause-fronted : goal.returns-in_err-status-clause-fronted
returns-in_err-status-clause-fronted g c = sym (ap (λ (o : Option ℕ). started_if c.args.self.now o) (absent g c))

pub returns-then-not-is_waiting-clause-ticket : goal.returns-then-not-is_waiting-clause-ticket
returns-then-not-is_waiting-clause-ticket g c = sym (idle g c)

pub returns-then-not-is_waiting-clause-fronted : goal.returns-then-not-is_waiting-clause-fronted
returns-then-not-is_waiting-clause-fronted g c = sym (ap (λ (o : Option ℕ). started_if c.args.self.now o) (idle g c))

pub returns-clause-ticket : goal.returns-clause-ticket
returns-clause-ticket g c = sym (ready g c)

pub returns-clause-fronted : goal.returns-clause-fronted
returns-clause-fronted g c = c.start.ensures ∙ sym (ap (λ (o : Option ℕ). started_if c.args.self.now o) (ready g c))
