-- The call has not entered: the session has seen calls of other clients alone, and was given nothing.
use Rattle.std.proofs.Common.{◌≡◌}
use Rattle.vll_queue.specs.Sessions.{SawOthers}
use Rattle.vll_engine.proofs.engine.Engine.call_with.Given as goal

abbrev pub invariant-loop : goal.invariant-loop
invariant-loop g l =
    (goal.iterator-loop g).can_next l.iterator' × (goal.iterator-loop g).is_finite l.iterator'
    × (l.session.table ≡ l.initial.session.table) × SawOthers l.initial.session.session l.session.session × (l.session.session.given ≡ l.initial.session.session.given)
