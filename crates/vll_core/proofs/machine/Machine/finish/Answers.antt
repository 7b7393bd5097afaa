use Rattle.vll_core.proofs.machine.Machine.finish.Given.{Over}
use Rattle.std.proofs.Common.{◌≡◌, sym, ap, ◌∙◌, subst, arith, Option, Some, is_some, Bor}
use Rattle.vll_core.proofs.Common.{option_copied, Reply, OutOfStep, Queued, shown, IsMachine}
use Rattle.vll_core.specs.declared.event.Event.TheVariants as event
use Rattle.vll_core.proofs.RunningCalls.{RunsAt, runs_told, read_work, work_there, read_at_work}
use Rattle.vll_core.proofs.MachineSteps.{closed_turn, Refuses, refused_told, refused_stays, taken_told, taken_shown}
use Rattle.vll_core.proofs.Finishing.{Ends, refused_stores, refused_releases, ends_of, status_runs, reply_there, with_queue, taken_finish, core_finish}
use Rattle.vll_core.proofs.machine.Machine.finish.Goals.{In-Some, After-as_ref, After-unwrap-reply, Joined-then-not-has_stored, then-not-has_stored-via-then-not-has_stored, then-not-has_stored-via-else-not-has_stored+then-is_some-2}
use Rattle.vll_core.proofs.machine.Machine.finish.Goals as goal

-- the call runs at the ticket
runs : (g : Over) (c : In-Some g) → RunsAt c.self.inside c.args.ticket c.in-Some.call
runs g c = runs_told _ _ _ _ c.self.invariant c.self.view_is c.in-Some.ensures

-- a call that has more to do is refused
refused : (g : Over) (c : Joined-then-not-has_stored g) → RunsAt c.self.inside c.args.ticket c.in-Some.call → Refuses g.H.Place.place_of c.self.inside (event.Finish c.args.ticket) OutOfStep
refused g c r =
    let closed = closed_turn _ _ c.is_some.ensures c.if-is_some.false in
    let read = read_work c.self.inside _ _ _ r _ c.ticket.view_is c.index-execution.ensures in
    elim c.then-not-has_stored.branch [
      | then-not-has_stored-via-then-not-has_stored w ↦
          refused_stores c.self.inside _ _ r _ c.self.invariant closed read (sym (c.has_stored.ensures.at_work _ _ (read_at_work c.self.inside _ _ r _ read)) ∙ w.if-not-has_stored.true)
      | then-not-has_stored-via-else-not-has_stored+then-is_some-2 w ↦
          refused_releases c.self.inside _ _ r _ _ _ closed read w.next_release.ensures w.is_some-else-not-has_stored.ensures w.if-is_some-2.true
    ]

-- a call that has no more to do ends
ends : (g : Over) (c : After-as_ref g) → RunsAt c.self.inside c.args.ticket c.in-Some.call → Ends c.self.inside c.args.ticket c.in-Some.call c.index-execution.result.now
ends g c r =
    let read = read_work c.self.inside _ _ _ r _ c.ticket.view_is c.index-execution.ensures in
    ends_of c.self.inside _ _ r _ _ _ (closed_turn _ _ c.is_some.ensures c.if-is_some.false) read
    (sym (c.has_stored.ensures.at_work _ _ (read_at_work c.self.inside _ _ r _ read)) ∙ c.if-not-has_stored.false)
    c.next_release.ensures c.is_some-else-not-has_stored.ensures c.if-is_some-2.false

-- the reply that is lent is that of the execution
lent : (g : Over) (c : After-unwrap-reply g) → c.index-execution.result.now.reply ≡ Some c.unwrap-reply.result.now
lent g c = sym c.as_ref.ensures.value ∙ ap (λ (o : Option (Bor Reply)). option_copied o) c.unwrap-reply.ensures

pub index-execution-requires : goal.index-execution-requires
index-execution-requires g c = omega (arith, work_there c.self.inside _ _ _ (runs g (goal.at.index-execution-requires g c).In-Some) c.ticket.view_is, c.self.inside.execution.ok.0)

pub returns-then-not-has_stored-clause-answer : goal.returns-then-not-has_stored-clause-answer
returns-then-not-has_stored-clause-answer g c =
    refused_told c.self.inside _ _ _ c.self.view_is (refused g c (runs g (goal.at.returns-then-not-has_stored-clause-answer g c).In-Some))

pub returns-then-not-has_stored-clause-state : goal.returns-then-not-has_stored-clause-state
returns-then-not-has_stored-clause-state g c =
    refused_stays c.self.inside _ _ _ c.self.view_is (refused g c (runs g (goal.at.returns-then-not-has_stored-clause-state g c).In-Some))

pub unwrap-reply-requires : goal.unwrap-reply-requires
unwrap-reply-requires g c =
    c.as_ref.ensures.variant ∙ ap (λ (o : Option Reply). is_some o) (reply_there c.self.inside _ _ _ (ends g c (runs g (goal.at.unwrap-reply-requires g c).In-Some)))

pub remove-requires : goal.remove-requires
remove-requires g c = status_runs c.self.inside _ _ (runs g (goal.at.remove-requires g c).In-Some)

pub invariant_of-self : goal.invariant_of-self
invariant_of-self g c =
    let at = goal.at.invariant_of-self g c in
    subst (λ (q : Queued _). IsMachine g.H.Place.place_of (with_queue c.self.inside q)) (sym c.remove.ensures)
    (core_finish c.self.inside _ _ _ _ c.self.invariant (ends g at.After-as_ref (runs g at.In-Some)) (lent g at.After-unwrap-reply))

pub returns-clause-answer : goal.returns-clause-answer
returns-clause-answer g c =
    let at = goal.at.returns-clause-answer g c in
    taken_told {places = g.H.Place.place_of} c.self.inside _ _ _ _ c.self.view_is (taken_finish c.self.inside _ _ _ _ c.self.invariant (ends g at.After-as_ref (runs g at.In-Some)) (lent g at.After-unwrap-reply))

pub returns-clause-state : goal.returns-clause-state
returns-clause-state g c =
    let at = goal.at.returns-clause-state g c in
    ap (λ (q : Queued _). shown (with_queue c.self.inside q)) c.remove.ensures
    ∙ taken_shown {places = g.H.Place.place_of} c.self.inside _ _ _ _ c.self.view_is (taken_finish c.self.inside _ _ _ _ c.self.invariant (ends g at.After-as_ref (runs g at.In-Some)) (lent g at.After-unwrap-reply))
