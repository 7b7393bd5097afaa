use Rattle.std.proofs.Common.{◌<◌, ◌^◌, arith, subst, rules}
use Rattle.vll_core.proofs.Common.{step, left, Shown, opening_of}
use Rattle.vll_core.proofs.Draining.{left_most}
use Rattle.vll_core.proofs.Drained.{less_seen, drained_seen, fixed_seen, few_first}
use Rattle.vll_core.proofs.core_machine.Core.drain.Goals as goal

pub loop-event-smaller : goal.loop-event-smaller
loop-event-smaller g c =
    less_seen g.H.Place.place_of c.self.inside.machine c.loop-event.self c.make.new.self c.in-Some.event c.self.view_is c.next_event.ensures.reached c.in-Some.ensures.next c.make.ensures.state

pub loop-event-preserved : goal.loop-event-preserved
loop-event-preserved g c =
    let kept = c.loop-event.invariant in
    let less = less_seen g.H.Place.place_of c.self.inside.machine c.loop-event.self c.make.new.self c.in-Some.event c.self.view_is c.next_event.ensures.reached c.in-Some.ensures.next c.make.ensures.state in
    record {
      drained =
          drained_seen g.H.Place.place_of c.args.self.now c.self.inside.machine c.loop-event.self c.make.new.self c.loop-event.made c.in-Some.event kept.fixed kept.drained c.self.view_is c.in-Some.ensures.next c.make.ensures.state;
      lessened = let so_far = kept.lessened in omega (arith, so_far, less);
      few = λ _.
          few_first (opening_of g.H.Place.place_of c.args.self.now) c.args.self.now.state c.loop-event.self.state c.loop-event.made kept.drained kept.few (subst (λ (x : Shown _). left x.state < 2 ^ 32) c.self.view_is c.next_event.ensures.few);
      fixed = fixed_seen c.args.self.now c.loop-event.self c.make.new.self (step (opening_of g.H.Place.place_of c.loop-event.self) c.loop-event.self.state c.in-Some.event) kept.fixed c.make.ensures.state;
    }

pub returns-clause-few : goal.returns-clause-few
returns-clause-few g c = omega (arith, c.loop-event.invariant.lessened, left_most c.args.self.now.state)

pub loop-event-init : goal.loop-event-init
loop-event-init g c = search rules
