use Rattle.std.proofs.Common.{◌≡◌, ◌≤◌, ◌<◌, ◌+◌, ◌^◌}
use Rattle.vll_core.proofs.Common.{IsDrained, left, opening_of}
use Rattle.vll_core.proofs.core_machine.Core.drain.Given as goal

abbrev pub invariant-loop-event : goal.invariant-loop-event
invariant-loop-event g l = record {
  drained : IsDrained (opening_of g.H.Place.place_of l.initial.self) l.initial.self.state l.self.state l.made;
  lessened : l.made + left l.self.state ≤ left l.initial.self.state;
  few : 0 < l.made → left l.initial.self.state < 2 ^ 32;
  fixed : l.self ≡ record l.initial.self { state = l.self.state };
}

abbrev pub decreases-loop-event : goal.decreases-loop-event
decreases-loop-event g l = left l.self.state
