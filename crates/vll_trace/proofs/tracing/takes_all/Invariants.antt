use Rattle.std.proofs.Common.{◌≡◌, drop}
use Rattle.vll_sca.specs.Placing.{placing}
use Rattle.vll_core.specs.Machine.{answers, run}
use Rattle.vll_core.specs.Shown.{opening_of}
use Rattle.vll_trace.specs.Traced.{AreGranted}
use Rattle.vll_trace.proofs.tracing.takes_all.Given as goal

abbrev pub invariant-loop-event : goal.invariant-loop-event
invariant-loop-event l =
    let o = opening_of placing l.initial.core in
    record {
      runs : run o l.core.state (drop l.event-index l.schedule) ≡ run o l.initial.core.state l.schedule;
      fixed : l.core ≡ record l.initial.core { state = l.core.state };
      granted : AreGranted (answers o l.core.state (drop l.event-index l.schedule)) → AreGranted (answers o l.initial.core.state l.schedule);
    }
