use Rattle.std.proofs.Common.{◌≡◌, ◌++◌, List, drop, string_bytes}
use Rattle.std.specs.List.{enumerate_from, flat_map}
use Rattle.vll_sca.specs.Placing.{placing}
use Rattle.vll_core.specs.Machine.{answers, run}
use Rattle.vll_core.specs.Shown.{opening_of}
use Rattle.vll_replay.specs.ReplayText.{event_line}
use Rattle.vll_replay.specs.Steps.{Step, steps}
use Rattle.vll_replay.proofs.Watched.{HasSeen}
use Rattle.vll_replay.proofs.watching.push_event_lines.Given as goal

abbrev pub invariant-loop-index : goal.invariant-loop-index
invariant-loop-index g l =
    let o = opening_of placing l.initial.core in
    record {
      text : string_bytes l.text ++ flat_map event_line (enumerate_from l.index (answers o l.core.state (drop l.index l.schedule)))
          ≡ string_bytes l.initial.text ++ flat_map event_line (enumerate_from 0 (answers o l.initial.core.state l.schedule));
      runs : run o l.core.state (drop l.index l.schedule) ≡ run o l.initial.core.state l.schedule;
      fixed : l.core ≡ record l.initial.core { state = l.core.state };
      seen : (task : g.O.Observer.Task) (past : List Step) → g.O.Observer.saw task o past l.initial.observer
          → HasSeen (λ done. g.O.Observer.saw task o done l.observer) (steps o l.core.state (drop l.index l.schedule)) (past ++ steps o l.initial.core.state l.schedule);
    }
