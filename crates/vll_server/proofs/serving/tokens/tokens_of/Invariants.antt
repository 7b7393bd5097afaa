-- The tokens of the last scripts are made, the last one first.
use Rattle.std.proofs.Common.{◌≡◌, ◌≤◌, ◌<◌, ◌^◌, ◌++◌, length, reverse, vec_len}
use Rattle.std.specs.List.{All}
use Rattle.vll_counters.specs.Shown.{AreNewSessions}
use Rattle.vll_scenario.specs.declared.limits.TheConstants.{MOST_CLIENTS}
use Rattle.vll_scenario.specs.Setup.{lists_of}
use Rattle.vll_server.specs.Scripts.{tokens_from}
use Rattle.vll_server.proofs.serving.tokens.tokens_of.Given as goal

abbrev pub invariant-loop-script : goal.invariant-loop-script
invariant-loop-script g l =
    let table = g.N.Name.engine.table in
    record {
      sessions : AreNewSessions table (length l.scripts.items) l.sessions.items;
      few : length l.scripts.items ≤ MOST_CLIENTS;
      short : All (λ script. length script.items < 2 ^ 32) l.scripts.items;
      tokens : tokens_from table 0 (lists_of l.scripts.items) ++ reverse l.tokens.items ≡ tokens_from table 0 (lists_of l.initial.scripts.items);
    }

abbrev pub decreases-loop-script : goal.decreases-loop-script
decreases-loop-script g l = vec_len l.scripts
