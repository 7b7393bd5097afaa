use Rattle.std.proofs.Common.{◌≡◌, ◌++◌, map, take}
use Rattle.vll_proc.specs.declared.call.Call.{Call}
use Rattle.vll_draw.proofs.one_by_one.push_script.Given as goal

-- the calls so far were appended
abbrev pub invariant-loop-call : goal.invariant-loop-call
invariant-loop-call l = l.calls.items ≡ l.initial.calls.items ++ map (λ (call : Call). (l.client, call)) (take l.call-index l.script)
