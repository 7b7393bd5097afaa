-- What holds of each script holds of the last one and of those that are left.
use Rattle.std.proofs.Common.{All, Some}
use Rattle.std.specs.Global.{Vec}
use Rattle.std.proofs.lemmas.List.Elements.{All-pop}
use Rattle.vll_proc.specs.declared.call.Call.{Call}
use Rattle.vll_check.specs.Calls.{Fits}
use Rattle.vll_queue.specs.Shown.{library_of}
use Rattle.vll_bench.proofs.caller.callers.Goals as goal

pub invariant_of-push : goal.invariant_of-push
invariant_of-push g c =
    let e = g.N.Name.engine in
    (All-pop (λ (script : Vec Call). All (Fits (library_of e)) script.items) c.loop-script.scripts.items c.pop.new.self.items (Some c.in-Some.script) c.in-Some.ensures.items c.loop-script.invariant).1

pub loop-script-preserved : goal.loop-script-preserved
loop-script-preserved g c =
    let e = g.N.Name.engine in
    (All-pop (λ (script : Vec Call). All (Fits (library_of e)) script.items) c.loop-script.scripts.items c.pop.new.self.items (Some c.in-Some.script) c.in-Some.ensures.items c.loop-script.invariant).0
