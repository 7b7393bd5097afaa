use Rattle.std.proofs.Common.{◌≡◌, ◌+◌, List, [], ◌∷◌, ◌++◌, length, ap, ◌∙◌, subst, sym, arith}
use Rattle.std.proofs.lemmas.List.{length-append}
use Rattle.std.proofs.lemmas.List.Elements.{All-cons}
use Rattle.std.specs.Prelude.{All}
use Rattle.vll_counters.specs.Shown.{PassShown}
use Rattle.vll_queue.specs.Pass.{DoneShown, IsReleased}
use Rattle.vll_workers.proofs.work.Work.execute_all.Goals as goal

pub loop-done-preserved : goal.loop-done-preserved
loop-done-preserved g c =
    let i = c.loop-done.invariant in
    let last = c.in-Some.ensures.same.last in
    let off : c.loop-done.passes ≡ c.run_last.new.passes ++ last ∷ [] = c.in-Some.ensures.same.off in
    let a : length c.loop-done.passes ≡ length c.run_last.new.passes + 1 = ap {A = List PassShown} length off ∙ length-append c.run_last.new.passes (last ∷ []) in
    let b : length c.push.new.self ≡ length (c.in-Some.done ∷ c.loop-done.released) = ap {A = List DoneShown} length c.push.ensures in
    let few = i.1 in (
      subst (All (IsReleased g.N.Name.engine)) (sym {A = List DoneShown} c.push.ensures) (All-cons (IsReleased g.N.Name.engine) c.in-Some.done c.loop-done.released c.in-Some.ensures.released i.0),
      omega (arith, a, b, few),
    )
