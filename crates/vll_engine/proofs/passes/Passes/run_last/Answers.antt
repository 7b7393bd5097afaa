use Rattle.std.proofs.Common.{◌≡◌, ◌<◌, ◌∙◌, length, refl, sym, ap, subst, arith}
use Rattle.vll_counters.specs.Shown.{PassShown}
use Rattle.vll_counters.specs.declared.views.PassView.{PassView}
use Rattle.vll_queue.specs.Pass.{DoneShown, StaysOf}
use Rattle.vll_engine.proofs.Onto.{off_last, put_last}
use Rattle.vll_engine.proofs.passes.Passes.run_last.Goals as goal

pub returns-clause-same : goal.returns-clause-same
returns-clause-same g c =
    let passes = c.self.inside.items in
    let put = c.run_in_place-reply.new.pass in
    let last = c.index_mut-last.result.now in
    let long = passes.ok.0 in
    let count : c.len-count.result ≡ length passes.items = c.len-count.ensures ∙ long in
    let some = c.if-count-eq0.false in
    let there : 0 < passes.len = omega (arith, c.len-count.ensures, some) in
    let taken = put_last passes.items _ c.len-count.result passes.len put c.in-Some.pass c.pop.result count long some refl (c.pop.ensures.value put there) c.in-Some.is in
    record {
      last = last;
      off = sym c.self.view_is ∙ off_last passes.items c.pop.new.self.items _ c.len-count.result passes.len last put count long some refl c.pop.ensures.rest c.index_mut-last.ensures.value;
      same = subst (λ (p : PassView). StaysOf last.pass p) (ap (λ (p : PassShown). p.pass) taken ∙ sym (ap (λ (d : DoneShown). d.pass) c.into_released.ensures)) c.run_in_place-reply.ensures.same;
    }
