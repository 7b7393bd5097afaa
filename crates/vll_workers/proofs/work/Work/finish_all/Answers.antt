use Rattle.std.proofs.Common.{List, ℕ, ◌≡◌, ◌∷◌, length, ap, subst, arith}
use Rattle.std.proofs.lemmas.List.Elements.{All-head, All-rest}
use Rattle.std.specs.Prelude.{All}
use Rattle.vll_queue.specs.Pass.{DoneShown, IsReleased}
use Rattle.vll_workers.proofs.work.Work.finish_all.Goals as goal

pub finish-ticket-requires : goal.finish-ticket-requires
finish-ticket-requires g c = record {
  released = All-head (IsReleased g.N.Name.engine) c.in-Some.done c.pop.new.self (subst (All (IsReleased g.N.Name.engine)) c.in-Some.ensures.some c.loop-done.invariant.0);
}

pub loop-done-preserved : goal.loop-done-preserved
loop-done-preserved g c =
    let i = c.loop-done.invariant in
    let a : length c.loop-done.released ≡ length (c.in-Some.done ∷ c.pop.new.self) = ap {A = List DoneShown} length c.in-Some.ensures.some in
    let b : length c.push.new.self ≡ length (c.finish-ticket.result ∷ c.loop-done.finished) = ap {A = List ℕ} length c.push.ensures in
    let few = i.1 in (
      All-rest (IsReleased g.N.Name.engine) c.in-Some.done c.pop.new.self c.loop-done.released c.in-Some.ensures.some i.0,
      omega (arith, a, b, few),
    )
