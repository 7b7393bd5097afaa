use Rattle.std.proofs.Common.{◌≡◌, Some, slice_get, sym, ap, ◌∙◌, subst, rules}
use Rattle.vll_core.specs.Queue.{lines, statuses}
use Rattle.vll_counters.specs.Shown.{QueueShown, WordsShown, after, queue_view}
use Rattle.vll_counters.specs.Written.{longer}
use Rattle.vll_counters.specs.Steps.{finished as ended}
use Rattle.vll_queue.specs.Pass.{DoneShown, IsReleased}
use Rattle.vll_queue.specs.Private.Kept.{IsKept}
use Rattle.vll_queue.proofs.Keeps.{kept_finished, pass_ended, reply_is}
use Rattle.vll_queue.proofs.locked.Locked.finish.Goals as goal

pub invariant_of-self : goal.invariant_of-self
invariant_of-self g c =
    let e = g.N.Name.engine in
    let shown : DoneShown = record { table = c.released.inside.seat.table; pass = c.released.inside.seat.pass; reply = c.released.inside.reply } in
    let released : IsReleased e shown = subst (IsReleased e) (sym c.released.view_is) c.requires.released in
    let seat = c.join_pass.ensures.queue ∙ ap
    (λ (w : WordsShown). let x : QueueShown = record (after c.self.inside.seat (ended w.base c.released.inside.seat.pass (queue_view c.self.inside.seat))) { past = longer c.self.inside.seat.past c.released.inside.seat.past } in x)
    c.requires.words in
    subst (IsKept e g.H.Place.place_of c.join_pass.new.queue) (sym c.remove.ensures)
    (kept_finished e g.H.Place.place_of c.self.inside.seat c.join_pass.new.queue _ c.self.inside.queue c.released.inside.seat.pass c.released.inside.ticket c.released.inside.reply c.self.invariant c.join_pass.ensures.pass c.released.invariant
    (reply_is e shown released.of released.reply) seat)

pub returns-clause-ticket : goal.returns-clause-ticket
returns-clause-ticket g c = search rules

pub returns-clause-done : goal.returns-clause-done
returns-clause-done g c =
    let inside = c.released.inside in
    let done = pass_ended g.N.Name.engine g.H.Place.place_of c.self.inside.seat c.self.inside.queue inside.seat.pass inside.ticket inside.reply c.self.invariant c.join_pass.ensures.pass c.released.invariant in
    let ticket : c.args.released.pass.ticket ≡ inside.ticket = ap (λ (d : DoneShown). d.pass.ticket) (sym c.released.view_is) ∙ c.released.invariant in
    record {
      line = done.line;
      at = (λ i. slice_get (lines (c.remove.ensures i)) (ticket i)) ∙ done.at;
      reply_is = done.reply_is ∙ (λ i. Some (c.released.view_is i).reply);
      gone = (λ i. slice_get (statuses (c.remove.ensures i)) (ticket i)) ∙ done.gone;
    }
