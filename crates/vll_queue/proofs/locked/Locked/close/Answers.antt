use Rattle.std.proofs.Common.{◌≡◌, ℕ, ◌+◌, ◌*◌, ◌≤◌, List, length, vec_capacity, ap, arith, rules, subst, sym, ◌∙◌}
use Rattle.vll_core.specs.declared.line.Line.{Line}
use Rattle.vll_core.specs.Queue.{lines}
use Rattle.vll_core.specs.Headline.State.{Base}
use Rattle.vll_counters.specs.Shown.{QueueShown, WordsShown}
use Rattle.vll_counters.specs.Told.{IsAtEnd}
use Rattle.vll_queue.proofs.Ending.{have_calls_of, serial_end}
use Rattle.vll_queue.proofs.locked.Locked.close.Goals as goal

pub returns-clause-ended : goal.returns-clause-ended
returns-clause-ended g c =
    let e = g.N.Name.engine in
    let kept = c.self.invariant in
    let base : c.args.words.base ≡ e.base = ap (λ (w : WordsShown). w.base) c.requires.words in
    let at_end = subst (λ (ls : List Line). IsAtEnd c.args.words.base ls c.close-words.result.items) (ap (λ (q : QueueShown). q.lines) c.visit_all.ensures.same ∙ kept.lines_are) c.close-words.ensures.words in
    let left = serial_end e c.args.words.base c.args.memory (lines c.self.inside.queue) c.close-words.result.items c.as_slice.result.now c.divided-records.result.0.items c.divided-records.result.1.items base c.requires.memory at_end
    c.as_slice.ensures.value c.divided-records.ensures.words kept.own in
    record {
      library = c.requires.library;
      config = λ i. record { cap = kept.cap i; limit = kept.limit i; bits = kept.bits i };
      places = kept.places;
      serial = left.0;
      records = left.1;
      pairs = left.2;
      few = c.requires.few;
      none = c.visit_all.ensures.none;
      room = let count = c.len-clients.ensures in let within = c.args.sessions.ok.1 in let same = c.visit_all.ensures.room in omega (arith, count, within, same);
      room_for_words = subst (λ (b : Base). 1 + 2 * length b.records ≤ vec_capacity c.close-words.result) base c.close-words.ensures.room;
      room_for_records = subst (λ (n : ℕ). n ≤ vec_capacity c.divided-records.result.0) c.requires.memory c.divided-records.ensures.room.0;
      room_for_pairs = subst (λ (n : ℕ). n ≤ vec_capacity c.divided-records.result.1) c.requires.memory c.divided-records.ensures.room.1;
    }

pub returns-clause-sessions : goal.returns-clause-sessions
returns-clause-sessions g c = have_calls_of c.args.sessions.items c.self.inside.seat.lines (lines c.self.inside.queue) (sym c.self.invariant.lines_are) c.visit_all.ensures.sessions

pub returns-then-running-gt0-clause-running : goal.returns-then-running-gt0-clause-running
returns-then-running-gt0-clause-running g c = search rules
