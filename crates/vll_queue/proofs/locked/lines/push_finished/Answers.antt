use Rattle.std.proofs.Common.{◌+◌, ◌-◌, ◌++◌, ◌<◌, ◌≤◌, ℕ, drop, length, vec_capacity, refl, sym, ap, ◌∙◌, arith}
use Rattle.std.proofs.lemmas.Option.{slice_get_read}
use Rattle.vll_queue.specs.Finished.{finished}
use Rattle.vll_queue.proofs.Collecting.{collected_more, collected_up_to, collected_into_all_room}
use Rattle.vll_queue.proofs.locked.lines.push_finished.Goals as goal
use Rattle.vll_queue.proofs.locked.lines.push_finished.Goals.{then-is_none-via-then-is_none, then-is_none-via-else-is_none+then-len-capacity}

pub returns-then-is_none-clause-lines : goal.returns-then-is_none-clause-lines
returns-then-is_none-clause-lines c =
    let i = c.loop-line.invariant in
    let at = slice_get_read c.args.left.now (length c.args.left.now) c.loop-line.line-index c.line-item.result refl c.loop-line-test.true c.line-item.is in
    elim c.then-is_none.branch [
      | then-is_none-via-then-is_none w ↦ collected_up_to _ c.loop-line.lines.items c.args.left.now (vec_capacity c.loop-line.lines - length c.loop-line.lines.items) c.loop-line.line-index c.line-item.result i.items at w.if-is_none.ensures
      | then-is_none-via-else-is_none+then-len-capacity w ↦
          let same = w.if-len-capacity.true in
          let len = w.len.ensures in
          let capacity = w.capacity.ensures in
          let count = c.loop-line.lines.ok.0 in
          let filled : vec_capacity c.loop-line.lines ≤ length c.loop-line.lines.items = omega (arith, same, len, capacity, count) in
          collected_into_all_room _ c.loop-line.lines.items c.args.left.now (vec_capacity c.loop-line.lines) c.loop-line.line-index i.items filled
    ]

pub loop-line-preserved : goal.loop-line-preserved
loop-line-preserved c =
    let i = c.loop-line.invariant in
    let at = slice_get_read c.args.left.now (length c.args.left.now) c.loop-line.line-index c.line-item.result refl c.loop-line-test.true c.line-item.is in
    let apart = c.if-len-capacity.false in
    let len = c.len.ensures in
    let capacity = c.capacity.ensures in
    let count = c.loop-line.lines.ok.0 in
    let fits = c.loop-line.lines.ok.1 in
    let within : length c.loop-line.lines.items < vec_capacity c.loop-line.lines = omega (arith, apart, len, capacity, count, fits) in
    let next = c.push_reserved.new.self.items in
    record {
      items = collected_more _ c.loop-line.lines.items next c.args.left.now c.loop-line.line-index (vec_capacity c.loop-line.lines) c.line-item.result i.items at c.if-is_none.ensures within c.push_reserved.ensures.items
          ∙ ap (λ (k : ℕ). next ++ finished (k - length next) (drop (c.loop-line.line-index + 1) c.args.left.now)) (sym c.push_reserved.ensures.capacity);
      room = c.push_reserved.ensures.capacity ∙ i.room;
    }
