use Rattle.std.proofs.Common.{◌≡◌, [], Result, Err, IfErr, sym, subst, rules}
use Rattle.vll_lines.specs.declared.counts.Counts.{Counts}
use Rattle.vll_queue.specs.Shown.{library_of}
use Rattle.vll_stream.specs.Private.Callers.{made_so_far}
use Rattle.vll_stream.specs.Private.Parts.{IsPart, Place, place_of}
use Rattle.vll_stream.specs.Private.Stopped.{StopsAfter}
use Rattle.vll_stream.specs.declared.epoch.Ended.{Ended}
use Rattle.vll_stream.specs.declared.fault.StreamFault.{StreamFault}
use Rattle.vll_stream.proofs.Stops.{stops_behind_part}
use Rattle.vll_stream.proofs.epoch.run_epoch.Goals as goal

pub returns-in_err-end_epoch-clause-err : goal.returns-in_err-end_epoch-clause-err
returns-in_err-end_epoch-clause-err g c =
    let e = g.N.Name.engine in
    let known = g.S.Source.remaining in
    let contents = g.W.Sink.contents in
    let made = made_so_far c.serve_rounds.new.callers in
    let is_last = c.in_ok-is_last.is_last in
    let old : Place = place_of known contents c.args.reader.now c.args.tail.now.items c.args.writer.now c.args.counts in
    let new : Place = place_of known contents c.serve_rounds.new.reader c.serve_rounds.new.tail.items c.serve_rounds.new.writer c.serve_rounds.new.callers.counts in
    let part = subst (λ (n : Counts). IsPart (library_of e) e.clients e.base.records made is_last (record old { counts = n }) new) c.new-callers.ensures.counts c.in_ok-is_last.ensures.rounds in
    let why = c.in_err-end_epoch.field-0.0 in
    let is : c.from_residual-in_err-end_epoch.result ≡ Err why = search rules in
    subst (λ (r : Result Ended StreamFault). IfErr r (λ w. StopsAfter e.base e.clients [] w old new.input new.output)) (sym is)
    (stops_behind_part e.base e.clients made why is_last old new c.in_err-end_epoch.ensures.own part c.in_ok-is_last.ensures.callers.found)
