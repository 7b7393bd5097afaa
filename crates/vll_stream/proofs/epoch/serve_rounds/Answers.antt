use Rattle.std.proofs.Common.{◌≡◌, Bool, false, [], List, Result, Err, IfErr, sym, subst, rules}
use Rattle.vll_proc.specs.Headline.Serial.{Made}
use Rattle.vll_queue.specs.Shown.{library_of}
use Rattle.vll_stream.specs.Private.Callers.{made_so_far}
use Rattle.vll_stream.specs.Private.Parts.{IsPart, Place, place_of}
use Rattle.vll_stream.specs.Private.Stopped.{StopsAfter}
use Rattle.vll_stream.specs.declared.fault.StreamFault.{StreamFault}
use Rattle.vll_stream.proofs.Parts.{no_part}
use Rattle.vll_stream.proofs.Rounds.{part_more}
use Rattle.vll_stream.proofs.Stops.{part_then_stops}
use Rattle.vll_stream.proofs.epoch.serve_rounds.Given.{Over}
use Rattle.vll_stream.proofs.epoch.serve_rounds.Goals.{In_ok-is_last}
use Rattle.vll_stream.proofs.epoch.serve_rounds.Goals as goal

pub loop-init : goal.loop-init
loop-init g c =
    let e = g.N.Name.engine in
    let at : Place = place_of g.S.Source.remaining g.W.Sink.contents c.args.reader.now c.args.tail.now.items c.args.writer.now c.args.callers.now.counts in (
      tt,
      tt,
      c.requires.callers,
      c.requires.reader,
      c.requires.writer,
      c.requires.tail,
      subst (λ (calls : List Made). IsPart (library_of e) e.clients e.base.records calls false at at) (sym c.requires.none) (no_part (library_of e) e.clients e.base.records at),
    )

-- the rounds so far, and one more
more : (g : Over) (c : In_ok-is_last g) → IsPart (library_of g.N.Name.engine) g.N.Name.engine.clients g.N.Name.engine.base.records (made_so_far c.serve_round.new.callers) c.in_ok-is_last.is_last
    (place_of g.S.Source.remaining g.W.Sink.contents c.args.reader.now c.args.tail.now.items c.args.writer.now c.args.callers.now.counts)
    (place_of g.S.Source.remaining g.W.Sink.contents c.serve_round.new.reader c.serve_round.new.tail.items c.serve_round.new.writer c.serve_round.new.callers.counts)
more g c =
    let known = g.S.Source.remaining in
    let contents = g.W.Sink.contents in
    let old : Place = place_of known contents c.args.reader.now c.args.tail.now.items c.args.writer.now c.args.callers.now.counts in
    let mid : Place = place_of known contents c.loop.reader c.loop.tail.items c.loop.writer c.loop.callers.counts in
    let new : Place = place_of known contents c.serve_round.new.reader c.serve_round.new.tail.items c.serve_round.new.writer c.serve_round.new.callers.counts in
    part_more g.N.Name.engine (made_so_far c.loop.callers) (made_so_far c.serve_round.new.callers) c.in_ok-is_last.is_last old mid new c.loop.invariant.6 c.in_ok-is_last.ensures.round

pub returns-then-is_last-clause-rounds : goal.returns-then-is_last-clause-rounds
returns-then-is_last-clause-rounds g c = more g (goal.at.returns-then-is_last-clause-rounds g c).In_ok-is_last

pub loop-preserved : goal.loop-preserved
loop-preserved g c =
    let e = g.N.Name.engine in
    let known = g.S.Source.remaining in
    let contents = g.W.Sink.contents in
    let old : Place = place_of known contents c.args.reader.now c.args.tail.now.items c.args.writer.now c.args.callers.now.counts in
    let new : Place = place_of known contents c.serve_round.new.reader c.serve_round.new.tail.items c.serve_round.new.writer c.serve_round.new.callers.counts in (
      tt,
      tt,
      c.in_ok-is_last.ensures.callers,
      c.in_ok-is_last.ensures.reader,
      c.in_ok-is_last.ensures.writer,
      c.in_ok-is_last.ensures.tail,
      subst (λ (b : Bool). IsPart (library_of e) e.clients e.base.records (made_so_far c.serve_round.new.callers) b old new) c.if-is_last.false (more g (goal.at.loop-preserved g c).In_ok-is_last),
    )

pub returns-in_err-is_last-clause-err : goal.returns-in_err-is_last-clause-err
returns-in_err-is_last-clause-err g c =
    let e = g.N.Name.engine in
    let known = g.S.Source.remaining in
    let contents = g.W.Sink.contents in
    let old : Place = place_of known contents c.args.reader.now c.args.tail.now.items c.args.writer.now c.args.callers.now.counts in
    let mid : Place = place_of known contents c.loop.reader c.loop.tail.items c.loop.writer c.loop.callers.counts in
    let left = known c.serve_round.new.reader in
    let written = contents c.serve_round.new.writer in
    let why = c.in_err-is_last.field-0.0 in
    let is : c.from_residual.result ≡ Err why = search rules in
    subst (λ (r : Result Bool StreamFault). IfErr r (λ w. StopsAfter e.base e.clients [] w old left written)) (sym is)
    (part_then_stops e.base e.clients (made_so_far c.loop.callers) why old mid left written c.loop.invariant.6 c.in_err-is_last.ensures.err)
