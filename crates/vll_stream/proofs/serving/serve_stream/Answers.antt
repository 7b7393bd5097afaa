use Rattle.std.proofs.Common.{◌≡◌, ◌≤◌, ℕ, List, [], ◌++◌, refl, sym, ap, ◌∙◌, subst, rules, Result, Err, IfErr, vec_capacity}
use Rattle.std.specs.Io.KnownBytes.{Appends}
use Rattle.vll_core.specs.declared.config.Config.{Config}
use Rattle.vll_core.specs.declared.config.TheConstants.{MOST_CALLS}
use Rattle.vll_queue.specs.Closed.{GoesOn}
use Rattle.vll_queue.specs.Shown.{OpeningShown, name_of}
use Rattle.vll_sca.specs.declared.place.Placing.{Placing}
use Rattle.vll_scenario.specs.declared.limits.TheConstants.{MOST_CLIENTS}
use Rattle.vll_sca.specs.Placing.{placing}
use Rattle.vll_lines.specs.Answers.{end_line}
use Rattle.vll_lines.specs.Counts.{none_counted}
use Rattle.vll_lines.specs.Lines.{has_feed}
use Rattle.vll_lines.specs.declared.counts.Counts.{Counts}
use Rattle.vll_stream.specs.Private.Parts.{Place, place_of}
use Rattle.vll_stream.specs.Private.Told.{AreAll, IsEpoch, IsSoFar, first_engine}
use Rattle.vll_stream.specs.Served.{EndsEarly}
use Rattle.vll_stream.specs.declared.fault.StreamFault.{StreamFault}
use Rattle.vll_stream.specs.declared.fault.StreamFault.TheVariants as fault
use Rattle.vll_stream.specs.declared.snapshot.Snapshot.{Snapshot}
use Rattle.vll_stream.proofs.Snapshots.{first_snapshot}
use Rattle.vll_scenario.specs.Streams.{AppendsBeginning}
use Rattle.vll_stream.proofs.Epochs.{breaks_off, epoch_stops, lacks_memory, none_so_far, one_more, serves_all, the_last}
use Rattle.vll_stream.proofs.Stops.{ends_at_once, ends_early}
use Rattle.vll_stream.proofs.serving.serve_stream.Given.{Over}
use Rattle.vll_stream.proofs.serving.serve_stream.Goals.{After-as_slice-in-Over, In-Over}
use Rattle.vll_stream.proofs.serving.serve_stream.Goals as goal

pub loop-init : goal.loop-init
loop-init g c =
    let first = first_engine c.args.scenario in
    let at : Place = place_of g.S.Source.remaining g.W.Sink.contents c.args.reader.now [] c.args.writer.now none_counted in
    let o = c.in_ok-opening.ensures.opened in
    let on : GoesOn placing first [] c.in_ok-opening.opening = record {
      records = ap (λ (x : OpeningShown Placing). x.records) o;
      library = ap (λ (x : OpeningShown Placing). x.library) o;
      config = ap (λ (x : OpeningShown Placing). x.config) o;
      places = ap (λ (x : OpeningShown Placing). placing x.hash) o;
      clients = ap (λ (x : OpeningShown Placing). x.clients) o;
    } in
    let s : Snapshot = c.new-snapshot.result in
    let is = c.new-snapshot.ensures in
    let few = c.in_ok-opening.ensures.few in (
      tt,
      tt,
      first_snapshot (name_of placing c.in_ok-opening.opening) s (ap (λ (x : Snapshot). x.calls) is)
          (ap (λ (x : Snapshot). x.values.items) is ∙ (c.in_ok-opening.ensures.records ∙ sym on.records))
          (subst (λ (k : ℕ). k ≤ vec_capacity s.room) (sym (ap (λ (x : Config). x.limit) on.config))
          (subst (λ (k : ℕ). MOST_CALLS ≤ k) (sym (ap (λ (x : Snapshot). vec_capacity x.room) is)) c.in_ok-room.ensures.capacity)),
      c.requires.reader,
      c.requires.writer,
      ap has_feed c.new-tail.ensures.items,
      subst (λ (t : List ℕ). IsSoFar first at (record at { tail = t; counts = c.none-counts.result }) c.in_ok-opening.opening) (sym c.new-tail.ensures.items)
          (subst (λ (k : Counts). IsSoFar first at (record at { counts = k }) c.in_ok-opening.opening) (sym c.none-counts.ensures) (none_so_far first at c.in_ok-opening.opening on)),
      subst (λ (k : ℕ). k ≤ MOST_CLIENTS) on.clients few,
    )

pub loop-preserved : goal.loop-preserved
loop-preserved g c =
    let first = first_engine c.args.scenario in
    let known = g.S.Source.remaining in
    let contents = g.W.Sink.contents in
    let l = c.loop in
    let e = name_of placing l.opening in
    let so_far = l.invariant.6 in
    let old : Place = place_of known contents c.args.reader.now [] c.args.writer.now none_counted in
    let mid : Place = place_of known contents l.reader l.tail.items l.writer l.counts in
    let new : Place = place_of known contents c.run_epoch.new.reader c.run_epoch.new.tail.items c.run_epoch.new.writer c.in_ok-ended.ended.counts in
    let epoch = subst (IsEpoch e mid new) c.in-On.is c.in_ok-ended.ensures.epoch in (
      tt,
      tt,
      epoch.follows.1,
      c.in_ok-ended.ensures.reader,
      c.in_ok-ended.ensures.writer,
      c.in_ok-ended.ensures.tail,
      one_more first old mid new l.opening so_far epoch.calls _ epoch.part epoch.found c.in-On.next epoch.follows.0 refl,
      l.invariant.7,
    )

-- all epochs, once the last one has ended
all_of : (g : Over) (c : In-Over g) → AreAll (first_engine c.args.scenario) (place_of g.S.Source.remaining g.W.Sink.contents c.args.reader.now [] c.args.writer.now none_counted)
    (place_of g.S.Source.remaining g.W.Sink.contents c.run_epoch.new.reader c.run_epoch.new.tail.items c.run_epoch.new.writer c.in_ok-ended.ended.counts) c.in-Over.records.items
all_of g c =
    let known = g.S.Source.remaining in
    let contents = g.W.Sink.contents in
    let l = c.loop in
    let e = name_of placing l.opening in
    let old : Place = place_of known contents c.args.reader.now [] c.args.writer.now none_counted in
    let mid : Place = place_of known contents l.reader l.tail.items l.writer l.counts in
    let new : Place = place_of known contents c.run_epoch.new.reader c.run_epoch.new.tail.items c.run_epoch.new.writer c.in_ok-ended.ended.counts in
    let epoch = subst (IsEpoch e mid new) c.in-Over.is c.in_ok-ended.ensures.epoch in
    the_last (first_engine c.args.scenario) old mid new l.opening l.invariant.6 epoch.calls _ epoch.part epoch.found c.in-Over.records.items epoch.follows refl

-- the last line is written then
text_of : (g : Over) (c : After-as_slice-in-Over g) → c.as_slice-in-Over.result.now ≡ end_line c.in_ok-ended.ended.counts.calls c.in-Over.records.items
text_of g c =
    let n : ℕ = c.in_ok-ended.ended.counts.calls in
    c.as_slice-in-Over.ensures.value
    ∙ (c.in_ok-text-in-Over.ensures ∙ (ap (λ (l : List ℕ). l ++ end_line n c.as_slice.result.now) c.new-in-Over.ensures.items ∙ ap (end_line n) c.as_slice.ensures.value))

pub returns-in-Over-clause-ok : goal.returns-in-Over-clause-ok
returns-in-Over-clause-ok g c =
    let at = goal.at.returns-in-Over-clause-ok g c in
    let known = g.S.Source.remaining in
    let contents = g.W.Sink.contents in
    let final = contents c.write_text.new.writer in
    serves_all c.args.scenario (known c.args.reader.now) (known c.run_epoch.new.reader) (contents c.args.writer.now) (contents c.run_epoch.new.writer) c.run_epoch.new.tail.items c.in-Over.records.items
    c.in_ok-ended.ended.counts (all_of g at.In-Over) final (subst (Appends (contents c.run_epoch.new.writer) final) (text_of g at.After-as_slice-in-Over) c.in_ok-write_text-in-Over.ensures.ok)

pub returns-in_err-opening-clause-err : goal.returns-in_err-opening-clause-err
returns-in_err-opening-clause-err g c =
    let known = g.S.Source.remaining c.args.reader.now in
    let contents = g.W.Sink.contents c.args.writer.now in
    let why = c.in_err-opening.field-0.0 in
    let is : c.from_residual.result ≡ Err why = search rules in
    subst (λ (r : Result (Unit {0}) StreamFault). IfErr r (λ w. EndsEarly c.args.scenario w known known contents contents)) (sym is) (ends_at_once c.args.scenario why known contents)

pub returns-in_err-room-clause-err : goal.returns-in_err-room-clause-err
returns-in_err-room-clause-err g c =
    let known = g.S.Source.remaining c.args.reader.now in
    let contents = g.W.Sink.contents c.args.writer.now in
    let is : c.from_residual-in_err-room.result ≡ Err fault.NoMemory = search rules in
    subst (λ (r : Result (Unit {0}) StreamFault). IfErr r (λ w. EndsEarly c.args.scenario w known known contents contents)) (sym is) (ends_at_once c.args.scenario fault.NoMemory known contents)

pub returns-in_err-rounds-clause-err : goal.returns-in_err-rounds-clause-err
returns-in_err-rounds-clause-err g c =
    let known = g.S.Source.remaining c.args.reader.now in
    let contents = g.W.Sink.contents c.args.writer.now in
    let is : c.from_residual-in_err-rounds.result ≡ Err fault.NoMemory = search rules in
    subst (λ (r : Result (Unit {0}) StreamFault). IfErr r (λ w. EndsEarly c.args.scenario w known known contents contents)) (sym is) (ends_at_once c.args.scenario fault.NoMemory known contents)

pub returns-in_err-ended-clause-err : goal.returns-in_err-ended-clause-err
returns-in_err-ended-clause-err g c =
    let first = first_engine c.args.scenario in
    let known = g.S.Source.remaining in
    let contents = g.W.Sink.contents in
    let l = c.loop in
    let old : Place = place_of known contents c.args.reader.now [] c.args.writer.now none_counted in
    let mid : Place = place_of known contents l.reader l.tail.items l.writer l.counts in
    let left = known c.run_epoch.new.reader in
    let written = contents c.run_epoch.new.writer in
    let why = c.in_err-ended.field-0.0 in
    let is : c.from_residual-in_err-ended.result ≡ Err why = search rules in
    subst (λ (r : Result (Unit {0}) StreamFault). IfErr r (λ w. EndsEarly c.args.scenario w old.input left old.output written)) (sym is)
    (ends_early c.args.scenario why old.input left old.output written (epoch_stops first old mid l.opening why left written l.invariant.6 c.in_err-ended.ensures.err))

-- no epoch ends for the scenario's calls
uncalled : (r : Result (Unit {0}) StreamFault) (why : StreamFault) → r ≡ Err why → ¬ (why ≡ fault.Calls) → ¬ (r ≡ Err fault.Calls)
uncalled r why is isnt called = isnt (let e : Err why ≡ Err fault.Calls = sym is ∙ called in search rules)

pub returns-in_err-ended-clause-calls : goal.returns-in_err-ended-clause-calls
returns-in_err-ended-clause-calls g c =
    let why = c.in_err-ended.field-0.0 in
    let is : c.from_residual-in_err-ended.result ≡ Err why = search rules in (
      λ called. absurd (uncalled c.from_residual-in_err-ended.result why is c.in_err-ended.ensures.err.uncalled called),
      λ has. absurd (let e = c.in_ok-opening.ensures.calls.1 has in search rules),
    )

pub returns-in_err-ended-clause-untouched : goal.returns-in_err-ended-clause-untouched
returns-in_err-ended-clause-untouched g c = λ called.
    let why = c.in_err-ended.field-0.0 in
    let is : c.from_residual-in_err-ended.result ≡ Err why = search rules in
    absurd (uncalled c.from_residual-in_err-ended.result why is c.in_err-ended.ensures.err.uncalled called)

pub returns-in_err-text-in-Over-clause-err : goal.returns-in_err-text-in-Over-clause-err
returns-in_err-text-in-Over-clause-err g c =
    let old = g.S.Source.remaining c.args.reader.now in
    let left = g.S.Source.remaining c.run_epoch.new.reader in
    let before = g.W.Sink.contents c.args.writer.now in
    let written = g.W.Sink.contents c.run_epoch.new.writer in
    let is : c.from_residual-in_err-text-in-Over.result ≡ Err fault.NoMemory = search rules in
    subst (λ (r : Result (Unit {0}) StreamFault). IfErr r (λ w. EndsEarly c.args.scenario w old left before written)) (sym is)
    (lacks_memory c.args.scenario old left before written c.run_epoch.new.tail.items c.in-Over.records.items c.in_ok-ended.ended.counts
    (all_of g (goal.at.returns-in_err-text-in-Over-clause-err g c).In-Over))

pub returns-in_err-write_text-in-Over-clause-err : goal.returns-in_err-write_text-in-Over-clause-err
returns-in_err-write_text-in-Over-clause-err g c =
    let at = goal.at.returns-in_err-write_text-in-Over-clause-err g c in
    let old = g.S.Source.remaining c.args.reader.now in
    let left = g.S.Source.remaining c.run_epoch.new.reader in
    let before = g.W.Sink.contents c.args.writer.now in
    let written = g.W.Sink.contents c.run_epoch.new.writer in
    let final = g.W.Sink.contents c.write_text.new.writer in
    let is : c.from_residual-in_err-write_text-in-Over.result ≡ Err fault.Write = search rules in
    subst (λ (r : Result (Unit {0}) StreamFault). IfErr r (λ w. EndsEarly c.args.scenario w old left before final)) (sym is)
    (breaks_off c.args.scenario old left before written c.run_epoch.new.tail.items c.in-Over.records.items c.in_ok-ended.ended.counts (all_of g at.In-Over) final
    (subst (AppendsBeginning written final) (text_of g at.After-as_slice-in-Over) c.in_err-write_text-in-Over.ensures.err))

pub run_epoch-requires : goal.run_epoch-requires
run_epoch-requires g c =
    let l = c.loop in
    let on = l.invariant.6.on in
    record {
      named = refl;
      few = subst (λ (k : ℕ). k ≤ MOST_CLIENTS) (sym on.clients) l.invariant.7;
      snapshot = l.invariant.2;
      reader = l.invariant.3;
      writer = l.invariant.4;
      tail = l.invariant.5;
    }
