-- The epochs so far, and one more.
use Rattle.std.proofs.Common.{◌≡◌, ℕ, Bool, true, false, List, [], ◌++◌, length, refl, sym, ap, ◌∙◌, subst, arith, Option}
use Rattle.std.proofs.KnownBytes.{Appends-trans}
use Rattle.std.specs.Io.KnownBytes.{Appends}
use Rattle.vll_scenario.specs.Headline.Setup.{Setup}
use Rattle.vll_scenario.specs.Streams.{AppendsBeginning}
use Rattle.vll_lines.specs.Answers.{answers, end_line}
use Rattle.vll_lines.specs.Counts.{all_counted, none_counted}
use Rattle.vll_lines.specs.declared.counts.Counts.{Counts}
use Rattle.vll_lines.specs.Request.{AreRequests}
use Rattle.vll_lines.specs.Lines.{lines_in}
use Rattle.vll_lines.proofs.Counted.{calls_counted}
use Rattle.vll_stream.specs.declared.fault.StreamFault.{StreamFault}
use Rattle.vll_stream.specs.declared.fault.StreamFault.TheVariants as fault
use Rattle.vll_stream.specs.Served.{AreAnswered, EndsEarly, ServesLines, Stopped, Wrote, last_line}
use Rattle.vll_stream.proofs.Stops.{begins_then, part_answers, part_then_stops}
use Rattle.vll_proc.specs.Headline.Serial.{Made, end}
use Rattle.vll_proc.specs.Serial.{replies}
use Rattle.vll_proc.specs.declared.call.Reply.{Reply}
use Rattle.vll_proc.proofs.Joined.{end_joined}
use Rattle.vll_check.specs.Headline.Catalog.{Catalog}
use Rattle.vll_core.specs.Headline.State.{Base, catalog_of}
use Rattle.vll_queue.specs.Closed.{GoesOn}
use Rattle.vll_queue.specs.Headline.Found.{AreFoundThere}
use Rattle.vll_queue.specs.Shown.{Named, OpeningShown, library_of, name_of}
use Rattle.vll_sca.specs.Placing.{placing}
use Rattle.vll_sca.specs.declared.place.Placing.{Placing}
use Rattle.vll_stream.specs.Private.Parts.{IsPart, Place}
use Rattle.vll_stream.specs.Private.Stopped.{StopsAfter}
use Rattle.vll_stream.specs.Private.Told.{AreAll, IsSoFar, first_engine}
use Rattle.vll_stream.proofs.Answered.{length-replies}
use Rattle.vll_stream.proofs.Found.{base_after, catalog_after, found_in_both, none_found}
use Rattle.vll_stream.proofs.Parts.{no_part, part_then}

-- no epoch yet
pub none_so_far : (e : Named) (at : Place) (next : OpeningShown Placing) → GoesOn placing e [] next → IsSoFar e at at next
none_so_far e at next on = record { calls = []; part = no_part (library_of e) e.clients e.base.records at; found = none_found e.base; on = on }

module _ (e : Named) (old mid new : Place) (next : OpeningShown Placing) (so_far : IsSoFar e old mid next) where
  -- the base of the next epoch
  next_base : (name_of placing next).base ≡ base_after e.base so_far.calls
  next_base =
      ap (λ (c : Catalog). let b : Base = record { procs = c.procs; records = next.records } in b) so_far.on.library
      ∙ ap (λ (rs : List ℕ). let b : Base = record { procs = e.base.procs; records = rs } in b) so_far.on.records

  next_library : library_of (name_of placing next) ≡ library_of e
  next_library = ap catalog_of next_base ∙ catalog_after e.base so_far.calls

  module _ (more : List Made) (is_last : Bool) (part : IsPart (library_of (name_of placing next)) next.clients next.records more is_last mid new) where
    joined : IsPart (library_of e) e.clients e.base.records (so_far.calls ++ more) is_last old new
    joined =
        part_then (library_of e) e.clients e.base.records is_last old mid new so_far.calls more so_far.part
        (subst (λ (k : ℕ). IsPart (library_of e) k (end e.base.procs so_far.calls e.base.records) more is_last mid new) so_far.on.clients
        (subst (λ (c : Catalog). IsPart c next.clients (end e.base.procs so_far.calls e.base.records) more is_last mid new) (catalog_after e.base so_far.calls)
        (subst (λ (b : Base). IsPart (catalog_of b) next.clients b.records more is_last mid new) next_base part)))

    found_joined : AreFoundThere (name_of placing next).base more → AreFoundThere e.base (so_far.calls ++ more)
    found_joined found = found_in_both e.base so_far.calls more so_far.found (subst (λ (b : Base). AreFoundThere b more) next_base found)

    left_joined : (left : List ℕ) → left ≡ end next.library.procs more next.records → left ≡ end e.base.procs (so_far.calls ++ more) e.base.records
    left_joined left is = is ∙ (ap (λ (b : Base). end b.procs more b.records) next_base ∙ sym (end_joined e.base.procs so_far.calls more e.base.records))

    -- one more epoch
    pub one_more : AreFoundThere (name_of placing next).base more → (after : OpeningShown Placing) → GoesOn placing (name_of placing next) more after → is_last ≡ false → IsSoFar e old new after
    one_more found after on isnt = record {
      calls = so_far.calls ++ more;
      part = subst (λ (b : Bool). IsPart (library_of e) e.clients e.base.records (so_far.calls ++ more) b old new) isnt joined;
      found = found_joined found;
      on = record {
        records = left_joined after.records on.records;
        library = on.library ∙ next_library;
        config = on.config ∙ so_far.on.config;
        places = on.places ∙ so_far.on.places;
        clients = on.clients ∙ so_far.on.clients;
      };
    }

    -- the last epoch
    pub the_last : AreFoundThere (name_of placing next).base more → (left : List ℕ) → left ≡ end next.library.procs more next.records → is_last ≡ true → AreAll e old new left
    the_last found left is last = record {
      calls = so_far.calls ++ more;
      part = subst (λ (b : Bool). IsPart (library_of e) e.clients e.base.records (so_far.calls ++ more) b old new) last joined;
      found = found_joined found;
      records = left_joined left is;
    }

-- an epoch more, which has stopped
pub epoch_stops : (e : Named) (old mid : Place) (next : OpeningShown Placing) (why : StreamFault) (left written : Option (List ℕ)) → IsSoFar e old mid next
    → StopsAfter (name_of placing next).base next.clients [] why mid left written → StopsAfter e.base e.clients [] why old left written
epoch_stops e old mid next why left written so_far stops =
    let new : Place = record { input = left; tail = stops.tail; output = stops.whole; counts = stops.counts } in
    let part = stops.part in
    let base_is = next_base e old mid new next so_far in
    part_then_stops e.base e.clients so_far.calls why old mid left written so_far.part
    (record {
      more = stops.more;
      is_last = stops.is_last;
      tail = stops.tail;
      whole = stops.whole;
      counts = stops.counts;
      part = record {
        bytes = part.bytes;
        read = part.read;
        ended = part.ended;
        lines = part.lines;
        cut = part.cut;
        requests = part.requests;
        are =
            subst (λ (k : ℕ). AreRequests (library_of e) k part.lines part.requests) so_far.on.clients
            (subst (λ (c : Catalog). AreRequests c next.clients part.lines part.requests) (next_library e old mid new next so_far) part.are);
        ordered = part.ordered;
        text = part.text;
        rounds = part.rounds;
        told = part.told;
        answered = part.answered ∙ ap (λ (b : Base). answers b.procs part.requests mid.counts b.records stops.more part.rounds) base_is;
        written = part.written;
        counts = part.counts ∙ ap (λ (b : Base). all_counted mid.counts (replies b.procs stops.more b.records)) base_is;
      };
      found = found_in_both e.base so_far.calls stops.more so_far.found (subst (λ (b : Base). AreFoundThere b stops.more) base_is stops.found);
      uncalled = stops.uncalled;
      stopped = stops.stopped;
      wrote = stops.wrote;
    })

module _ (s : Setup) (old new before written : Option (List ℕ)) (tail left : List ℕ) (n : Counts)
    (all : AreAll (first_engine s) (record { input = old; tail = []; output = before; counts = none_counted }) (record { input = new; tail = tail; output = written; counts = n }) left) where
  -- the last line is that of all calls
  last_of_all : end_line n.calls left ≡ last_line s all.calls
  last_of_all =
      let said : List Reply = replies s.procs all.calls s.records in
      let many = calls_counted none_counted said in
      let long = length-replies s.procs all.calls s.records in
      let same : n.calls ≡ (all_counted none_counted said).calls = ap (λ (c : Counts). c.calls) all.part.counts in
      let count : n.calls ≡ length all.calls = omega (arith, same, many, long) in
      ap (λ (k : ℕ). end_line k left) count ∙ ap (end_line (length all.calls)) all.records

  all_answered : AreAnswered s (lines_in all.part.bytes) all.calls all.part.text
  all_answered =
      subst (λ (ls : List (List ℕ)). AreAnswered s ls all.calls all.part.text) (sym all.part.cut.1)
      (part_answers s old before (record { input = new; tail = tail; output = written; counts = n }) true all.calls all.part all.found)

  -- all epochs, and then the last line
  pub serves_all : (final : Option (List ℕ)) → Appends written final (end_line n.calls left) → ServesLines s old new (Appends before final)
  serves_all final wrote =
      let part = all.part in
      let last : List ℕ = last_line s all.calls in
      record {
        input = part.bytes;
        read = part.read;
        ended = part.ended refl;
        output = part.text ++ last;
        served = record { calls = all.calls; text = part.text; answered = all_answered; written = refl };
        holds = Appends-trans before written final part.text last part.written (subst (Appends written final) last_of_all wrote);
      }

  -- all epochs, and then not all of the last line
  stops_behind : (why : StreamFault) (final : Option (List ℕ)) → Stopped why true [] → Wrote why true before final all.part.text (last_line s all.calls) → EndsEarly s why old new before final
  stops_behind why final stopped wrote =
      let part = all.part in
      record {
        input = part.bytes;
        read = part.read;
        is_last = true;
        lines = lines_in part.bytes;
        tail = [];
        cut = (refl, refl);
        calls = all.calls;
        text = part.text;
        answered = all_answered;
        stopped = stopped;
        wrote = wrote;
      }

  -- the last line was not written in full
  pub breaks_off : (final : Option (List ℕ)) → AppendsBeginning written final (end_line n.calls left) → EndsEarly s fault.Write old new before final
  breaks_off final wrote =
      stops_behind fault.Write final refl
      (begins_then before written final all.part.text (last_line s all.calls) all.part.written (subst (AppendsBeginning written final) last_of_all wrote))

  -- there was no memory for the last line
  pub lacks_memory : EndsEarly s fault.NoMemory old new before written
  lacks_memory = stops_behind fault.NoMemory written tt all.part.written
