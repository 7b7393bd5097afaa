-- A service that stops before its input ends.
use Rattle.std.proofs.Common.{◌≡◌, ℕ, Bool, true, false, List, [], ◌++◌, length, refl, sym, ap, ◌∙◌, subst, Option, append_assoc, append-nil}
use Rattle.std.proofs.KnownBytes.{Appends-nil, Appends-trans, Consumes-nil}
use Rattle.std.specs.Io.KnownBytes.{Appends, Consumes}
use Rattle.vll_proc.specs.Headline.Serial.{Made, end}
use Rattle.vll_core.specs.Headline.State.{Base, catalog_of}
use Rattle.vll_scenario.specs.Headline.Setup.{Setup}
use Rattle.vll_scenario.specs.Streams.{AppendsBeginning}
use Rattle.vll_queue.specs.Headline.Found.{AreFoundThere}
use Rattle.vll_lines.specs.Counts.{none_counted}
use Rattle.vll_stream.specs.declared.fault.StreamFault.{StreamFault}
use Rattle.vll_stream.specs.declared.fault.StreamFault.TheVariants as fault
use Rattle.vll_stream.specs.Served.{AreAnswered, EndsEarly, Stopped, Wrote, base_of, last_line}
use Rattle.vll_stream.specs.Private.Parts.{IsPart, Place}
use Rattle.vll_stream.specs.Private.Stopped.{IsOwn, StopsAfter}
use Rattle.vll_stream.proofs.Found.{none_found}
use Rattle.vll_stream.proofs.Parts.{part_then, part_then_text, part_unanswered, part_unanswered_text}

-- a text was appended, and then a beginning of another one
pub begins_then : (a b c : Option (List ℕ)) (xs ys : List ℕ) → Appends a b xs → AppendsBeginning b c ys → AppendsBeginning a c (xs ++ ys)
begins_then a b c xs ys one two = (
  xs ++ two.0,
  two.1,
  ap (λ (l : List ℕ). xs ++ l) two.2 ∙ sym (append_assoc xs two.0 two.1),
  Appends-trans a b c xs two.0 one two.3,
)

-- a beginning of a text is one of a longer text
begins_longer : (a b : Option (List ℕ)) (xs ys : List ℕ) → AppendsBeginning a b xs → AppendsBeginning a b (xs ++ ys)
begins_longer a b xs ys begun = (
  begun.0,
  begun.1 ++ ys,
  ap (λ (l : List ℕ). l ++ ys) begun.2 ∙ append_assoc begun.0 begun.1 ys,
  begun.3,
)

wrote_longer : (why : StreamFault) (is_last : Bool) (a b : Option (List ℕ)) (text last : List ℕ) → Wrote why false a b text [] → Wrote why is_last a b text last
wrote_longer fault.Write true a b text last wrote = begins_longer a b text last wrote
wrote_longer fault.Write false a b text last wrote = wrote
wrote_longer fault.Calls is_last a b text last wrote = wrote
wrote_longer fault.Read is_last a b text last wrote = wrote
wrote_longer fault.NoMemory is_last a b text last wrote = wrote
wrote_longer fault.Unfinished is_last a b text last wrote = wrote

wrote_then : (why : StreamFault) (a b c : Option (List ℕ)) (xs ys : List ℕ) → Appends a b xs → Wrote why false b c ys [] → Wrote why false a c (xs ++ ys) []
wrote_then fault.Write a b c xs ys one two = begins_then a b c xs ys one two
wrote_then fault.Calls a b c xs ys one two = Appends-trans a b c xs ys one two
wrote_then fault.Read a b c xs ys one two = Appends-trans a b c xs ys one two
wrote_then fault.NoMemory a b c xs ys one two = Appends-trans a b c xs ys one two
wrote_then fault.Unfinished a b c xs ys one two = Appends-trans a b c xs ys one two

pub own_uncalled : (why : StreamFault) → IsOwn why → ¬ (why ≡ fault.Calls)
own_uncalled why own is = subst IsOwn is own

pub own_stopped : (why : StreamFault) → IsOwn why → (is_last : Bool) (tail : List ℕ) → Stopped why is_last tail
own_stopped fault.Calls own is_last tail = absurd own
own_stopped fault.Read own is_last tail = absurd own
own_stopped fault.Write own is_last tail = absurd own
own_stopped fault.NoMemory own is_last tail = tt
own_stopped fault.Unfinished own is_last tail = tt

own_wrote : (why : StreamFault) → IsOwn why → (a b : Option (List ℕ)) (text : List ℕ) → Appends a b text → Wrote why false a b text []
own_wrote fault.Calls own a b text wrote = absurd own
own_wrote fault.Read own a b text wrote = absurd own
own_wrote fault.Write own a b text wrote = absurd own
own_wrote fault.NoMemory own a b text wrote = wrote
own_wrote fault.Unfinished own a b text wrote = wrote

nothing_wrote : (why : StreamFault) (known : Option (List ℕ)) → Wrote why false known known [] []
nothing_wrote fault.Write known = ([], [], refl, Appends-nil known)
nothing_wrote fault.Calls known = Appends-nil known
nothing_wrote fault.Read known = Appends-nil known
nothing_wrote fault.NoMemory known = Appends-nil known
nothing_wrote fault.Unfinished known = Appends-nil known

module _ (base : Base) (clients : ℕ) (calls : List Made) (why : StreamFault) (old : Place) (found : AreFoundThere base calls) where
  -- bytes were read, and nothing was written
  pub stops_unanswered : (left : Option (List ℕ)) (bytes : List ℕ) → Consumes old.input left bytes → ¬ (why ≡ fault.Calls) → Stopped why false (old.tail ++ bytes)
      → StopsAfter base clients calls why old left old.output
  stops_unanswered left bytes read uncalled stopped = record {
    more = [];
    is_last = false;
    tail = old.tail ++ bytes;
    whole = old.output;
    counts = old.counts;
    part = part_unanswered (catalog_of base) clients (end base.procs calls base.records) old left (old.tail ++ bytes) bytes read refl;
    found = subst (AreFoundThere base) (sym (append-nil calls)) found;
    uncalled = uncalled;
    stopped = stopped;
    wrote =
        subst (λ (text : List ℕ). Wrote why false old.output old.output text [])
        (part_unanswered_text (catalog_of base) clients (end base.procs calls base.records) old left (old.tail ++ bytes) bytes read refl) (nothing_wrote why old.output);
  }

-- nothing was read or written
pub stops_at_once : (base : Base) (clients : ℕ) (why : StreamFault) (at : Place) → IsOwn why → StopsAfter base clients [] why at at.input at.output
stops_at_once base clients why at own =
    stops_unanswered base clients [] why at (none_found base) at.input [] (Consumes-nil at.input) (own_uncalled why own) (own_stopped why own false (at.tail ++ []))

-- all of a part was answered, and no more
pub stops_behind_part : (base : Base) (clients : ℕ) (calls : List Made) (why : StreamFault) (is_last : Bool) (old new : Place) → IsOwn why → IsPart (catalog_of base) clients base.records calls is_last old new
    → AreFoundThere base calls → StopsAfter base clients [] why old new.input new.output
stops_behind_part base clients calls why is_last old new own part found = record {
  more = calls;
  is_last = is_last;
  tail = new.tail;
  whole = new.output;
  counts = new.counts;
  part = part;
  found = found;
  uncalled = own_uncalled why own;
  stopped = own_stopped why own is_last new.tail;
  wrote = own_wrote why own old.output new.output part.text part.written;
}

-- a part was answered, and then a service has stopped
pub part_then_stops : (base : Base) (clients : ℕ) (calls : List Made) (why : StreamFault) (old mid : Place) (left written : Option (List ℕ)) → IsPart (catalog_of base) clients base.records calls false old mid
    → StopsAfter base clients calls why mid left written → StopsAfter base clients [] why old left written
part_then_stops base clients calls why old mid left written part stops =
    let new : Place = record { input = left; tail = stops.tail; output = stops.whole; counts = stops.counts } in
    record {
      more = calls ++ stops.more;
      is_last = stops.is_last;
      tail = stops.tail;
      whole = stops.whole;
      counts = stops.counts;
      part = part_then (catalog_of base) clients base.records stops.is_last old mid new calls stops.more part stops.part;
      found = stops.found;
      uncalled = stops.uncalled;
      stopped = stops.stopped;
      wrote =
          subst (λ (text : List ℕ). Wrote why false old.output written text []) (part_then_text (catalog_of base) clients base.records stops.is_last old mid new calls stops.more part stops.part)
          (wrote_then why old.output mid.output written part.text stops.part.text part.written stops.wrote);
    }

-- a part from the opening records on answers its lines
pub part_answers : (s : Setup) (old before : Option (List ℕ)) (new : Place) (is_last : Bool) (calls : List Made)
    (part : IsPart (catalog_of (base_of s)) (length s.scripts) s.records calls is_last (record { input = old; tail = []; output = before; counts = none_counted }) new) → AreFoundThere (base_of s) calls
    → AreAnswered s part.lines calls part.text
part_answers s old before new is_last calls part found = record {
  requests = part.requests;
  read = part.are;
  ordered = part.ordered;
  found = found;
  rounds = part.rounds;
  told = part.told;
  written = part.answered;
}

-- from the opening records on
pub ends_early : (s : Setup) (why : StreamFault) (old left before written : Option (List ℕ))
    → StopsAfter (base_of s) (length s.scripts) [] why (record { input = old; tail = []; output = before; counts = none_counted }) left written → EndsEarly s why old left before written
ends_early s why old left before written stops =
    let part = stops.part in
    record {
      input = part.bytes;
      read = part.read;
      is_last = stops.is_last;
      lines = part.lines;
      tail = stops.tail;
      cut = part.cut;
      calls = stops.more;
      text = part.text;
      answered = part_answers s old before (record { input = left; tail = stops.tail; output = stops.whole; counts = stops.counts }) stops.is_last stops.more part stops.found;
      stopped = stops.stopped;
      wrote = wrote_longer why stops.is_last before written part.text (last_line s stops.more) stops.wrote;
    }

-- before anything was read
pub ends_at_once : (s : Setup) (why : StreamFault) (input output : Option (List ℕ)) → EndsEarly s why input input output output
ends_at_once s why input output = record {
  input = [];
  read = Consumes-nil input;
  is_last = false;
  lines = [];
  tail = [];
  cut = λ rest. refl;
  calls = [];
  text = [];
  answered = record {
    requests = [];
    read = tt;
    ordered = refl;
    found = none_found (base_of s);
    rounds = [];
    told = refl;
    written = refl;
  };
  stopped = stopped_at why;
  wrote = wrote_longer why false output output [] (last_line s []) (nothing_wrote why output);
}
  where
    stopped_at : (w : StreamFault) → Stopped w false []
    stopped_at fault.Calls = tt
    stopped_at fault.Read = (refl, refl)
    stopped_at fault.Write = refl
    stopped_at fault.NoMemory = tt
    stopped_at fault.Unfinished = tt
