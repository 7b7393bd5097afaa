-- The lines of a round are answered by the calls that were made for them, round after round.
use Rattle.std.proofs.Common.{◌≡◌, ℕ, zero, suc, Bool, false, List, [], ◌∷◌, ◌++◌, map, refl, sym, ap, ◌∙◌, subst, rules, Result, Ok, Err, Some, None, All, slice_get, Option, append_assoc, append-nil}
use Rattle.std.proofs.lemmas.List.Elements.{All-cons, All-head, All-nil, All-tail}
use Rattle.std.proofs.lemmas.Option.{same_Some}
use Rattle.std.specs.Io.KnownBytes.{Appends, append_known}
use Rattle.vll_proc.specs.Headline.Serial.{Made, apply, end}
use Rattle.vll_proc.specs.Serial.{replies}
use Rattle.vll_proc.proofs.Joined.{end_joined}
use Rattle.vll_proc.specs.declared.call.Call.{Call}
use Rattle.vll_proc.specs.declared.call.Reply.{Reply}
use Rattle.vll_proc.specs.declared.syntax.Proc.{Proc}
use Rattle.vll_queue.specs.Headline.Found.{AreFoundThere}
use Rattle.vll_queue.specs.Shown.{Named, library_of}
use Rattle.vll_lines.specs.Answers.{answers, counts_line, fault_line, records_at, records_line, reply_line, with_answer}
use Rattle.vll_lines.specs.Lines.{IsBroken, IsRound, has_feed}
use Rattle.vll_lines.specs.Calls.{call_shown, calls_of, with_call, with_counts}
use Rattle.vll_lines.specs.Counts.{all_counted, counted}
use Rattle.vll_lines.specs.declared.counts.Counts.{Counts}
use Rattle.vll_lines.specs.declared.counts.Rounds.{Rounds}
use Rattle.vll_lines.specs.declared.request.Asked.{Asked}
use Rattle.vll_lines.specs.declared.request.Asked.TheVariants as asked
use Rattle.vll_lines.specs.declared.request.ClientCall.{ClientCall}
use Rattle.vll_lines.specs.declared.request.LineFault.{LineFault}
use Rattle.vll_lines.specs.declared.request.RecordRange.{RecordRange}
use Rattle.vll_lines.specs.declared.request.Request.{Request}
use Rattle.vll_lines.specs.declared.round.Round.{Round}
use Rattle.vll_lines.specs.declared.round.RoundFault.{RoundFault}
use Rattle.vll_lines.specs.declared.round.RoundFault.TheVariants as round_fault
use Rattle.vll_lines.proofs.Lines.{no_feed_after}
use Rattle.vll_scenario.specs.Streams.{AppendsBeginning}
use Rattle.vll_stream.specs.declared.fault.StreamFault.{StreamFault}
use Rattle.vll_stream.specs.declared.fault.StreamFault.TheVariants as fault
use Rattle.vll_stream.specs.Private.Callers.{MakesCall}
use Rattle.vll_stream.specs.Private.Faults.{fault_of_round}
use Rattle.vll_stream.specs.Private.Parts.{IsPart, Place}
use Rattle.vll_stream.specs.Private.Stopped.{IsOwn, StopsAfter}
use Rattle.vll_stream.specs.Private.Told.{AnswersLines, IsRoundAfter}
use Rattle.vll_stream.specs.Served.{Stopped}
use Rattle.vll_stream.proofs.Answered.{answered_then, counted_then, ordered_then, told_then}
use Rattle.vll_stream.proofs.Parts.{part_then}
use Rattle.vll_stream.proofs.Stops.{own_stopped, own_uncalled, stops_unanswered}

-- ---- the lines of a round

-- no line
pub answers_none : (e : Named) (calls : List Made) (from : Counts) → AnswersLines e calls calls [] from [] from
answers_none e calls from = record { more = []; made = sym (append-nil calls); ordered = refl; rounds = []; told = refl; answered = refl; counts = refl }

-- lines, and others after them
pub answers_then : (e : Named) (calls mid now : List Made) (requests others : List Request) (from between next : Counts) (text more : List ℕ) → AnswersLines e calls mid requests from text between
    → AnswersLines e mid now others between more next → AnswersLines e calls now (requests ++ others) from (text ++ more) next
answers_then e calls mid now requests others from between next text more one two =
    let procs : List Proc = e.base.procs in
    let records : List ℕ = end procs calls e.base.records in
    let after : end procs mid e.base.records ≡ end procs one.more records = ap (λ (l : List Made). end procs l e.base.records) one.made ∙ end_joined procs calls one.more e.base.records in
    let front : List ℕ = answers procs requests from records one.more one.rounds in
    record {
      more = one.more ++ two.more;
      made = two.made ∙ (ap (λ (l : List Made). l ++ two.more) one.made ∙ append_assoc calls one.more two.more);
      ordered = ordered_then requests others one.more two.more one.ordered two.ordered;
      rounds = one.rounds ++ two.rounds;
      told = told_then requests others one.rounds two.rounds one.told two.told;
      answered =
          ap (λ (l : List ℕ). l ++ more) one.answered
          ∙ (ap (λ (l : List ℕ). front ++ l) (two.answered ∙ ap (λ (rs : List ℕ). answers procs others between rs two.more two.rounds) after)
          ∙ sym (answered_then requests others one.more two.more procs records one.rounds two.rounds from between one.ordered one.told one.counts));
      counts =
          counted_then procs one.more two.more records from between next one.counts
          (two.counts ∙ ap (λ (rs : List ℕ). all_counted between (replies procs two.more rs)) after);
    }

-- a line that asks for nothing
pub answers_fault : (e : Named) (calls : List Made) (a : Request) (from : Counts) (why : LineFault) → a.asked ≡ Err why → AnswersLines e calls calls (a ∷ []) from (fault_line a.id why) from
answers_fault e calls a from why is = record {
  more = [];
  made = sym (append-nil calls);
  ordered = ap (λ (r : Result Asked LineFault). map call_shown (with_call r [])) is;
  rounds = [];
  told = sym (ap (λ (r : Result Asked LineFault). with_counts r 0) is);
  answered = sym (append-nil (fault_line a.id why)) ∙ ap (λ (r : Result Asked LineFault). with_answer e.base.procs a.id r (answers e.base.procs []) from (end e.base.procs calls e.base.records) [] []) (sym is);
  counts = refl;
}

-- a line that asks for counts
pub answers_counts : (e : Named) (calls : List Made) (a : Request) (from : Counts) (so_far : Rounds) → a.asked ≡ Ok asked.Counts → AnswersLines e calls calls (a ∷ []) from (counts_line a.id from so_far) from
answers_counts e calls a from so_far is = record {
  more = [];
  made = sym (append-nil calls);
  ordered = ap (λ (r : Result Asked LineFault). map call_shown (with_call r [])) is;
  rounds = so_far ∷ [];
  told = sym (ap (λ (r : Result Asked LineFault). with_counts r 0) is);
  answered =
      sym (append-nil (counts_line a.id from so_far)) ∙ ap (λ (r : Result Asked LineFault). with_answer e.base.procs a.id r (answers e.base.procs []) from (end e.base.procs calls e.base.records) [] (so_far ∷ [])) (sym is);
  counts = refl;
}

-- a line that asks for records
pub answers_records : (e : Named) (calls now : List Made) (a : Request) (from : Counts) (range : RecordRange) → a.asked ≡ Ok (asked.Records range) → now ≡ calls
    → AnswersLines e calls now (a ∷ []) from (records_line a.id (records_at range (end e.base.procs calls e.base.records))) from
answers_records e calls now a from range is same =
    let records : List ℕ = end e.base.procs calls e.base.records in
    let line : List ℕ = records_line a.id (records_at range records) in
    record {
      more = [];
      made = same ∙ sym (append-nil calls);
      ordered = ap (λ (r : Result Asked LineFault). map call_shown (with_call r [])) is;
      rounds = [];
      told = sym (ap (λ (r : Result Asked LineFault). with_counts r 0) is);
      answered = sym (append-nil line) ∙ ap (λ (r : Result Asked LineFault). with_answer e.base.procs a.id r (answers e.base.procs []) from records [] []) (sym is);
      counts = refl;
    }

-- a line that asks for a call
pub answers_call : (e : Named) (calls now : List Made) (a : Request) (from next : Counts) (c : ClientCall) (reply : Reply) → a.asked ≡ Ok (asked.Call c) → MakesCall e calls now c reply → next ≡ counted from reply
    → AnswersLines e calls now (a ∷ []) from (reply_line a.id from.calls reply) next
answers_call e calls now a from next c reply is makes counts =
    let made : Made = (c.client, makes.call) in
    let records : List ℕ = end e.base.procs calls e.base.records in
    record {
      more = made ∷ [];
      made = makes.made;
      ordered =
          ap (λ (r : Result Asked LineFault). map call_shown (with_call r [])) is ∙ ap (λ (call : Call). (c.client, call) ∷ []) (sym makes.same);
      rounds = [];
      told = sym (ap (λ (r : Result Asked LineFault). with_counts r 0) is);
      answered =
          ap (reply_line a.id from.calls) makes.replied
          ∙ (sym (append-nil (reply_line a.id from.calls (apply e.base.procs makes.call records).reply))
          ∙ ap (λ (r : Result Asked LineFault). with_answer e.base.procs a.id r (answers e.base.procs []) from records (made ∷ []) []) (sym is));
      counts = counts ∙ ap (counted from) makes.replied;
    }

-- what holds of all calls that lines ask for holds of the call of one line
pub calls_at : (P : ClientCall → Type 0) (requests : List Request) (i : ℕ) (a : Request) → slice_get requests i ≡ Some a → All P (calls_of requests) → All P (calls_of (a ∷ []))
calls_at P [] i a at all = absurd (let e : None ≡ Some a = at in search rules)
calls_at P (x ∷ more) zero a at all = subst (λ (y : Request). All P (calls_of (y ∷ []))) (same_Some x a at) (first_of x.asked (calls_of more) all)
  where
    first_of : (r : Result Asked LineFault) (cs : List ClientCall) → All P (with_call r cs) → All P (with_call r [])
    first_of (Ok (asked.Call c)) cs all = All-cons P c [] (All-head P c cs all) (All-nil P)
    first_of (Ok asked.Counts) cs all = All-nil P
    first_of (Ok (asked.Records range)) cs all = All-nil P
    first_of (Err why) cs all = All-nil P
calls_at P (x ∷ more) (suc i) a at all = calls_at P more i a at (rest_of x.asked (calls_of more) all)
  where
    rest_of : (r : Result Asked LineFault) (cs : List ClientCall) → All P (with_call r cs) → All P cs
    rest_of (Ok (asked.Call c)) cs all = All-tail P c cs all
    rest_of (Ok asked.Counts) cs all = all
    rest_of (Ok (asked.Records range)) cs all = all
    rest_of (Err why) cs all = all

-- and of the call that the line asks for
pub call_of_one : (P : ClientCall → Type 0) (a : Request) (c : ClientCall) → a.asked ≡ Ok (asked.Call c) → All P (calls_of (a ∷ [])) → P c
call_of_one P a c is all = All-head P c [] (subst (λ (r : Result Asked LineFault). All P (with_call r [])) is all)

-- ---- a round

Appends-known : (known : Option (List ℕ)) (text : List ℕ) → Appends known (append_known known text) text
Appends-known None text = tt
Appends-known (Some xs) text = refl

module _ (e : Named) (calls now : List Made) (round : Round) (old : Place) (input : Option (List ℕ)) (tail : List ℕ) (read : IsRound (library_of e) e.clients old.input input old.tail tail round) (next : Counts) (text : List ℕ)
    (answered : AnswersLines e calls now round.requests.items old.counts text next) where
  part_of : (output : Option (List ℕ)) → Appends old.output output text
      → IsPart (library_of e) e.clients (end e.base.procs calls e.base.records) answered.more round.is_last old (record { input = input; tail = tail; output = output; counts = next })
  part_of output wrote = record {
    bytes = read.bytes;
    read = read.read;
    ended = read.ended;
    lines = read.lines;
    cut = read.cut;
    requests = round.requests.items;
    are = read.requests;
    ordered = answered.ordered;
    text = text;
    rounds = answered.rounds;
    told = answered.told;
    answered = answered.answered;
    written = wrote;
    counts = answered.counts;
  }

  -- a round that was read and answered
  pub round_after : (output : Option (List ℕ)) → Appends old.output output text → IsRoundAfter e calls now round.is_last old (record { input = input; tail = tail; output = output; counts = next })
  round_after output wrote = record { more = answered.more; made = answered.made; part = part_of output wrote }

  -- a round that was read, and not answered in full
  pub round_breaks_off : AreFoundThere e.base now → (output : Option (List ℕ)) → has_feed tail ≡ false → AppendsBeginning old.output output text → StopsAfter e.base e.clients calls fault.Write old input output
  unfolding part_of
  round_breaks_off found output unended wrote = record {
    more = answered.more;
    is_last = round.is_last;
    tail = tail;
    whole = append_known old.output text;
    counts = next;
    part = part_of (append_known old.output text) (Appends-known old.output text);
    found = subst (AreFoundThere e.base) answered.made found;
    uncalled = λ is. absurd (let e : fault.Write ≡ fault.Calls = is in search rules);
    stopped = unended;
    wrote = wrote;
  }

-- a round that was not read
pub round_broken : (e : Named) (calls : List Made) (why : RoundFault) (old : Place) (input : Option (List ℕ)) → AreFoundThere e.base calls → has_feed old.tail ≡ false → IsBroken old.input input why
    → StopsAfter e.base e.clients calls (fault_of_round why) old input old.output
round_broken e calls why old input found unended broken = stops_unanswered e.base e.clients calls (fault_of_round why) old found input broken.bytes broken.read (uncalled why) (stopped_at why broken.unended)
  where
    uncalled : (w : RoundFault) → ¬ (fault_of_round w ≡ fault.Calls)
    uncalled round_fault.Read is = absurd (let e : fault.Read ≡ fault.Calls = is in search rules)
    uncalled round_fault.NoMemory is = absurd (let e : fault.NoMemory ≡ fault.Calls = is in search rules)

    stopped_at : (w : RoundFault) → (w ≡ round_fault.Read → has_feed broken.bytes ≡ false) → Stopped (fault_of_round w) false (old.tail ++ broken.bytes)
    stopped_at round_fault.Read none = (refl, no_feed_after old.tail broken.bytes unended (none refl))
    stopped_at round_fault.NoMemory none = tt

-- a round that was read, and not answered
pub round_unanswered : (e : Named) (calls : List Made) (why : StreamFault) (round : Round) (old : Place) (input : Option (List ℕ)) (tail : List ℕ) → IsRound (library_of e) e.clients old.input input old.tail tail round
    → AreFoundThere e.base calls → IsOwn why → StopsAfter e.base e.clients calls why old input old.output
round_unanswered e calls why round old input tail read found own =
    stops_unanswered e.base e.clients calls why old found input read.bytes read.read (own_uncalled why own) (own_stopped why own false (old.tail ++ read.bytes))

-- rounds, and one more
pub part_more : (e : Named) (calls now : List Made) (is_last : Bool) (old mid new : Place) → IsPart (library_of e) e.clients e.base.records calls false old mid → IsRoundAfter e calls now is_last mid new
    → IsPart (library_of e) e.clients e.base.records now is_last old new
part_more e calls now is_last old mid new rounds round =
    subst (λ (cs : List Made). IsPart (library_of e) e.clients e.base.records cs is_last old new) (sym round.made)
    (part_then (library_of e) e.clients e.base.records is_last old mid new calls round.more rounds round.part)
