-- The words at the end, divided, are the records and the pairs that the journal's calls leave, one at a time; and each session that came
-- has seen the beginning of them.
use Rattle.std.proofs.Common.{◌≡◌, ℕ, ◌<◌, List, [], ◌∷◌, length, map, Option, Some, None, Result, Ok, Err, IfErr, IfOk, All, slice_get, refl, sym, ap, ◌∙◌, subst, arith}
use Rattle.std.proofs.lemmas.Grind.{same_number_lists}
use Rattle.std.proofs.lemmas.List.{get_or-map, length-map}
use Rattle.vll_proc.specs.declared.syntax.Proc.{Proc}
use Rattle.vll_proc.specs.declared.call.Call.{Call}
use Rattle.vll_proc.specs.Headline.Serial.{Made, apply, applied_at, end}
use Rattle.vll_proc.proofs.Kept.{length-applied}
use Rattle.vll_core.specs.declared.line.Line.{Line}
use Rattle.vll_core.specs.Headline.State.{Base}
use Rattle.vll_counters.specs.Shown.{SessionShown}
use Rattle.vll_counters.specs.Told.{IsAtEnd}
use Rattle.vll_counters.specs.Headline.Views.{calls_in}
use Rattle.vll_queue.specs.Closed.{AreSerial, IsSerial}
use Rattle.vll_queue.specs.Private.Divided.{AreDivided}
use Rattle.vll_queue.specs.Private.Kept.{AreOwn}
use Rattle.vll_queue.specs.Sessions.{HasItsCalls}
use Rattle.vll_queue.specs.Shown.{Named}
use Rattle.vll_queue.specs.declared.closed.Closed.{Closed}

-- running calls one at a time keeps the number of records
end_length : (procs : List Proc) (calls : List Made) (records : List ℕ) → length (end procs calls records) ≡ length records
end_length procs [] records = refl
end_length procs (m ∷ more) records = end_length procs more (apply procs m.1 records).records ∙ applied_length (slice_get procs m.1.number) m.1 records
  where
    applied_length : (p : Option Proc) (call : Call) (now : List ℕ) → length (applied_at p call now).records ≡ length now
    applied_length None call now = refl
    applied_length (Some p) call now = length-applied p call now

-- so what they leave is as long
pub end_is_as_long : (e : Named) (ls : List Line) (now : List ℕ) → now ≡ end e.base.procs (calls_in ls) e.base.records → length now ≡ length e.base.records
end_is_as_long e ls now is = ap length is ∙ end_length e.base.procs (calls_in ls) e.base.records

within : (r m k : ℕ) → m ≡ k → r < m → r < k
within r m k h low = omega (arith, h, low)

-- the values are the records after all calls
ended_values : (base : Base) (ls : List Line) (words values pairs : List ℕ) → IsAtEnd base ls words → AreDivided (length base.records) words values pairs
    → values ≡ end base.procs (calls_in ls) base.records
ended_values base ls words values pairs are divided =
    same_number_lists values (end base.procs (calls_in ls) base.records) (divided.as_many_values ∙ sym (end_length base.procs (calls_in ls) base.records)) (λ r low.
    let below : r < length base.records = within r (length values) (length base.records) divided.as_many_values low in
    divided.each_value r below ∙ are.values r below)

-- and each pair is 0
ended_pairs : (base : Base) (ls : List Line) (words values pairs : List ℕ) → IsAtEnd base ls words → AreDivided (length base.records) words values pairs
    → pairs ≡ map (λ (r : ℕ). 0) base.records
ended_pairs base ls words values pairs are divided =
    same_number_lists pairs (map (λ (r : ℕ). 0) base.records) (divided.as_many_pairs ∙ sym (length-map base.records (λ (r : ℕ). 0))) (λ r low.
    let below : r < length base.records = within r (length pairs) (length base.records) divided.as_many_pairs low in
    divided.each_pair r below ∙ are.pairs r below ∙ sym (get_or-map (λ (x : ℕ). 0) base.records r 0 0 below))

-- so the calls of an engine's words are serial, and the values and pairs are what they leave
pub serial_end : (e : Named) (base : Base) (room : ℕ) (ls : List Line) (words divided values pairs : List ℕ) → base ≡ e.base → room ≡ length e.base.records → IsAtEnd base ls words → divided ≡ words
    → AreDivided room divided values pairs → AreOwn e ls → AreSerial e ls × (values ≡ end e.base.procs (calls_in ls) e.base.records) × (pairs ≡ map (λ (r : ℕ). 0) e.base.records)
serial_end e base room ls words divided values pairs same count at_end as_words each own =
    let are : IsAtEnd e.base ls words = subst (λ (b : Base). IsAtEnd b ls words) same at_end in
    let parts : AreDivided (length e.base.records) words values pairs =
    subst (λ (x : ℕ × List ℕ). AreDivided x.0 x.1 values pairs) (λ i. (count i, as_words i)) each in (
      record { answered = are.replied; ready = own.ready; found = own.found; clients = own.clients },
      ended_values e.base ls words values pairs are parts,
      ended_pairs e.base ls words values pairs are parts,
    )

-- and so is what is closed
pub serial_closed : (e : Named) (ls : List Line) (c : Closed) → AreSerial e ls → c.records.items ≡ end e.base.procs (calls_in ls) e.base.records
    → c.pairs.items ≡ map (λ (r : ℕ). 0) e.base.records → c.journal.items ≡ ls → IsSerial e c
serial_closed e ls c serial values pairs journal =
    let own : AreSerial e c.journal.items = subst (AreSerial e) (sym journal) serial in
    record {
      answered = own.answered;
      at_end = values ∙ ap (λ (xs : List Line). end e.base.procs (calls_in xs) e.base.records) (sym journal);
      none_open = pairs;
      ready = own.ready;
      found = own.found;
      clients = own.clients;
    }

-- what sessions have of the calls in some lines they have of the same lines
pub have_calls_of : (sessions : List SessionShown) (old new : List Line) → new ≡ old → All (λ (s : SessionShown). HasItsCalls (calls_in old) s.session) sessions
    → All (λ (s : SessionShown). HasItsCalls (calls_in new) s.session) sessions
have_calls_of sessions old new same each = subst (λ (ls : List Line). All (λ (s : SessionShown). HasItsCalls (calls_in ls) s.session) sessions) (sym same) each

-- what follows from a fact of a value
pub ok_from : {A B : Type 0} (P Q : A → Type 0) (r : Result A B) → ((a : A) → P a → Q a) → IfOk r P → IfOk r Q
ok_from P Q (Ok a) follows fact = follows a fact
ok_from P Q (Err b) follows fact = tt

-- and of an error
pub err_from : {A B : Type 0} (P Q : B → Type 0) (r : Result A B) → ((b : B) → P b → Q b) → IfErr r P → IfErr r Q
err_from P Q (Ok a) follows fact = tt
err_from P Q (Err b) follows fact = follows b fact
