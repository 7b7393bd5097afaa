-- What an engine leaves that served a scenario, and its text.
use Rattle.std.proofs.Common.{◌≡◌, ℕ, suc, ◌+◌, List, [], ◌∷◌, map, length, Some, refl, ap, ap₂, ◌∙◌, sym, arith, slice_get, replicate, subst, Result, Ok, Err, IfOk}
use Rattle.std.specs.List.{enumerate_from, zip}
use Rattle.std.proofs.Math.Seq.{take-length}
use Rattle.std.proofs.lemmas.List.{length-map}
use Rattle.vll_proc.specs.declared.call.Call.{Call}
use Rattle.vll_proc.specs.declared.syntax.Proc.{Proc}
use Rattle.vll_proc.specs.Headline.Serial.{Made, answer, end}
use Rattle.vll_core.specs.declared.line.Line.{Line}
use Rattle.vll_core.specs.Headline.State.{Base, catalog_of as catalog_in}
use Rattle.vll_core.proofs.SerialRun.{length_before}
use Rattle.vll_counters.specs.Headline.Views.{calls_in}
use Rattle.vll_queue.specs.declared.closed.Closed.{Closed}
use Rattle.vll_queue.specs.Closed.{IsSerial}
use Rattle.vll_queue.specs.Headline.Found.{AreFoundThere}
use Rattle.vll_queue.specs.Shown.{Named, library_of}
use Rattle.vll_workers.specs.Headline.Merge.{IsMerge}
use Rattle.vll_scenario.specs.Headline.Setup.{Setup}
use Rattle.vll_server.specs.declared.fault.ServeFault.{ServeFault}
use Rattle.vll_server.specs.Headline.Serve.{IsServed, base_of}
use Rattle.vll_replay.specs.Headline.Text.{outcome_text}
use Rattle.vll_server.specs.Headline.Text.{answer_text, closed_text, line_words}
use Rattle.vll_server.specs.Text.{serial_text}

-- the lines from one on have the replies of the serial run
lines_tell : (procs : List Proc) (calls : List Made) (records : List ℕ) (k : ℕ) (lines : List Line) → ((t : ℕ) (l : Line) → slice_get lines t ≡ Some l → l.reply ≡ answer procs calls records (k + t))
    → map line_words lines ≡ map (λ (p : ℕ × Made). (p.1.0, answer_text (answer procs calls records p.0))) (enumerate_from k (calls_in lines))
lines_tell procs calls records k [] told = refl
lines_tell procs calls records k (l ∷ lines) told =
    let here : k + 0 ≡ k = omega arith in
    let first : l.reply ≡ answer procs calls records k = told 0 l refl ∙ ap (answer procs calls records) here in
    ap₂ (λ w ws. w ∷ ws) (ap (λ o. (l.client, answer_text o)) first) (lines_tell procs calls records (k + 1) lines (λ t m is. let next : k + suc t ≡ k + 1 + t = omega arith in told (suc t) m is ∙ ap (answer procs calls records) next))

-- every pair word is 0
zeros : (xs : List ℕ) → map {B = ℕ} (λ (r : ℕ). 0) xs ≡ replicate (length xs) 0
zeros [] = refl
zeros (x ∷ xs) = ap (λ ys. 0 ∷ ys) (zeros xs)

-- running calls one at a time keeps the number of records
end_length : (procs : List Proc) (calls : List Made) (records : List ℕ) → length (end procs calls records) ≡ length records
end_length procs calls records = ap (λ (cs : List Made). length (end procs cs records)) (sym (take-length calls)) ∙ length_before procs calls records (length calls)

-- the text of what is left is that of the journal's calls, made one at a time
pub served_text : (s : Setup) (c : Closed) → IsServed s c → closed_text c ≡ serial_text s.procs s.records (calls_in c.journal.items)
served_text s c served =
    let calls = calls_in c.journal.items in
    let words = lines_tell s.procs calls s.records 0 c.journal.items (λ t l is. let same : t ≡ 0 + t = omega arith in served.answered t l is ∙ ap (answer s.procs calls s.records) same) in
    let pairs : c.pairs.items ≡ replicate (length (end s.procs calls s.records)) 0 = served.none_open ∙ zeros s.records ∙ ap (λ n. replicate n 0) (sym (end_length s.procs calls s.records)) in
    ap₂ outcome_text words (ap₂ zip served.at_end pairs)

-- it has as many records as pair words
pub as_many : (s : Setup) (c : Closed) → IsServed s c → length c.records.items ≡ length c.pairs.items
as_many s c served =
    ap length served.at_end ∙ end_length s.procs (calls_in c.journal.items) s.records ∙ sym (ap length served.none_open ∙ length-map s.records (λ (r : ℕ). 0))

-- what an engine leaves that was opened for a scenario, and whose journal merges the scripts
served : (s : Setup) (e : Named) (c : Closed) → e.base ≡ base_of s → IsMerge (library_of e) (calls_in c.journal.items) s.scripts → IsSerial e c → IsServed s c
served s e c same merge serial =
    let calls = calls_in c.journal.items in
    record {
      merge = subst (λ (b : Base). IsMerge (catalog_in b) calls s.scripts) same merge;
      answered = subst (λ (b : Base). (t : ℕ) (l : Line) → slice_get c.journal.items t ≡ Some l → l.reply ≡ answer b.procs calls b.records t) same serial.answered;
      at_end = subst (λ (b : Base). c.records.items ≡ end b.procs calls b.records) same serial.at_end;
      none_open = subst (λ (b : Base). c.pairs.items ≡ map (λ (r : ℕ). 0) b.records) same serial.none_open;
      found = subst (λ (b : Base). AreFoundThere b calls) same serial.found;
    }

pub all_served : (s : Setup) (e : Named) (scripts : List (List Call)) (r : Result Closed ServeFault) → e.base ≡ base_of s → scripts ≡ s.scripts
    → IfOk r (IsSerial e) → IfOk r (λ (c : Closed). IsMerge (library_of e) (calls_in c.journal.items) scripts) → IfOk r (IsServed s)
all_served s e scripts (Ok c) base scripts_are serial merge =
    served s e c base (subst (λ (ss : List (List Call)). IsMerge (library_of e) (calls_in c.journal.items) ss) scripts_are merge) serial
all_served s e scripts (Err why) base scripts_are serial merge = tt
