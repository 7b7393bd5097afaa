-- The words of each record after each step that is drawn, by the columns and the words before them.
use Rattle.std.proofs.Common.{◌≡◌, ℕ, zero, ◌<◌, List, [], ◌∷◌, length, suc, take, drop, Bool, true, false, Option, Some, None, Ok, Err, IfSome, refl, sym, ap, ◌∙◌, subst, arith, slice_get, if◌then◌else◌}
use Rattle.std.proofs.lemmas.Bool.{eqb-true}
use Rattle.vll_record.specs.declared.claim.Claim.{Claim}
use Rattle.vll_core.specs.declared.event.Event.{Event}
use Rattle.vll_core.specs.declared.event.Event.TheVariants as event
use Rattle.vll_core.specs.declared.seen.Seen.{Seen}
use Rattle.vll_core.specs.declared.refusal.Refusal.TheVariants.{NotRunning}
use Rattle.vll_record.specs.Counter.{delta_of}
use Rattle.vll_sca.specs.Status.{is_running}
use Rattle.vll_core.specs.State.{Opening, Entered, State, counter}
use Rattle.vll_core.specs.Machine.{Outcome, if_running, or_refuse, state_after, step, answer_of}
use Rattle.vll_core.specs.Moves.{IsReached, by_event, moved, entry_release, entry_store, is_on, delta_if, requested_by, released_by, stored_by, turn_request}
use Rattle.vll_core.specs.Next.{claim_of}
use Rattle.vll_core.proofs.Counters.{counters_change}
use Rattle.vll_core.proofs.Values.{others_stay}
use Rattle.vll_replay.specs.Steps.{Step, step_of, steps}
use Rattle.vll_draw.specs.Columns.{AreColumns, AreSteps, AreWordsOf, IsColumn, next_words, words_after, words_at}
use Rattle.vll_draw.specs.declared.picture.column.Column.{Column}
use Rattle.vll_draw.specs.declared.picture.column.RecordWords.{RecordWords}
use Rattle.vll_draw.specs.declared.picture.drawing.Standing.{Standing}
use Rattle.vll_draw.specs.Taped.{HasTaped, Stands, drawn}
use Rattle.vll_draw.specs.declared.tape.Tape.{Tape}
use Rattle.vll_scenario.specs.declared.event_range.EventRange.{EventRange}

-- a claim that is not on a record adds nothing to its counter
off_adds_nothing : (r : ℕ) (c : Option Claim) → is_on r c ≡ false → delta_if r c ≡ 0
off_adds_nothing r None off = refl
off_adds_nothing r (Some c) off = ap (λ b. if b then delta_of c.mode else 0) off

-- an entry that is not refused as not running is the one that runs
runs_by : (b : Bool) (e : Entered) (go : Entered → Outcome) (out : Seen × State) → or_refuse (if b then Some e else None) NotRunning go ≡ Ok out → (if b then Some e else None) ≡ Some e
runs_by true e go out is = refl
runs_by false e go out is = absurd (cc is)

runs : (me : Option Entered) (go : Entered → Outcome) (out : Seen × State) → or_refuse (if_running me) NotRunning go ≡ Ok out → if_running me ≡ me
runs None go out is = refl
runs (Some e) go out is = runs_by (is_running e.status) e go out is

-- an event whose claim is not on a record requests, releases and stores nothing there
asks_nothing : (o : Opening) (s : State) (e : Event) (r : ℕ) → is_on r (claim_of s e) ≡ false → delta_if r (requested_by s (by_event e)) ≡ 0
asks_nothing o s (event.Find c) r off = refl
asks_nothing o s (event.Enter c) r off = refl
asks_nothing o s event.Claim r off = off_adds_nothing r (turn_request s.turn) off
asks_nothing o s event.Admit r off = refl
asks_nothing o s event.Front r off = refl
asks_nothing o s event.Scan r off = refl
asks_nothing o s (event.Load t) r off = refl
asks_nothing o s (event.Store t) r off = refl
asks_nothing o s (event.Release t) r off = refl
asks_nothing o s (event.Finish t) r off = refl

frees_nothing : (o : Opening) (s : State) (e : Event) (out : Seen × State) (r : ℕ) → step o s e ≡ Ok out → is_on r (claim_of s e) ≡ false → delta_if r (released_by s (by_event e)) ≡ 0
frees_nothing o s (event.Find c) out r is off = refl
frees_nothing o s (event.Enter c) out r is off = refl
frees_nothing o s event.Claim out r is off = refl
frees_nothing o s event.Admit out r is off = refl
frees_nothing o s event.Front out r is off = refl
frees_nothing o s event.Scan out r is off = refl
frees_nothing o s (event.Load t) out r is off = refl
frees_nothing o s (event.Store t) out r is off = refl
frees_nothing o s (event.Release t) out r is off =
    off_adds_nothing r (entry_release (slice_get s.entries t)) (sym (ap (λ (x : Option Entered). is_on r (entry_release x)) (runs (slice_get s.entries t) _ out is)) ∙ off)
frees_nothing o s (event.Finish t) out r is off = refl

stores_nothing : (o : Opening) (s : State) (e : Event) (out : Seen × State) (r : ℕ) → step o s e ≡ Ok out → is_on r (claim_of s e) ≡ false → is_on r (stored_by s (by_event e)) ≡ false
stores_nothing o s (event.Find c) out r is off = refl
stores_nothing o s (event.Enter c) out r is off = refl
stores_nothing o s event.Claim out r is off = refl
stores_nothing o s event.Admit out r is off = refl
stores_nothing o s event.Front out r is off = refl
stores_nothing o s event.Scan out r is off = refl
stores_nothing o s (event.Load t) out r is off = refl
stores_nothing o s (event.Store t) out r is off = sym (ap (λ (x : Option Entered). is_on r (entry_store x)) (runs (slice_get s.entries t) _ out is)) ∙ off
stores_nothing o s (event.Release t) out r is off = refl
stores_nothing o s (event.Finish t) out r is off = refl

-- so it leaves the record's words
leaves : (o : Opening) (s : State) (e : Event) (r : ℕ) (w : RecordWords) (out : Outcome) → step o s e ≡ out → IsReached o s
    → is_on r (elim (answer_of out) [ Err why ↦ None | Ok seen ↦ claim_of s e ]) ≡ false → AreWordsOf o.base s r w → AreWordsOf o.base (state_after s out) r w
leaves o s e r w (Err why) is reached off are = are
leaves o s e r w (Ok (seen, next)) is reached off are =
    let asked = asks_nothing o s e r off in
    let freed = frees_nothing o s e (seen, next) r is off in
    let counters : counter next r ≡ counter s r = omega (arith, counters_change o s next (by_event e) seen r is, asked, freed) in
    record {
      value = are.value ∙ sym (others_stay o s next (by_event e) seen r reached is (stores_nothing o s e (seen, next) r is off));
      pair = are.pair ∙ sym counters;
    }

reached_after : (o : Opening) (s : State) (e : Event) (out : Outcome) → step o s e ≡ out → IsReached o s → IsReached o (state_after s out)
reached_after o s e (Err why) is reached = reached
reached_after o s e (Ok (seen, next)) is reached = moved s (by_event e) seen next reached tt is

-- the words of the record that a claim is on
on_record : (n r : ℕ) (c : Option Claim) (P : ℕ → Type 0) → is_on r c ≡ true → r < n → IfSome c (λ k. k.id < n → P k.id) → P r
on_record n r None P on within all = absurd (cc on)
on_record n r (Some k) P on within all = let same : k.id ≡ r = eqb-true k.id r on in subst P same (all (subst (λ i. i < n) (sym same) within))

-- the words of a record after one more column
next_by : (o : Opening) (s : State) (e : Event) (c : Column) (r : ℕ) (w : RecordWords) → IsReached o s → IsColumn o.base (step_of o s e) c → r < length o.base.records
    → AreWordsOf o.base s r w → (b : Bool) → is_on r c.claim ≡ b → AreWordsOf o.base (state_after s (step o s e)) r (if b then c.words else w)
next_by o s e c r w reached is within are true on = on_record (length o.base.records) r c.claim (λ i. AreWordsOf o.base (state_after s (step o s e)) i c.words) on within is.words
next_by o s e c r w reached is within are false off = leaves o s e r w (step o s e) refl reached (ap (is_on r) (sym is.claim) ∙ off) are

next_are : (o : Opening) (s : State) (e : Event) (c : Column) (r : ℕ) (w : RecordWords) → IsReached o s → IsColumn o.base (step_of o s e) c → r < length o.base.records
    → AreWordsOf o.base s r w → AreWordsOf o.base (state_after s (step o s e)) r (next_words r w c)
next_are o s e c r w reached is within are = next_by o s e c r w reached is within are (is_on r c.claim) refl

-- the words after each column, if the steps are all those of some events
abbrev HaveWords : Opening → State → (ℕ → RecordWords) → Type 0
HaveWords o s before = (r : ℕ) → r < length o.base.records → AreWordsOf o.base s r (before r)

steps_are : (o : Opening) (s : State) (es : List Event) (cs : List Column) (before : ℕ → RecordWords) → IsReached o s → AreColumns o.base (steps o s es) cs → HaveWords o s before
    → (n : ℕ) (x : Step) (r : ℕ) → slice_get (steps o s es) n ≡ Some x → r < length o.base.records → AreWordsOf o.base x.after r (words_after r (before r) (take (suc n) cs))
steps_are o s [] cs before reached are words zero x r at within = absurd (cc at)
steps_are o s [] cs before reached are words (suc n) x r at within = absurd (cc at)
steps_are o s (e ∷ es) [] before reached are words n x r at within = absurd are
steps_are o s (e ∷ es) (c ∷ cs) before reached are words zero x r at within =
    let here : step_of o s e ≡ x = cc at in
    subst (λ (y : Step). AreWordsOf o.base y.after r (next_words r (before r) c)) here (next_are o s e c r (before r) reached are.0 within (words r within))
steps_are o s (e ∷ es) (c ∷ cs) before reached are words (suc n) x r at within =
    steps_are o (state_after s (step o s e)) es cs (λ k. next_words k (before k) c) (reached_after o s e (step o s e) refl reached) are.1
    (λ k inside. next_are o s e c k (before k) reached are.0 inside (words k inside)) n x r at within

-- the steps that are drawn are those of some events, from some state on
record AreOf (o : Opening) (ss : List Step) : Type 0 where
  from : State
  events : List Event
  are : ss ≡ steps o from events

left : (o : Opening) (s : State) (n : ℕ) (es : List Event) → AreOf o (drop n (steps o s es))
left o s zero es = record { from = s; events = es; are = refl }
left o s (suc n) [] = record { from = s; events = []; are = refl }
left o s (suc n) (e ∷ es) = left o (state_after s (step o s e)) n es

first : (o : Opening) (s : State) (n : ℕ) (es : List Event) → take n (steps o s es) ≡ steps o s (take n es)
first o s zero es = refl
first o s (suc n) [] = refl
first o s (suc n) (e ∷ es) = ap (λ ss. step_of o s e ∷ ss) (first o (state_after s (step o s e)) n es)

within_window : (o : Opening) (count : ℕ) (ss : List Step) → AreOf o ss → AreOf o (take count ss)
within_window o count ss of = record { from = of.from; events = take count of.events; are = ap (take count) of.are ∙ first o of.from count of.events }

-- the words before the first one are those that stand
by_standing : (o : Opening) (s : State) (es : List Event) (stood : Standing) (cs : List Column) → AreColumns o.base (steps o s es) cs
    → ((x : Step) (more : List Step) → steps o s es ≡ x ∷ more → Stands o x.before stood) → AreSteps o.base (words_at stood.words.items) (steps o s es) cs
by_standing o s [] stood cs are standing = λ n x r at within. absurd (cc at)
by_standing o s (e ∷ es) stood cs are standing =
    let stands = standing (step_of o s e) (steps o (state_after s (step o s e)) es) refl in
    steps_are o s (e ∷ es) cs (words_at stood.words.items) stands.reached are (λ r within. record { value = stands.words.values r within; pair = stands.words.pairs r within })

pub drawn_steps : (o : Opening) (w : EventRange) (s : State) (es : List Event) (t : Tape) → HasTaped o w (steps o s es) t
    → AreSteps o.base (words_at t.standing.words.items) (drawn w (steps o s es)) t.columns.items
drawn_steps o w s es t has =
    let of = within_window o w.count (drop w.from (steps o s es)) (left o s w.from es) in
    subst (λ (ss : List Step). AreSteps o.base (words_at t.standing.words.items) ss t.columns.items) (sym of.are)
    (by_standing o of.from of.events t.standing t.columns.items
    (subst (λ (ss : List Step). AreColumns o.base ss t.columns.items) of.are has.columns)
    (λ x more is. has.standing x more (of.are ∙ is)))
