-- What the queue's seat knows of a state, and of its open turn.
use Rattle.std.proofs.Common.{◌≡◌, ℕ, not, List, [], ◌∷◌, length, map, refl, sym, ap, ◌∙◌, arith, Option, Some, None, slice_get, if◌then◌else◌}
use Rattle.vll_counters.proofs.Common.{option_map, enumerate_from, length-map, same_Some, slice_get-map, Claim, conflict, is_granted, Made, apply, before, answer, Status, Gone, is_gone, Line, Base, Entered, Turn, State, made, entered, open_claims, counter, IsReached, made_at, TurnView, SessionView, QueueView, calls_in, widest, turn_view, Shows, IsHosted, asked, AreReplied}
use Rattle.std.proofs.lemmas.List.FromFn.{length-enumerate_from}
use Rattle.vll_record.proofs.Counted.{is_granted-no_conflict}
use Rattle.vll_proc.specs.declared.syntax.Proc.{Proc}
use Rattle.vll_core.proofs.Counters.{counters_within}
use Rattle.vll_counters.proofs.States.{status_of, line_by, calls_entered, line_at}

-- a turn of the plain machine, as the queue's seat knows it
abbrev pub seen_turn : Turn → TurnView
seen_turn t = record { client = t.client; call = t.call; requested = t.requested; granted = t.granted }

-- the turn that is known is open
pub turn_is : (x : Option Turn) (turn : TurnView) → turn_view x ≡ Some turn → (u : Turn) × (x ≡ Some u) × (seen_turn u ≡ turn)
turn_is None turn e = absurd (cc e)
turn_is (Some u) turn e = (u, refl, same_Some (seen_turn u) turn e)

pub turn_closed : (x : Option Turn) → turn_view x ≡ None → x ≡ None
turn_closed None e = refl
turn_closed (Some u) e = absurd (cc e)

-- a request leaves whose turn it is
pub hosted_asked : (x : Option TurnView) (g : Option SessionView) (c : Claim) (n : ℕ) → IsHosted x g → IsHosted (option_map (asked c n) x) g
hosted_asked None g c n h = tt
hosted_asked (Some turn) g c n h = h

-- a request is granted by what the pair word says
pub granted_by : (base : Base) (s : State) (c : Claim) (old : ℕ) → IsReached (widest base) s → old ≡ counter s c.id → is_granted c.mode old ≡ not (conflict (open_claims s) (c ∷ []))
granted_by base s c old reached is =
    ap (is_granted c.mode) is ∙ is_granted-no_conflict c.mode c.id (open_claims s) (omega (arith, (counters_within (widest base) s c.id reached).0))

-- as many lines as entered calls
pub as_many : (base : Base) (q : QueueView) (s : State) → Shows base q s → length q.lines ≡ length s.entries
as_many base q s shows = ap length shows.lines ∙ length-map (enumerate_from 0 s.entries) _ ∙ length-enumerate_from 0 s.entries

-- the entry of a ticket whose status is known
pub entry_of_status : (es : List Entered) (t : ℕ) (status : Status) → slice_get (map status_of es) t ≡ Some status → (e : Entered) × (slice_get es t ≡ Some e) × (e.status ≡ status)
entry_of_status es t status at = by_entry (slice_get es t) refl (sym (slice_get-map status_of es t) ∙ at)
  where
    by_entry : (x : Option Entered) → slice_get es t ≡ x → option_map status_of x ≡ Some status → (e : Entered) × (slice_get es t ≡ Some e) × (e.status ≡ status)
    by_entry None is h = absurd (cc h)
    by_entry (Some e) is h = (e, is, same_Some e.status status h)

-- the line that is known of an entry is its line
pub line_is : (base : Base) (q : QueueView) (s : State) (t : ℕ) (l : Line) (e : Entered) → Shows base q s → slice_get q.lines t ≡ Some l → slice_get s.entries t ≡ Some e → l ≡ line_by base (entered s) (t, e)
line_is base q s t l e shows at there = same_Some l _ (sym at ∙ ap (λ (ls : List Line). slice_get ls t) shows.lines ∙ line_at base s t e there)

-- the calls in the lines are the entered ones
pub calls_shown : (base : Base) (q : QueueView) (s : State) → Shows base q s → calls_in q.lines ≡ entered s
calls_shown base q s shows = ap calls_in shows.lines ∙ calls_entered base s

answer_there : (procs : List Proc) (calls : List Made) (records : List ℕ) (t : ℕ) (m : Made) → slice_get calls t ≡ Some m → answer procs calls records t ≡ Some (apply procs m.1 (before procs calls records t)).reply
answer_there procs calls records t m at = rw at refl

-- each line of a call that is gone has its serial reply
pub replied : (base : Base) (q : QueueView) (s : State) → Shows base q s → AreReplied base q
replied base q s shows t l at gone =
    let e = entry_of_status s.entries t Gone (ap (λ (ss : List Status). slice_get ss t) (sym shows.statuses) ∙ gone) in
    ap (λ (x : Line). x.reply) (line_is base q s t l e.0 shows at e.1)
    ∙ ap (λ (x : Status). if is_gone x then Some (apply base.procs e.0.call (before base.procs (entered s) base.records t)).reply else None) e.2
    ∙ sym (answer_there base.procs (entered s) base.records t (made e.0) (made_at s.entries t e.0 e.1))
    ∙ ap (λ (calls : List Made). answer base.procs calls base.records t) (sym (calls_shown base q s shows))
