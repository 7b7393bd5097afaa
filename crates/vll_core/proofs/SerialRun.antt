-- How the calls run one at a time: what leaves the records before a ticket, and a record, as they were.
use Rattle.std.proofs.Common.{◌≡◌, ℕ, zero, suc, true, false, ◌==◌, refl, sym, arith, ◌<◌, ◌≤◌, ◌+◌, List, [], ◌∷◌, length, ap, ◌∙◌, slice_get, slice_set, Some, ◌++◌, take, Option, None, map, slice_index, Result, Ok, Err}
use Rattle.vll_core.proofs.Common.{same_Some, list_any, with_entry, Base, Entered, State, Turn, made, writes, records_before, is_aborted, before, Made, apply, applied_at, end, Claim, take-append-le, IsProper, LaterCallsLeaveSerialStates, LaterCallsLeaveSerialAnswers, Call, Proc, length-applied}
use Rattle.vll_proc.specs.Headline.Serial.{after}
use Rattle.vll_proc.specs.Headline.Meaning.{Scene, body}
use Rattle.vll_proc.specs.declared.call.Reason.{Reason}
use Rattle.vll_proc.proofs.Joined.{answer_of_first}
use Rattle.vll_core.proofs.Places.{take_next}
use Rattle.vll_core.proofs.OwnClaims.{mode_hit}

applied_length : (p : Option Proc) (call : Call) (records : List ℕ) → length (applied_at p call records).records ≡ length records
applied_length None call records = refl
applied_length (Some p) call records = length-applied p call records

end_length : (procs : List Proc) (calls : List Made) (records : List ℕ) → length (end procs calls records) ≡ length records
end_length procs [] records = refl
end_length procs (m ∷ more) records = end_length procs more (apply procs m.1 records).records ∙ applied_length (slice_get procs m.1.number) m.1 records

-- calls leave the number of records
pub length_before : (procs : List Proc) (calls : List Made) (records : List ℕ) (t : ℕ) → length (before procs calls records t) ≡ length records
length_before procs calls records t = end_length procs (take t calls) records

-- one more call at the end
pub end_more : (procs : List Proc) (xs : List Made) (m : Made) (records : List ℕ) → end procs (xs ++ m ∷ []) records ≡ (apply procs m.1 (end procs xs records)).records
end_more procs [] m records = refl
end_more procs (x ∷ xs) m records = end_more procs xs m (apply procs x.1 records).records

-- the records after a call
pub before_more : (procs : List Proc) (calls : List Made) (records : List ℕ) (n : ℕ) (m : Made) → slice_get calls n ≡ Some m
    → before procs calls records (n + 1) ≡ (apply procs m.1 (before procs calls records n)).records
before_more procs calls records n m at = ap (λ xs. end procs xs records) (take_next calls n m at) ∙ end_more procs (take n calls) m records

-- a record that no call from t on changes, for k calls
pub unchanged : (procs : List Proc) (calls : List Made) (records : List ℕ) (r t k : ℕ)
    → ((v : ℕ) → t ≤ v → v < t + k → (m : Made) × (slice_get calls v ≡ Some m) × (slice_index (apply procs m.1 (before procs calls records v)).records r ≡ slice_index (before procs calls records v) r))
    → slice_index (before procs calls records (t + k)) r ≡ slice_index (before procs calls records t) r
unchanged procs calls records r t zero h = ap (λ n. slice_index (before procs calls records n) r) (omega arith)
unchanged procs calls records r t (suc k) h =
    let last = h (t + k) (omega arith) (omega arith) in
    ap (λ n. slice_index (before procs calls records n) r) (let e : t + suc k ≡ (t + k) + 1 = omega arith in e)
    ∙ (ap (λ xs. slice_index xs r) (before_more procs calls records (t + k) last.0 last.1)
    ∙ (last.2 ∙ unchanged procs calls records r t k (λ v low high. h v low (omega arith))))

after_same : (records : List ℕ) (x : Result Scene Reason) → is_aborted (after records x).reply ≡ true → (after records x).records ≡ records
after_same records (Ok s) h = absurd (cc h)
after_same records (Err why) h = refl

proc_same : (p : Option Proc) (call : Call) (records : List ℕ) → is_aborted (applied_at p call records).reply ≡ true → (applied_at p call records).records ≡ records
proc_same None call records h = refl
proc_same (Some p) call records h = after_same records (body p call records) h

-- an aborted call changes nothing
pub apply_same : (procs : List Proc) (c : Call) (records : List ℕ) → is_aborted (apply procs c records).reply ≡ true → (apply procs c records).records ≡ records
apply_same procs c records h = proc_same (slice_get procs c.number) c records h

-- a proper call keeps a record that it has no Write claim on
pub proper_keeps : (o : Base) (call : Call) (records : List ℕ) (r : ℕ) → length records ≡ length o.records → IsProper o call → list_any (λ (c : Claim). c.id == r) (writes call) ≡ false
    → slice_index (apply o.procs call records).records r ≡ slice_index records r
proper_keeps o call records r many proper none = proper.changes_its_own records r many (λ w. cc (sym (mode_hit r call.claims w) ∙ none))

pub made_at : (xs : List Entered) (n : ℕ) (e : Entered) → slice_get xs n ≡ Some e → slice_get (map made xs) n ≡ Some (made e)
made_at [] n e h = absurd (cc h)
made_at (x ∷ xs) zero e h = ap (λ (o : Option Entered). elim o as (λ _. Option Made) [ None ↦ None | Some d ↦ Some (made d) ]) h
made_at (x ∷ xs) (suc n) e h = made_at xs n e h

pub map_set : (es : List Entered) (t : ℕ) (e f : Entered) → slice_get es t ≡ Some e → made f ≡ made e → map made (slice_set es t f) ≡ map made es
map_set [] t e f at same = refl
map_set (x ∷ es) zero e f at same = ap (λ m. m ∷ map made es) (same ∙ sym (ap made (same_Some x e at)))
map_set (x ∷ es) (suc t) e f at same = ap (λ ms. made x ∷ ms) (map_set es t e f at same)

-- an entry that makes the same call leaves the calls in order of entry
pub records_same : (o : Base) (s : State) (t : ℕ) (e f : Entered) (v : ℕ) → slice_get s.entries t ≡ Some e → made f ≡ made e → records_before o (with_entry s t f) v ≡ records_before o s v
records_same o s t e f v at same = ap (λ (ms : List Made). before o.procs ms o.records v) (map_set s.entries t e f at same)

pub map_push : (es : List Entered) (x : Entered) → map made (es ++ x ∷ []) ≡ map made es ++ made x ∷ []
map_push [] x = refl
map_push (e ∷ es) x = ap (λ ms. made e ∷ ms) (map_push es x)

pub length-made : (es : List Entered) → length (map made es) ≡ length es
length-made [] = refl
length-made (e ∷ es) = ap suc (length-made es)

-- what comes after a ticket changes no record before it
pub records_pushed : (o : Base) (s : State) (x : Entered) (turn : Option Turn) (t : ℕ) → t ≤ length s.entries
    → records_before o (record s { entries = s.entries ++ x ∷ []; turn = turn }) t ≡ records_before o s t
records_pushed o s x turn t within =
    ap (λ (ms : List Made). before o.procs ms o.records t) (map_push s.entries x)
    ∙ ap (λ (ms : List Made). end o.procs ms o.records) (take-append-le t (map made s.entries) (made x ∷ []) (let z = length-made s.entries in omega (arith, within, z)))

-- calls after a list change no record before a call of the list
pub later_leave_states : LaterCallsLeaveSerialStates
later_leave_states procs calls more records i within = ap (λ (ms : List Made). end procs ms records) (take-append-le i calls more within)

-- nor what a call of the list answers
pub later_leave_answers : LaterCallsLeaveSerialAnswers
later_leave_answers = answer_of_first
