-- A running call stores the record of its next Write claim.
use Rattle.std.proofs.Common.{◌≡◌, ◌≢◌, ℕ, suc, ◌+◌, ◌<◌, ◌≤◌, Bool, true, false, ◌&&◌, ◌||◌, ◌==◌, nat_lt, refl, sym, ap, ◌∙◌, subst, arith, List, length, slice_get, slice_set, slice_index, Option, Some, None, Ok, length-set, add-one}
use Rattle.vll_core.proofs.Common.{with_item, option_map_or, ne_eqb, nat_tests, slice_get_within, Claim, value_word_of, Call, apply, Proc, claims_few, Inside, NotRunning, OutOfStep, Stored, Execution, Opening, Entered, State, made, writes, records_before, value, entered, is_aborted, has_aborted, Outcome, step, refuse_if, or_refuse, running, with_entry, has_stored, by_event, is_on, entry_store, AreWords, opening_of, shown, IsAtWork, IsMachine}
use Rattle.vll_core.specs.declared.event.Event.TheVariants as event
use Rattle.vll_core.proofs.AtWork.{aborted_at_work, few_writes}
use Rattle.vll_core.proofs.WordChanges.{words_set_value, value_word_within}
use Rattle.vll_core.proofs.RunningWorks.{Runs, entered_as}
use Rattle.vll_core.proofs.MachineState.{work_put, at_work_put, replied_put}
use Rattle.vll_core.proofs.MachineSteps.{Refuses, Takes, taken_reached}
use Rattle.vll_core.proofs.WordsKept.{counters_stay}
use Rattle.vll_core.proofs.Kept.{IsEntryKept}
use Rattle.vll_core.proofs.OwnClaims.{at_filter}
use Rattle.vll_core.proofs.Places.{all_at, entry_at}
use Rattle.vll_core.proofs.Reached.{kept_reached}
use Rattle.vll_core.proofs.Tests.{at_least}
use Rattle.vll_core.proofs.SerialRun.{before_more, made_at, records_same}
use Rattle.vll_core.proofs.Values.{store_reached, others_stay}

-- ---- the plain machine

-- a store is refused by this test
abbrev cannot_store : Opening → State → ℕ → Entered → Bool
cannot_store o s t e = nat_lt e.loads (length e.call.claims) || has_stored o.base s t e

store_step : (o : Opening) (s : State) (t : ℕ) (e : Entered) (b : Bool) → running s t ≡ Some e → cannot_store o s t e ≡ b
    → step o s (event.Store t) ≡ refuse_if b OutOfStep (Ok (Stored, with_entry s t (record e { stores = e.stores + 1 })))
store_step o s t e b found is =
    ap (λ (x : Option Entered). or_refuse x NotRunning (λ d. refuse_if (cannot_store o s t d) OutOfStep (Ok (Stored, with_entry s t (record d { stores = d.stores + 1 }))))) found
    ∙ ap (λ (x : Bool). refuse_if x OutOfStep (Ok (Stored, with_entry s t (record e { stores = e.stores + 1 })))) is

-- the truth values of the test's parts: not all is loaded, all is loaded, aborted, all is stored
refused_by : (less all aborted stored : Bool) → (all ≡ false → less ≡ true) → (all ≡ true → (aborted || stored) ≡ true) → (less || (all && (aborted || stored))) ≡ true
refused_by less false aborted stored out done = rw (out refl) refl
refused_by true true aborted stored out done = refl
refused_by false true aborted stored out done = done refl

taken_by : (less all aborted stored : Bool) → less ≡ false → aborted ≡ false → stored ≡ false → (less || (all && (aborted || stored))) ≡ false
taken_by less false aborted stored a b c = rw a refl
taken_by less true aborted stored a b c = rw (a, b, c) refl

or_second : (a b : Bool) → b ≡ true → (a || b) ≡ true
or_second true b h = refl
or_second false b h = h

-- a place without an item is past the end
past_end : (xs : List Claim) (n : ℕ) → slice_get xs n ≡ None → length xs ≤ n
past_end xs n none = at_least n (length xs) (λ low. let found = entry_at xs n low in cc (sym none ∙ found.1))

-- ---- the machine that is kept

-- the entry of a call that runs keeps what reached entries keep
entry_kept : {H : Type 0} {places : H → ℕ → ℕ} (a : Inside H) (t : ℕ) (call : Call) (w : Execution) → IsMachine places a → (r : Runs a t call w)
    → IsEntryKept (shown a).base (records_before (shown a).base (shown a).state t) (entered_as r.client call r.status w)
entry_kept {H} {places} a t call w core r = (kept_reached (opening_of places (shown a)) (shown a).state core.reached).entries t (entered_as r.client call r.status w) r.at

-- a call's execution says whether it has aborted
aborted_is : {H : Type 0} (a : Inside H) (t : ℕ) (call : Call) (w : Execution) (r : Runs a t call w)
    → option_map_or is_aborted w.reply false ≡ has_aborted (shown a).base (shown a).state t (entered_as r.client call r.status w)
aborted_is a t call w r = aborted_at_work a.library.value.procs call (records_before (shown a).base (shown a).state t) w r.execution

-- a store is refused before the last load, and where the call aborted or all is stored
refused_store : {H : Type 0} {places : H → ℕ → ℕ} (a : Inside H) (t : ℕ) (call : Call) (w : Execution) → (r : Runs a t call w)
    → ((w.loads == length call.claims) ≡ true → (has_aborted (shown a).base (shown a).state t (entered_as r.client call r.status w) || (w.stores == length (writes call))) ≡ true)
    → Refuses places a (event.Store t) OutOfStep
refused_store {H} {places} a t call w r done =
    let within = r.execution.within in
    let e : Entered = entered_as r.client call r.status w in
    let refused : cannot_store (opening_of places (shown a)) (shown a).state t e ≡ true =
    refused_by (nat_lt w.loads (length call.claims)) (w.loads == length call.claims) (has_aborted (shown a).base (shown a).state t e) (w.stores == length (writes call))
    (λ h. grind (arith, nat_tests, h, within)) done in
    record { is = store_step (opening_of places (shown a)) (shown a).state t e true r.found refused }

-- before the last load
pub refused_unloaded : {H : Type 0} {places : H → ℕ → ℕ} (a : Inside H) (t : ℕ) (call : Call) (w : Execution) → Runs a t call w → (w.loads == length call.claims) ≡ false → Refuses places a (event.Store t) OutOfStep
refused_unloaded a t call w r some = refused_store a t call w r (λ all. absurd (cc (sym some ∙ all)))

-- of a call that aborted
pub refused_aborted : {H : Type 0} {places : H → ℕ → ℕ} (a : Inside H) (t : ℕ) (call : Call) (w : Execution) → Runs a t call w → option_map_or is_aborted w.reply false ≡ true → Refuses places a (event.Store t) OutOfStep
refused_aborted a t call w r aborted = refused_store a t call w r (λ all. rw (sym (aborted_is a t call w r) ∙ aborted) refl)

-- where all is stored
pub refused_stored : {H : Type 0} {places : H → ℕ → ℕ} (a : Inside H) (t : ℕ) (call : Call) (w : Execution) → IsMachine places a → Runs a t call w → slice_get (writes call) w.stores ≡ None → Refuses places a (event.Store t) OutOfStep
refused_stored a t call w core r none =
    let upto = (entry_kept a t call w core r).stores in
    let past = past_end (writes call) w.stores none in
    let all_stored : (w.stores == length (writes call)) ≡ true = grind (arith, nat_tests, upto, past) in
    refused_store a t call w r (λ all. or_second _ (w.stores == length (writes call)) all_stored)

-- a call that runs has a record left to store, and these are its word and value; the execution after it counts the store
pub record Stores {H : Type 0} (a : Inside H) (t place word v : ℕ) (call : Call) (w next : Execution) (c : Claim) : Type 0 where
  pub runs : Runs a t call w
  pub loaded : w.loads ≡ length call.claims
  pub goes_on : option_map_or is_aborted w.reply false ≡ false
  pub left : slice_get (writes call) w.stores ≡ Some c
  pub value : v ≡ slice_index (apply a.library.value.procs call (records_before (shown a).base (shown a).state t)).records c.id
  pub there : place ≡ t
  pub of_record : word ≡ value_word_of c.id
  pub more : next ≡ record w { stores = w.stores + 1 }

-- the fields of a machine once a record is stored
abbrev pub stored_core : {H : Type 0} → Inside H → ℕ → ℕ → ℕ → Execution → Inside H
stored_core a place word v next = record a { words = with_item a.words word v; execution = with_item a.execution place next }

-- the entries that are shown after it
entries_stored : {H : Type 0} (a : Inside H) (t place word v : ℕ) (call : Call) (w next : Execution) (c : Claim) → (f : Stores a t place word v call w next c)
    → (shown (stored_core a place word v next)).state ≡ with_entry (shown a).state t (entered_as f.runs.client call f.runs.status (record w { stores = w.stores + 1 }))
entries_stored a t place word v call w next c f =
    ap (λ (n : ℕ). (shown (stored_core a n word v next)).state) f.there
    ∙ (ap (λ (x : Execution). (shown (stored_core a t word v x)).state) f.more
    ∙ ap (λ (es : List Entered). record (shown a).state { entries = es }) (work_put a.queue.entries a.execution.items t _ (record w { stores = w.stores + 1 }) f.runs.queued))

-- else it is taken
pub taken_store : {H : Type 0} {places : H → ℕ → ℕ} (a : Inside H) (t place word v : ℕ) (call : Call) (w next : Execution) (c : Claim) → Stores a t place word v call w next c
    → Takes places a (stored_core a place word v next) (event.Store t) Stored
taken_store {H} {places} a t place word v call w next c f =
    let r = f.runs in
    let e : Entered = entered_as r.client call r.status w in
    let loaded = f.loaded in
    let low = slice_get_within (writes call) w.stores c f.left in
    record {
      fixed = refl;
      is =
          store_step (opening_of places (shown a)) (shown a).state t e false r.found
          (taken_by (nat_lt w.loads (length call.claims)) (w.loads == length call.claims) _ (w.stores == length (writes call))
          (grind (arith, nat_tests, loaded)) (sym (aborted_is a t call w r) ∙ f.goes_on) (grind (arith, nat_tests, low)))
          ∙ ap (λ (s : State). let out : Outcome = Ok (Stored, s) in out) (sym (entries_stored a t place word v call w next c f));
    }

-- the value that is stored is that after the ticket
value_stored : {H : Type 0} {places : H → ℕ → ℕ} (a : Inside H) (t place word v : ℕ) (call : Call) (w next : Execution) (c : Claim) → IsMachine places a → Stores a t place word v call w next c
    → value (shown a).base (shown (stored_core a place word v next)).state c.id ≡ v
value_stored {H} {places} a t place word v call w next c core f =
    let s : State = (shown a).state in
    let e : Entered = entered_as f.runs.client call f.runs.status w in
    let takes = taken_store {places = places} a t place word v call w next c f in
    store_reached (opening_of places (shown a)) s (shown (stored_core a place word v next)).state t e c Stored core.reached f.runs.at f.left takes.is
    ∙ (ap (λ (n : State). slice_index (records_before (shown a).base n (suc t)) c.id) (entries_stored a t place word v call w next c f)
    ∙ (ap (λ (xs : List ℕ). slice_index xs c.id) (records_same (shown a).base s t e (record e { stores = e.stores + 1 }) (suc t) f.runs.at refl)
    ∙ (ap (λ (n : ℕ). slice_index (records_before (shown a).base s n) c.id) (sym (add-one t))
    ∙ (ap (λ (xs : List ℕ). slice_index xs c.id) (before_more a.library.value.procs (entered s) a.opening.value.items t (made e) (made_at s.entries t e f.runs.at))
    ∙ sym f.value))))

-- its record is one of the machine's
claim_there : {H : Type 0} {places : H → ℕ → ℕ} (a : Inside H) (t : ℕ) (call : Call) (w : Execution) (c : Claim) → IsMachine places a → Runs a t call w → slice_get (writes call) w.stores ≡ Some c → c.id < length a.opening.value.items
claim_there a t call w c core r left =
    let claim = at_filter call.claims w.stores c left in
    let within : c.id < a.library.value.records = all_at (λ (d : Claim). d.id < a.library.value.records) call.claims claim.0 c r.well.within claim.1 in
    omega (arith, within, core.records)

-- so its word is one of the machine's words
pub word_within : {H : Type 0} {places : H → ℕ → ℕ} (a : Inside H) (t : ℕ) (call : Call) (w : Execution) (c : Claim) → IsMachine places a → Runs a t call w → slice_get (writes call) w.stores ≡ Some c → value_word_of c.id < length a.words.items
word_within a t call w c core r left =
    value_word_within (shown a).base (shown a).state a.words.items c.id core.words (claim_there a t call w c core r left)

-- the words after it
words_stored : {H : Type 0} {places : H → ℕ → ℕ} (a : Inside H) (t place word v : ℕ) (call : Call) (w next : Execution) (c : Claim) → IsMachine places a → Stores a t place word v call w next c
    → AreWords (shown a).base (shown (stored_core a place word v next)).state (slice_set a.words.items word v)
words_stored {H} {places} a t place word v call w next c core f =
    let o : Opening = opening_of places (shown a) in
    let s : State = (shown a).state in
    let after : State = (shown (stored_core a place word v next)).state in
    let takes = taken_store {places = places} a t place word v call w next c f in
    let stored_by_it : (k : ℕ) → k ≢ c.id → is_on k (entry_store (slice_get s.entries t)) ≡ false =
    λ k other. ap (λ (x : Option Entered). is_on k (entry_store x)) f.runs.at ∙ (ap (is_on k) f.left ∙ ne_eqb c.id k (λ e. other (sym e))) in
    subst (λ (n : ℕ). AreWords (shown a).base after (slice_set a.words.items n v)) (sym f.of_record)
    (words_set_value (shown a).base s after a.words.items c.id v (claim_there a t call w c core f.runs f.left) (value_stored a t place word v call w next c core f)
    (λ k other. others_stay o s after (by_event (event.Store t)) Stored k core.reached takes.is (stored_by_it k other))
    (λ k. counters_stay o s after (by_event (event.Store t)) Stored k takes.is refl refl) core.words)

-- another count of stores leaves a call's execution right
still_at_work : (procs : List Proc) (call : Call) (records : List ℕ) (w next : Execution) (n : ℕ) → next ≡ record w { stores = n } → IsAtWork procs call records w → IsAtWork procs call records next
still_at_work procs call records w next n is at = subst (IsAtWork procs call records) (sym is) (assumption at)

-- a call has few stores
pub few_stores : {H : Type 0} (a : Inside H) (t : ℕ) (call : Call) (w : Execution) (c : Claim) → Runs a t call w → slice_get (writes call) w.stores ≡ Some c → w.stores < 255
few_stores a t call w c r left =
    omega (arith, slice_get_within (writes call) w.stores c left, few_writes call.claims, claims_few a.library.value.records r.well.procedure call r.well.formed r.well.made)

-- what the type of a machine keeps
pub core_store : {H : Type 0} {places : H → ℕ → ℕ} (a : Inside H) (t place word v : ℕ) (call : Call) (w next : Execution) (c : Claim) → IsMachine places a → Stores a t place word v call w next c → IsMachine places (stored_core a place word v next)
core_store {H} {places} a t place word v call w next c core f =
    let b : Inside H = stored_core a place word v next in
    let takes = taken_store {places = places} a t place word v call w next c f in
    assumption (
      taken_reached a b (event.Store t) Stored takes core.reached,
      words_stored a t place word v call w next c core f,
      length-set a.execution.items place next ∙ core.works,
      at_work_put a.library.value a.opening.value.items a.queue.entries a.execution.items place next (λ e at. still_at_work a.library.value.procs e.line.call _ w next (w.stores + 1) f.more (core.at_work place e w at (ap (λ (n : ℕ). slice_get a.execution.items n) f.there ∙ f.runs.worked))) core.at_work,
      replied_put a.queue.entries a.execution.items place next (λ e at gone. core.replied place e w at (ap (λ (n : ℕ). slice_get a.execution.items n) f.there ∙ f.runs.worked) gone ∙ ap (λ (x : Execution). x.reply) (sym f.more)) core.replied,
    )
