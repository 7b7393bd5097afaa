-- A running call of a machine releases a claim.
use Rattle.std.proofs.Common.{◌≡◌, ℕ, ◌+◌, ◌-◌, ◌<◌, ◌≤◌, Bool, true, false, not, List, length, Option, Some, None, Ok, slice_get, slice_index, slice_index_or, slice_set, vec_capacity, refl, sym, ap, ◌∙◌, subst, arith}
use Rattle.vll_core.proofs.Common.{Vec, length-set, slice_get_within, Claim, MOST_CLAIMS, delta_of, pair_word_of_record, Call, claims_few, Inside, NotRunning, OutOfStep, Released, Execution, Opening, Entered, State, counter, Outcome, refuse_if, or_refuse, running, with_entry, has_stored, step, by_event, AreWords, opening_of, entries_of, shown, IsMachine, AreAtWork, AreReplied}
use Rattle.vll_core.specs.declared.event.Event.TheVariants as event
use Rattle.vll_core.proofs.Claiming.{delta_here, delta_elsewhere}
use Rattle.vll_core.proofs.WordChanges.{pair_word_within, word_read, words_set_pair}
use Rattle.vll_core.proofs.RunningWorks.{Runs, entered_as, same_work}
use Rattle.vll_core.proofs.MachineState.{work_put, at_work_put, replied_put}
use Rattle.vll_core.proofs.MachineSteps.{Refuses, Takes, taken_reached}
use Rattle.vll_core.proofs.Deltas.{counter_release}
use Rattle.vll_core.proofs.Places.{all_at}
use Rattle.vll_core.proofs.Values.{others_stay}

-- ---- the plain machine

-- the state after a release
abbrev pub after_release : State → ℕ → Entered → State
after_release s t e = with_entry s t (record e { releases = e.releases + 1 })

-- a release by an entry that runs
abbrev pub release : Opening → State → ℕ → Entered → Outcome
release o s t e =
    refuse_if (not (has_stored o.base s t e)) OutOfStep
    (or_refuse (slice_get e.call.claims e.releases) OutOfStep (λ (c : Claim). Ok (Released (counter s c.id), after_release s t e)))

release_is : (o : Opening) (s : State) (t : ℕ) (e : Entered) → running s t ≡ Some e → step o s (event.Release t) ≡ release o s t e
release_is o s t e is = ap (λ (x : Option Entered). or_refuse x NotRunning (release o s t)) is

-- with all stores made
stored_is : (o : Opening) (s : State) (t : ℕ) (e : Entered) → has_stored o.base s t e ≡ true
    → release o s t e ≡ or_refuse (slice_get e.call.claims e.releases) OutOfStep (λ (c : Claim). Ok (Released (counter s c.id), after_release s t e))
stored_is o s t e all =
    ap (λ (b : Bool). refuse_if (not b) OutOfStep (or_refuse (slice_get e.call.claims e.releases) OutOfStep (λ (c : Claim). Ok (Released (counter s c.id), after_release s t e)))) all

-- ---- the machine that is kept

-- the entry that is shown of a call that runs
abbrev pub entry_of : {H : Type 0} (a : Inside H) (t : ℕ) (call : Call) (w : Execution) → Runs a t call w → Entered
entry_of a t call w r = entered_as r.client call r.status w

-- it is refused before all its stores are made
pub refused_stores : {H : Type 0} {places : H → ℕ → ℕ} (a : Inside H) (t : ℕ) (call : Call) (w : Execution) (r : Runs a t call w) → has_stored (shown a).base (shown a).state t (entry_of a t call w r) ≡ false
    → Refuses places a (event.Release t) OutOfStep
refused_stores {H} {places} a t call w r left = record {
  is =
      release_is (opening_of places (shown a)) (shown a).state t (entry_of a t call w r) r.found
      ∙ ap (λ (b : Bool). refuse_if (not b) OutOfStep (or_refuse (slice_get call.claims w.releases) OutOfStep (λ (c : Claim). Ok (Released (counter (shown a).state c.id), after_release (shown a).state t (entry_of a t call w r))))) left;
}

-- and where all releases are made
pub refused_releases : {H : Type 0} {places : H → ℕ → ℕ} (a : Inside H) (t : ℕ) (call : Call) (w : Execution) (r : Runs a t call w) → has_stored (shown a).base (shown a).state t (entry_of a t call w r) ≡ true
    → slice_get call.claims w.releases ≡ None → Refuses places a (event.Release t) OutOfStep
refused_releases {H} {places} a t call w r all none = record {
  is =
      release_is (opening_of places (shown a)) (shown a).state t (entry_of a t call w r) r.found
      ∙ stored_is (opening_of places (shown a)) (shown a).state t (entry_of a t call w r) all
      ∙ ap (λ (x : Option Claim). or_refuse x OutOfStep (λ (c : Claim). Ok (Released (counter (shown a).state c.id), after_release (shown a).state t (entry_of a t call w r)))) none;
}

-- the machine after a release
abbrev pub released : {H : Type 0} → Inside H → Vec ℕ → Vec Execution → Inside H
released a words works = record a { words = words; execution = works }

abbrev pub one_more : Execution → Execution
one_more w = record w { releases = w.releases + 1 }

shown_released : {H : Type 0} (a : Inside H) (t : ℕ) (call : Call) (w : Execution) (words : Vec ℕ) (works : Vec Execution) (r : Runs a t call w) → works.items ≡ slice_set a.execution.items t (one_more w)
    → (shown (released a words works)).state ≡ after_release (shown a).state t (entry_of a t call w r)
shown_released a t call w words works r put =
    ap (λ (es : List Entered). record (shown a).state { entries = es })
    (ap (entries_of a.queue.entries) put ∙ work_put a.queue.entries a.execution.items t _ (one_more w) r.queued)

pub taken_release : {H : Type 0} {places : H → ℕ → ℕ} (a : Inside H) (t : ℕ) (call : Call) (w : Execution) (c : Claim) (words : Vec ℕ) (works : Vec Execution) (r : Runs a t call w)
    → has_stored (shown a).base (shown a).state t (entry_of a t call w r) ≡ true → slice_get call.claims w.releases ≡ Some c
    → works.items ≡ slice_set a.execution.items t (one_more w)
    → Takes places a (released a words works) (event.Release t) (Released (counter (shown a).state c.id))
taken_release {H} {places} a t call w c words works r all at put =
    let s : State = (shown a).state in
    let shows = shown_released a t call w words works r put in
    record {
      fixed = refl;
      is =
          release_is (opening_of places (shown a)) s t (entry_of a t call w r) r.found
          ∙ stored_is (opening_of places (shown a)) s t (entry_of a t call w r) all
          ∙ ap (λ (x : Option Claim). or_refuse x OutOfStep (λ (d : Claim). Ok (Released (counter s d.id), after_release s t (entry_of a t call w r)))) at
          ∙ ap (λ (n : State). Ok (Released (counter s c.id), n)) (sym shows);
    }

-- the counter loses the delta of the claim
pub counter_less : {H : Type 0} (a : Inside H) (t : ℕ) (call : Call) (w : Execution) (c : Claim) (r : Runs a t call w)
    → slice_get call.claims w.releases ≡ Some c
    → counter (shown a).state c.id ≡ counter (after_release (shown a).state t (entry_of a t call w r)) c.id + delta_of c.mode
counter_less a t call w c r at =
    counter_release (shown a).state t (entry_of a t call w r) c c.id r.at at
    ∙ ap (λ (n : ℕ). counter (after_release (shown a).state t (entry_of a t call w r)) c.id + n) (delta_here c)

-- what a release finds
pub record Finds {H : Type 0} (a : Inside H) (call : Call) (w : Execution) (c : Claim) : Type 0 where
  pub record_there : c.id < length a.opening.value.items
  pub word_there : pair_word_of_record c.id < length a.words.items
  pub is_counter : slice_index a.words.items (pair_word_of_record c.id) ≡ counter (shown a).state c.id
  pub enough : delta_of c.mode ≤ counter (shown a).state c.id
  pub few : w.releases < MOST_CLAIMS

pub finds : {H : Type 0} {places : H → ℕ → ℕ} (a : Inside H) (t : ℕ) (call : Call) (w : Execution) (c : Claim) → IsMachine places a → Runs a t call w → slice_get call.claims w.releases ≡ Some c → Finds a call w c
finds a t call w c kept r at =
    let within : c.id < a.library.value.records = all_at (λ (d : Claim). d.id < a.library.value.records) call.claims w.releases c r.well.within at in
    let there : c.id < length a.opening.value.items = omega (arith, within, kept.records) in
    let claims = claims_few a.library.value.records r.well.procedure call r.well.formed r.well.made in
    let before = slice_get_within call.claims w.releases c at in
    record {
      record_there = there;
      word_there = pair_word_within (shown a).base (shown a).state a.words.items c.id kept.words there;
      is_counter = kept.words.pairs c.id there;
      enough = omega (arith, counter_less a t call w c r at);
      few = omega (arith, claims, before);
    }

-- the word that is read is the counter
pub read_counter : {H : Type 0} (a : Inside H) (call : Call) (w : Execution) (c : Claim) (place word : ℕ) → Finds a call w c → place ≡ pair_word_of_record c.id → word ≡ slice_index_or a.words.items place word
    → word ≡ counter (shown a).state c.id
read_counter a call w c place word f at read = word_read a.words.items (pair_word_of_record c.id) place _ word f.word_there f.is_counter at read

-- the execution that is read again is that of the ticket
pub read_again : {H : Type 0} (a : Inside H) (t : ℕ) (call : Call) (w : Execution) (place : ℕ) (v : Execution) → Runs a t call w → place ≡ t → v ≡ slice_index_or a.execution.items place v → v ≡ w
read_again a t call w place v r at read = same_work a t call w v r (read ∙ ap (λ (j : ℕ). slice_index_or a.execution.items j v) at)

-- the execution that is put back has one more release
pub put_again : {H : Type 0} (a : Inside H) (t : ℕ) (call : Call) (w : Execution) (place : ℕ) (v new : Execution) → Runs a t call w → place ≡ t → v ≡ slice_index_or a.execution.items place v → new ≡ one_more v
    → slice_set a.execution.items place new ≡ slice_set a.execution.items t (one_more w)
put_again a t call w place v new r at read more =
    ap (λ (n : ℕ). slice_set a.execution.items n new) at ∙ ap (slice_set a.execution.items t) (more ∙ ap one_more (read_again a t call w place v r at read))

-- the word that is written is the counter without the claim's delta
pub word_less : {H : Type 0} (a : Inside H) (c : Claim) (place word delta : ℕ) → place ≡ pair_word_of_record c.id → word ≡ counter (shown a).state c.id → delta ≡ delta_of c.mode
    → slice_set a.words.items place (word - delta) ≡ slice_set a.words.items (pair_word_of_record c.id) (counter (shown a).state c.id - delta_of c.mode)
word_less a c place word delta at is less =
    ap (λ (i : ℕ). slice_set a.words.items i (word - delta)) at ∙ ap (slice_set a.words.items (pair_word_of_record c.id)) (omega (arith, is, less))

-- the words after a release
words_less : {H : Type 0} {places : H → ℕ → ℕ} (a : Inside H) (t : ℕ) (call : Call) (w : Execution) (c : Claim) (words : Vec ℕ) (works : Vec Execution) (r : Runs a t call w)
    → IsMachine places a → Takes places a (released a words works) (event.Release t) (Released (counter (shown a).state c.id)) → slice_get call.claims w.releases ≡ Some c
    → (shown (released a words works)).state ≡ after_release (shown a).state t (entry_of a t call w r)
    → words.items ≡ slice_set a.words.items (pair_word_of_record c.id) (counter (shown a).state c.id - delta_of c.mode)
    → AreWords (shown a).base (shown (released a words works)).state words.items
words_less {H} {places} a t call w c words works r kept takes at shows written =
    let s : State = (shown a).state in
    let next : State = (shown (released a words works)).state in
    let less = counter_less a t call w c r at in
    let same : (k : ℕ) → counter next k ≡ counter (after_release s t (entry_of a t call w r)) k = λ k. ap (λ (n : State). counter n k) shows in
    subst (AreWords (shown a).base next) (sym written)
    (words_set_pair (shown a).base s next a.words.items c.id _ (finds a t call w c kept r at).record_there
    (omega (arith, same c.id, less))
    (λ k other. omega (arith, same k, counter_release s t (entry_of a t call w r) c k r.at at, delta_elsewhere k c other))
    (λ k. others_stay (opening_of places (shown a)) s next (by_event (event.Release t)) _ k kept.reached takes.is refl)
    kept.words)

-- what the type of a machine keeps
pub core_release : {H : Type 0} {places : H → ℕ → ℕ} (a : Inside H) (t : ℕ) (call : Call) (w : Execution) (c : Claim) (words : Vec ℕ) (works : Vec Execution) (r : Runs a t call w)
    → IsMachine places a → has_stored (shown a).base (shown a).state t (entry_of a t call w r) ≡ true → slice_get call.claims w.releases ≡ Some c
    → words.items ≡ slice_set a.words.items (pair_word_of_record c.id) (counter (shown a).state c.id - delta_of c.mode)
    → works.items ≡ slice_set a.execution.items t (one_more w) → vec_capacity works ≡ vec_capacity a.execution
    → IsMachine places (released a words works)
core_release {H} {places} a t call w c words works r kept all at written put room =
    let takes = taken_release {places = places} a t call w c words works r all at put in
    let wide : a.queue.limit ≤ vec_capacity works = omega (arith, kept.room, room) in
    assumption (
      taken_reached a (released a words works) (event.Release t) _ takes kept.reached,
      words_less a t call w c words works r kept takes at (shown_released a t call w words works r put) written,
      ap length put ∙ length-set a.execution.items t (one_more w) ∙ kept.works,
      subst (AreAtWork a.library.value a.opening.value.items a.queue.entries) (sym put) (at_work_put a.library.value a.opening.value.items a.queue.entries a.execution.items t (one_more w) (λ e here. let was = kept.at_work t e w here r.worked in assumption was) kept.at_work),
      subst (AreReplied a.queue.entries) (sym put) (replied_put a.queue.entries a.execution.items t (one_more w) (λ e here gone. kept.replied t e w here r.worked gone) kept.replied),
      wide,
    )
