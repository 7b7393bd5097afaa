-- What a session knows once it has looked for the record of a call's indirect key, and what is known when the call has begun then.
use Rattle.std.proofs.Common.{◌≡◌, ℕ, ◌<◌, ◌≤◌, List, [], ◌∷◌, ◌++◌, length, All, Some, None, slice_get, slice_index, refl, sym, ap, ◌∙◌, subst, arith}
use Rattle.std.proofs.lemmas.List.{append-nil, append_assoc, append_cancel_left, length-append}
use Rattle.std.proofs.lemmas.Option.{none-some, same_Some, slice_get-get_or}
use Rattle.vll_record.specs.declared.claim.Claim.{Claim}
use Rattle.vll_proc.specs.declared.call.Call.{Call}
use Rattle.vll_proc.specs.Headline.Serial.{Made, before}
use Rattle.vll_check.specs.Headline.Calls.{source, with_found}
use Rattle.vll_check.specs.Calls.{Fits}
use Rattle.vll_check.specs.Catalog.{IsCatalog}
use Rattle.vll_check.proofs.Fitting.{fits_within, found_bare, found_source, found_value, found_without}
use Rattle.vll_core.specs.Headline.State.{Base}
use Rattle.vll_core.proofs.SerialRun.{later_leave_states}
use Rattle.vll_counters.specs.declared.views.SessionView.{SessionView}
use Rattle.vll_counters.specs.Headline.Views.{calls_by}
use Rattle.vll_counters.specs.Shown.{WordsShown}
use Rattle.vll_counters.specs.Told.{HasFound, WasThere}
use Rattle.vll_counters.proofs.Places.{get_longer}
use Rattle.vll_queue.specs.declared.begun.Begun.{Begun}
use Rattle.vll_queue.specs.declared.begun.Begun.TheVariants.{Free, Blocked, Refused}
use Rattle.vll_queue.specs.Begin.{Begins, WasFound, FindsAndBegins}
use Rattle.vll_queue.specs.Looked.{HasLooked, IsLookedUp}
use Rattle.vll_queue.specs.Headline.Sessions.{SawOwn}
use Rattle.vll_queue.specs.Sessions.{SawOthers}
use Rattle.vll_queue.specs.Shown.{Named, library_of, words_of}
use Rattle.vll_queue.proofs.Learning.{calls_by-append}

-- the records of the claims that a call has before it finds one are there
pub looked_there : (e : Named) (w : WordsShown) (call : Call) → w ≡ words_of e → IsCatalog (library_of e) → Fits (library_of e) call → All (λ (d : Claim). d.id < length w.base.records) call.claims
looked_there e w call is catalog fits = subst (λ (x : WordsShown). All (λ (d : Claim). d.id < length x.base.records) call.claims) (sym is) (fits_within (library_of e) call catalog fits)

-- ---- the session looks

-- what a session has found in the words of an engine
pub found_of : (e : Named) (w : WordsShown) (seat old new : SessionView) (words : List ℕ) (r v : ℕ) → w ≡ words_of e → seat ≡ old → HasFound w.base seat new words r v → HasFound e.base old new words r v
found_of e w seat old new words r v is same found = subst (λ (x : WordsShown × SessionView). HasFound x.0.base x.1 new words r v) (λ i. (is i, same i)) found

-- a call without a source enters as it is
pub looked_nowhere : (e : Named) (g : SessionView) (call : Call) → IsCatalog (library_of e) → Fits (library_of e) call → source (library_of e) call ≡ None → HasLooked e g g call call
looked_nowhere e g call catalog fits none = record {
  value = 0;
  is = sym (found_without (library_of e) call 0 catalog fits none);
  bare_is = found_bare (library_of e) call 0 fits;
  others = record { client = refl; others = []; not_own = refl; seen = sym (append-nil g.seen) };
  same = refl;
  found = λ r some. absurd (none-some r (sym none ∙ some));
}

-- what entered since is other clients'
saw_found : (base : Base) (old new : SessionView) (words : List ℕ) (r v : ℕ) → HasFound base old new words r v → SawOthers old new
saw_found base old new words r v found = record {
  client = ap (λ (g : SessionView). g.client) found.same;
  others = found.begins.0;
  not_own = append_cancel_left (calls_by old.client old.seen) (calls_by old.client found.begins.0) []
      (sym (calls_by-append old.client old.seen found.begins.0) ∙ ap (calls_by old.client) (sym found.begins.1) ∙ sym found.own ∙ sym (append-nil (calls_by old.client old.seen)));
  seen = found.begins.1;
}

-- a call with a source enters with the value found
pub looked_there_found : (e : Named) (old new : SessionView) (words : List ℕ) (call entering : Call) (r v : ℕ) → Fits (library_of e) call → source (library_of e) call ≡ Some r → HasFound e.base old new words r v → entering ≡ with_found (library_of e) call v → HasLooked e old new call entering
looked_there_found e old new words call entering r v fits source_is found is =
    let same : new.given ≡ old.given = ap (λ (g : SessionView). g.given) found.same in
    record {
      value = v;
      is = is;
      bare_is = found_bare (library_of e) call v fits;
      others = saw_found e.base old new words r v found;
      same = same;
      found = λ q there.
          let one : r ≡ q = same_Some r q (sym source_is ∙ there) in (
            subst (λ (x : ℕ × List ℕ). WasThere e.base new.seen x.1 (length new.seen) x.0 v) (λ i. (one i, sym same i)) found.was,
            λ k t at. found.given k t (ap (λ (l : List ℕ). slice_get l k) (sym same) ∙ at),
          );
    }

-- a call with a source has found what was there
pub looked_up : (e : Named) (old new : SessionView) (words : List ℕ) (call entering : Call) (r v : ℕ) → Fits (library_of e) call → source (library_of e) call ≡ Some r → HasFound e.base old new words r v → entering ≡ with_found (library_of e) call v
    → IsLookedUp e new entering
looked_up e old new words call entering r v fits source_is found is q there =
    let same : source (library_of e) entering ≡ source (library_of e) call = ap (source (library_of e)) is ∙ found_source (library_of e) call v fits in
    let one : r ≡ q = same_Some r q (sym source_is ∙ sym same ∙ there) in
    record {
      value = v;
      is = ap (λ (c : Call). c.found) is ∙ found_value (library_of e) call v r fits source_is;
      ticket = found.was.ticket;
      within = found.was.within;
      there = found.was.value ∙ ap (slice_index (before e.base.procs new.seen e.base.records found.was.ticket)) one;
    }

-- ---- the call begins

pub saw_more : (old mid new : SessionView) → SawOthers old mid → SawOthers mid new → SawOthers old new
saw_more old mid new first then = record {
  client = then.client ∙ first.client;
  others = first.others ++ then.others;
  not_own = calls_by-append old.client first.others then.others
      ∙ (λ i. first.not_own i ++ calls_by (sym first.client i) then.others) ∙ then.not_own;
  seen = then.seen ∙ ap (λ (l : List Made). l ++ then.others) first.seen ∙ append_assoc old.seen first.others then.others;
}

pub saw_more_own : (old mid new : SessionView) (call : Call) (t : ℕ) → SawOthers old mid → SawOwn mid new call t → SawOwn old new call t
saw_more_own old mid new call t first then =
    let whole : mid.seen ++ then.others ≡ old.seen ++ (first.others ++ then.others) = ap (λ (l : List Made). l ++ then.others) first.seen ∙ append_assoc old.seen first.others then.others in
    record {
      client = then.client ∙ first.client;
      others = first.others ++ then.others;
      not_own = calls_by-append old.client first.others then.others ∙ (λ i. first.not_own i ++ calls_by (sym first.client i) then.others) ∙ then.not_own;
      seen = then.seen ∙ (λ i. whole i ++ (first.client i, call) ∷ []);
      place = then.place ∙ ap length whole;
    }

-- the answer for a session that has looked before
pub begins_more : (e : Named) (old mid new : SessionView) (call : Call) (begun : Begun) → SawOthers old mid → Begins e mid new call begun → Begins e old new call begun
begins_more e old mid new call (Free pass) first h = (saw_more_own old mid new call pass.pass.ticket first h.0, h.1)
begins_more e old mid new call (Blocked ticket) first h = (saw_more_own old mid new call ticket first h.0, h.1)
begins_more e old mid new call (Refused why) first h = (saw_more old mid new first h.0, h.1)

-- a call that was seen is the one that is seen at its ticket later
seen_before : (calls more : List Made) (t : ℕ) (m : Made) → t < length calls → slice_get (calls ++ more) t ≡ Some m → slice_get calls t ≡ Some m
seen_before calls more t m within at =
    let here = slice_get-get_or calls t m within in
    here ∙ sym (get_longer calls more t _ here) ∙ at

-- a value that was there is still there with more calls after
was_there_later : (base : Base) (calls more : List Made) (given : List ℕ) (ticket r v : ℕ) → ((k t : ℕ) → slice_get given k ≡ Some t → t < length calls) → length calls ≤ ticket
    → WasThere base calls given (length calls) r v → WasThere base (calls ++ more) given ticket r v
was_there_later base calls more given ticket r v known within was =
    let below = was.within in
    record {
      ticket = was.ticket;
      within = omega (arith, below, within);
      value = was.value ∙ ap (λ (l : List ℕ). slice_index l r) (sym (later_leave_states base.procs calls more base.records was.ticket below));
      behind = λ k t m is at claims. was.behind k t m is (seen_before calls more t m (known k t is) at) claims;
    }

-- what was found before the call's ticket was there
pub found_own : (e : Named) (mid new : SessionView) (call : Call) (ticket r v : ℕ) → SawOwn mid new call ticket → new.given ≡ mid.given
    → WasThere e.base mid.seen mid.given (length mid.seen) r v → ((k t : ℕ) → slice_get mid.given k ≡ Some t → t < length mid.seen) → WasThere e.base new.seen new.given ticket r v
found_own e mid new call ticket r v saw same was known =
    let whole : new.seen ≡ mid.seen ++ (saw.others ++ (mid.client, call) ∷ []) = saw.seen ∙ append_assoc mid.seen saw.others ((mid.client, call) ∷ []) in
    let long = length-append mid.seen saw.others in
    let place = saw.place in
    subst (λ (x : List Made × List ℕ). WasThere e.base x.0 x.1 ticket r v) (λ i. (sym whole i, sym same i))
    (was_there_later e.base mid.seen (saw.others ++ (mid.client, call) ∷ []) mid.given ticket r v known (omega (arith, long, place)) was)

found_begun : (e : Named) (mid new : SessionView) (call : Call) (begun : Begun) (r v : ℕ) → Begins e mid new call begun → new.given ≡ mid.given
    → WasThere e.base mid.seen mid.given (length mid.seen) r v → ((k t : ℕ) → slice_get mid.given k ≡ Some t → t < length mid.seen) → WasFound e new r v begun
found_begun e mid new call (Free pass) r v h same was known = found_own e mid new call pass.pass.ticket r v h.0 same was known
found_begun e mid new call (Blocked ticket) r v h same was known = found_own e mid new call ticket r v h.0 same was known
found_begun e mid new call (Refused why) r v h same was known = tt

-- a session looks, and then its call begins
pub begins_found : (e : Named) (old mid new : SessionView) (call entering : Call) (begun : Begun) → HasLooked e old mid call entering → Begins e mid new entering begun → new.given ≡ mid.given → FindsAndBegins e old new call begun
begins_found e old mid new call entering begun looked h same = record {
  value = looked.value;
  same = looked.bare_is;
  begins = subst (λ (c : Call). Begins e old new c begun) looked.is (begins_more e old mid new entering begun looked.others h);
  found = λ r is. let there = looked.found r is in found_begun e mid new entering begun r looked.value h same there.0 there.1;
}

-- a call without a source begins as it is
pub begins_without : (e : Named) (old new : SessionView) (call : Call) (begun : Begun) → IsCatalog (library_of e) → Fits (library_of e) call → source (library_of e) call ≡ None → Begins e old new call begun → new.given ≡ old.given
    → FindsAndBegins e old new call begun
begins_without e old new call begun catalog fits none h same = begins_found e old old new call call begun (looked_nowhere e old call catalog fits none) h same

-- and its session has nothing to look up
pub nothing_to_look_up : (e : Named) (g : SessionView) (call : Call) → source (library_of e) call ≡ None → IsLookedUp e g call
nothing_to_look_up e g call none r is = absurd (none-some r (sym none ∙ is))
