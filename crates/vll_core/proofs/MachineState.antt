-- What a machine shows of its queue and its works, and what stays where one of their entries changes.
use Rattle.std.proofs.Common.{◌≡◌, ℕ, zero, suc, true, ◌<◌, ◌⊎◌, inl, inr, ⊎_elim, refl, sym, ap, ◌∙◌, subst, arith, List, [], ◌∷◌, ◌++◌, length, map, count_by, slice_get, slice_set, Option, Some, None, All, Bool, false, cond, ◌+◌, ◌≤◌, length-set, length-append}
use Rattle.vll_core.proofs.Common.{option_map, same_Some, slice_get-map, slice_get_within, get_or_from_slice_get, map-append, length-map, take-append-le, fold-map, Call, Reply, Made, before, end, IsReady, Catalog, Line, Status, Running, Waiting, Gone, Execution, is_waiting, is_gone, Entered, made, QueueEntry, Queued, IsQueued, has_reply, lines, statuses, changed_at, started, finished, admitted, entered_of, entries_of, IsAtWork, made_of, AreAtWork, AreReplied}
use Rattle.vll_core.proofs.Places.{all_at, entry_at, at_set, at_push}
use Rattle.vll_core.proofs.Entries.{starts, fewer_wait, one_more_waits}
use Rattle.vll_core.proofs.QueueLaws.{changed_there, map_changed, map_unchanged, lines_started, statuses_started, statuses_finished, lines_admitted, statuses_admitted}

-- a ticket's entry is that of the queue with its execution
pub entry_shown : (es : List QueueEntry) (ws : List Execution) (t : ℕ) (e : QueueEntry) (w : Execution)
    → slice_get es t ≡ Some e → slice_get ws t ≡ Some w → slice_get (entries_of es ws) t ≡ Some (entered_of e w)
entry_shown [] ws t e w at has = absurd (cc at)
entry_shown (d ∷ es) [] t e w at has = absurd (cc has)
entry_shown (d ∷ es) (v ∷ ws) zero e w at has = rw (same_Some d e at, same_Some v w has) refl
entry_shown (d ∷ es) (v ∷ ws) (suc t) e w at has = entry_shown es ws t e w at has

-- a shown entry is made of the queue's and a call's execution
pub record IsShownAt (es : List QueueEntry) (ws : List Execution) (t : ℕ) (shown : Entered) : Type 0 where
  pub entry : QueueEntry
  pub execution : Execution
  pub at : slice_get es t ≡ Some entry
  pub has : slice_get ws t ≡ Some execution
  pub is : shown ≡ entered_of entry execution

pub shown_at : (es : List QueueEntry) (ws : List Execution) (t : ℕ) (shown : Entered) → slice_get (entries_of es ws) t ≡ Some shown → IsShownAt es ws t shown
shown_at [] ws t shown at = absurd (cc at)
shown_at (d ∷ es) [] t shown at = absurd (cc at)
shown_at (d ∷ es) (v ∷ ws) zero shown at = record { entry = d; execution = v; at = refl; has = refl; is = sym (same_Some (entered_of d v) shown at) }
shown_at (d ∷ es) (v ∷ ws) (suc t) shown at =
    let later = shown_at es ws t shown at in
    record { entry = later.entry; execution = later.execution; at = later.at; has = later.has; is = later.is }

-- where the queue has no entry, none is shown
pub none_shown : (es : List QueueEntry) (ws : List Execution) (t : ℕ) → slice_get es t ≡ None → slice_get (entries_of es ws) t ≡ None
none_shown [] ws t none = refl
none_shown (d ∷ es) [] t none = refl
none_shown (d ∷ es) (v ∷ ws) zero none = absurd (cc none)
none_shown (d ∷ es) (v ∷ ws) (suc t) none = none_shown es ws t none

pub length_shown : (es : List QueueEntry) (ws : List Execution) → length ws ≡ length es → length (entries_of es ws) ≡ length es
length_shown [] ws same = refl
length_shown (e ∷ es) [] same = absurd (omega (arith, same))
length_shown (e ∷ es) (w ∷ ws) same = omega (arith, length_shown es ws (omega (arith, same)))

-- what depends on the entry of the queue alone is the same for the entry that is shown
pub map_shown : {B : Type 0} (f : QueueEntry → B) (g : Entered → B) (es : List QueueEntry) (ws : List Execution)
    → ((e : QueueEntry) (w : Execution) → g (entered_of e w) ≡ f e) → length ws ≡ length es → map g (entries_of es ws) ≡ map f es
map_shown f g [] ws alike same = refl
map_shown f g (e ∷ es) [] alike same = absurd (omega (arith, same))
map_shown f g (e ∷ es) (w ∷ ws) alike same = rw (alike e w, map_shown f g es ws alike (omega (arith, same))) refl

-- the calls in order of entry
pub made_shown : (es : List QueueEntry) (ws : List Execution) → length ws ≡ length es → map made (entries_of es ws) ≡ made_of es
made_shown es ws same = map_shown (λ (e : QueueEntry). (e.line.client, e.line.call)) made es ws (λ e w. refl) same

pub statuses_shown : (es : List QueueEntry) (ws : List Execution) → length ws ≡ length es
    → map (λ (e : Entered). e.status) (entries_of es ws) ≡ map (λ (e : QueueEntry). e.status) es
statuses_shown es ws same = map_shown (λ (e : QueueEntry). e.status) (λ (e : Entered). e.status) es ws (λ e w. refl) same

-- as many calls pass a test of their status as entries of the queue
pub counted_shown : (p : Status → Bool) (es : List QueueEntry) (ws : List Execution) → length ws ≡ length es
    → count_by (λ (e : Entered). p e.status) (entries_of es ws) ≡ count_by p (map (λ (e : QueueEntry). e.status) es)
counted_shown p es ws same =
    sym (fold-map (λ (m : ℕ) (s : Status). m + cond (p s) 1 0) (λ (e : Entered). e.status) 0 (entries_of es ws))
    ∙ ap (λ (ss : List Status). count_by p ss) (statuses_shown es ws same)

-- as many calls wait as entries of the queue
pub waiting_shown : (es : List QueueEntry) (ws : List Execution) → length ws ≡ length es
    → count_by (λ (e : Entered). is_waiting e.status) (entries_of es ws) ≡ count_by is_waiting (map (λ (e : QueueEntry). e.status) es)
waiting_shown es ws same = counted_shown is_waiting es ws same

-- an entry of the queue is put
pub entry_put : (es : List QueueEntry) (ws : List Execution) (t : ℕ) (e : QueueEntry) (w : Execution)
    → slice_get ws t ≡ Some w → entries_of (slice_set es t e) ws ≡ slice_set (entries_of es ws) t (entered_of e w)
entry_put [] ws t e w has = refl
entry_put (d ∷ es) [] t e w has = absurd (cc has)
entry_put (d ∷ es) (v ∷ ws) zero e w has = ap (λ (x : Execution). entered_of e x ∷ entries_of es ws) (same_Some v w has)
entry_put (d ∷ es) (v ∷ ws) (suc t) e w has = ap (λ (xs : List Entered). entered_of d v ∷ xs) (entry_put es ws t e w has)

-- an entry of the queue is changed
pub entry_changed : (es : List QueueEntry) (ws : List Execution) (t : ℕ) (e : QueueEntry) (w : Execution) (change : QueueEntry → QueueEntry)
    → slice_get es t ≡ Some e → slice_get ws t ≡ Some w → entries_of (changed_at es t change) ws ≡ slice_set (entries_of es ws) t (entered_of (change e) w)
entry_changed es ws t e w change at has =
    ap (λ (ds : List QueueEntry). entries_of ds ws) (changed_there es t e change at) ∙ entry_put es ws t (change e) w has

-- the execution of a call is put
pub work_put : (es : List QueueEntry) (ws : List Execution) (t : ℕ) (e : QueueEntry) (w : Execution)
    → slice_get es t ≡ Some e → entries_of es (slice_set ws t w) ≡ slice_set (entries_of es ws) t (entered_of e w)
work_put [] ws t e w at = absurd (cc at)
work_put (d ∷ es) [] t e w at = refl
work_put (d ∷ es) (v ∷ ws) zero e w at = ap (λ (x : QueueEntry). entered_of x w ∷ entries_of es ws) (same_Some d e at)
work_put (d ∷ es) (v ∷ ws) (suc t) e w at = ap (λ (xs : List Entered). entered_of d v ∷ xs) (work_put es ws t e w at)

-- an entry and its execution are put at the end
pub entry_pushed : (es : List QueueEntry) (ws : List Execution) (e : QueueEntry) (w : Execution)
    → length ws ≡ length es → entries_of (es ++ e ∷ []) (ws ++ w ∷ []) ≡ entries_of es ws ++ entered_of e w ∷ []
entry_pushed [] [] e w same = refl
entry_pushed [] (v ∷ ws) e w same = absurd (omega (arith, same))
entry_pushed (d ∷ es) [] e w same = absurd (omega (arith, same))
entry_pushed (d ∷ es) (v ∷ ws) e w same = ap (λ (xs : List Entered). entered_of d v ∷ xs) (entry_pushed es ws e w (omega (arith, same)))

-- an entry of a changed list is the changed one, or it was there
pub at_changed : (es : List QueueEntry) (t : ℕ) (change : QueueEntry → QueueEntry) (v : ℕ) (d : QueueEntry) → slice_get (changed_at es t change) v ≡ Some d
    → ((v ≡ t) × ((e : QueueEntry) × (slice_get es t ≡ Some e) × (d ≡ change e))) ⊎ (slice_get es v ≡ Some d)
at_changed es t change v d at = step (slice_get es t) refl at
  where
    step : (o : Option QueueEntry) → slice_get es t ≡ o
        → slice_get (elim o as (λ _. List QueueEntry) [ None ↦ es | Some e ↦ slice_set es t (change e) ]) v ≡ Some d
        → ((v ≡ t) × ((e : QueueEntry) × (slice_get es t ≡ Some e) × (d ≡ change e))) ⊎ (slice_get es v ≡ Some d)
    step None is here = inr here
    step (Some e) is here = ⊎_elim (λ p. inl (p.0, (e, is, p.1))) (λ p. inr p) (at_set es t (change e) v d here)

pub length_changed : (es : List QueueEntry) (t : ℕ) (change : QueueEntry → QueueEntry) → length (changed_at es t change) ≡ length es
length_changed es t change = step (slice_get es t)
  where
    step : (o : Option QueueEntry) → length (elim o as (λ _. List QueueEntry) [ None ↦ es | Some e ↦ slice_set es t (change e) ]) ≡ length es
    step None = refl
    step (Some e) = length-set es t (change e)

pub made_changed : (es : List QueueEntry) (t : ℕ) (change : QueueEntry → QueueEntry)
    → ((e : QueueEntry) → ◌≡◌ {A = Made} ((change e).line.client, (change e).line.call) (e.line.client, e.line.call)) → made_of (changed_at es t change) ≡ made_of es
made_changed es t change same = map_unchanged (λ (e : QueueEntry). (e.line.client, e.line.call)) es t change same

-- where two lists have one image, an item of one has its like in the other
pub like_item : {A B : Type 0} (f : A → B) (xs ys : List A) (t : ℕ) (y : A) → map f xs ≡ map f ys → slice_get ys t ≡ Some y
    → (x : A) × (slice_get xs t ≡ Some x) × (f x ≡ f y)
like_item {A} {B} f xs ys t y same at =
    step (slice_get xs t) refl (sym (slice_get-map f xs t) ∙ (ap (λ (zs : List B). slice_get zs t) same ∙ (slice_get-map f ys t ∙ ap (λ (o : Option A). option_map f o) at)))
  where
    step : (o : Option A) → slice_get xs t ≡ o → option_map f o ≡ Some (f y) → (x : A) × (slice_get xs t ≡ Some x) × (f x ≡ f y)
    step None is like = absurd (cc like)
    step (Some x) is like = (x, is, same_Some (f x) (f y) like)

pub all_from : {X : Type 0} (P : X → Type 0) (xs : List X) → ((t : ℕ) (x : X) → slice_get xs t ≡ Some x → P x) → All P xs
all_from P xs all = λ k d within. let at = entry_at xs k within in subst P (sym (get_or_from_slice_get xs k at.0 d at.1)) (all k at.0 at.1)

-- if the calls of a list are ready, so are those of a list of the same calls
pub ready_same : (c : Catalog) (es ds : List QueueEntry) → made_of es ≡ made_of ds → All (λ (e : QueueEntry). IsReady c e.line.call) es → All (λ (e : QueueEntry). IsReady c e.line.call) ds
ready_same c es ds same all = all_from (λ (e : QueueEntry). IsReady c e.line.call) ds (λ t d at. ready t d at)
  where
    ready : (t : ℕ) (d : QueueEntry) → slice_get ds t ≡ Some d → IsReady c d.line.call
    ready t d at =
        let like = like_item (λ (e : QueueEntry). (e.line.client, e.line.call)) es ds t d same at in
        subst (IsReady c) (ap (λ (m : Made). m.1) like.2) (all_at (λ (e : QueueEntry). IsReady c e.line.call) es t like.0 all like.1)

-- works of a list of calls are also those of a list of the same calls
pub at_work_same : (c : Catalog) (records : List ℕ) (es ds : List QueueEntry) (ws : List Execution) → made_of es ≡ made_of ds → AreAtWork c records es ws → AreAtWork c records ds ws
at_work_same c records es ds ws same all t d w at has =
    let like = like_item (λ (e : QueueEntry). (e.line.client, e.line.call)) es ds t d same at in
    subst (λ (call : Call). IsAtWork c.procs call (before c.procs (made_of ds) records t) w) (ap (λ (m : Made). m.1) like.2)
    (subst (λ (calls : List Made). IsAtWork c.procs like.0.line.call (before c.procs calls records t) w) same (all t like.0 w like.1 has))

-- the execution of a call is put, and is that call's
pub at_work_put : (c : Catalog) (records : List ℕ) (es : List QueueEntry) (ws : List Execution) (t : ℕ) (new : Execution)
    → ((e : QueueEntry) → slice_get es t ≡ Some e → IsAtWork c.procs e.line.call (before c.procs (made_of es) records t) new)
    → AreAtWork c records es ws → AreAtWork c records es (slice_set ws t new)
at_work_put c records es ws t new own all v e w at has = step (at_set ws t new v w has)
  where
    step : ((v ≡ t) × (w ≡ new)) ⊎ (slice_get ws v ≡ Some w) → IsAtWork c.procs e.line.call (before c.procs (made_of es) records v) w
    step (inl is) = rw (is.0, is.1) (own e (ap (λ (n : ℕ). slice_get es n) (sym is.0) ∙ at))
    step (inr here) = all v e w at here

-- an entry and its execution are put at the end
pub at_work_pushed : (c : Catalog) (records : List ℕ) (es : List QueueEntry) (ws : List Execution) (last : QueueEntry) (new : Execution)
    → length ws ≡ length es → IsAtWork c.procs last.line.call (before c.procs (made_of es) records (length es)) new
    → AreAtWork c records es ws → AreAtWork c records (es ++ last ∷ []) (ws ++ new ∷ [])
at_work_pushed c records es ws last new same own all t e w at has = step (at_push es last t e at) (at_push ws new t w has)
  where
    calls : (n : ℕ) → n ≤ length es → before c.procs (made_of (es ++ last ∷ [])) records n ≡ before c.procs (made_of es) records n
    calls n within =
        let long : length (made_of es) ≡ length es = length-map es (λ (x : QueueEntry). (x.line.client, x.line.call)) in
        ap (λ (ms : List Made). before c.procs ms records n) (map-append (λ (x : QueueEntry). (x.line.client, x.line.call)) es (last ∷ []))
        ∙ ap (λ (ms : List Made). end c.procs ms records) (take-append-le n (made_of es) ((last.line.client, last.line.call) ∷ []) (omega (arith, within, long)))

    step : (slice_get es t ≡ Some e) ⊎ ((t ≡ length es) × (e ≡ last)) → (slice_get ws t ≡ Some w) ⊎ ((t ≡ length ws) × (w ≡ new))
        → IsAtWork c.procs e.line.call (before c.procs (made_of (es ++ last ∷ [])) records t) w
    step (inl here) (inl there) =
        let within = slice_get_within es t e here in
        subst (λ (now : List ℕ). IsAtWork c.procs e.line.call now w) (sym (calls t (omega (arith, within)))) (all t e w here there)
    step (inl here) (inr end_of) = absurd (let within = slice_get_within es t e here in let is = end_of.0 in omega (arith, within, is, same))
    step (inr end_of) (inl there) = absurd (let within = slice_get_within ws t w there in let is = end_of.0 in omega (arith, within, is, same))
    step (inr end_of) (inr new_of) =
        rw (end_of.1, new_of.1, end_of.0)
        (subst (λ (now : List ℕ). IsAtWork c.procs last.line.call now new) (sym (calls (length es) (omega arith))) own)

-- a changed entry has the reply of its execution, if it is gone
pub replied_changed : (es : List QueueEntry) (ws : List Execution) (t : ℕ) (change : QueueEntry → QueueEntry)
    → ((e : QueueEntry) (w : Execution) → slice_get es t ≡ Some e → slice_get ws t ≡ Some w → is_gone (change e).status ≡ true → (change e).line.reply ≡ w.reply)
    → AreReplied es ws → AreReplied (changed_at es t change) ws
replied_changed es ws t change own all v d w at has gone = step (at_changed es t change v d at)
  where
    step : ((v ≡ t) × ((e : QueueEntry) × (slice_get es t ≡ Some e) × (d ≡ change e))) ⊎ (slice_get es v ≡ Some d) → d.line.reply ≡ w.reply
    step (inl is) =
        ap (λ (x : QueueEntry). x.line.reply) is.1.2
        ∙ own is.1.0 w is.1.1 (ap (λ (n : ℕ). slice_get ws n) (sym is.0) ∙ has) (ap (λ (x : QueueEntry). is_gone x.status) (sym is.1.2) ∙ gone)
    step (inr here) = all v d w here has gone

-- the execution is put of a call that is not gone, or with the reply of its line
pub replied_put : (es : List QueueEntry) (ws : List Execution) (t : ℕ) (new : Execution)
    → ((e : QueueEntry) → slice_get es t ≡ Some e → is_gone e.status ≡ true → e.line.reply ≡ new.reply) → AreReplied es ws → AreReplied es (slice_set ws t new)
replied_put es ws t new own all v e w at has gone = step (at_set ws t new v w has)
  where
    step : ((v ≡ t) × (w ≡ new)) ⊎ (slice_get ws v ≡ Some w) → e.line.reply ≡ w.reply
    step (inl is) = rw is.1 (own e (ap (λ (n : ℕ). slice_get es n) (sym is.0) ∙ at) gone)
    step (inr here) = all v e w at here gone

-- an entry that is not gone and its execution are put at the end
pub replied_pushed : (es : List QueueEntry) (ws : List Execution) (last : QueueEntry) (new : Execution)
    → length ws ≡ length es → is_gone last.status ≡ false → AreReplied es ws → AreReplied (es ++ last ∷ []) (ws ++ new ∷ [])
replied_pushed es ws last new same left all t e w at has gone = step (at_push es last t e at) (at_push ws new t w has)
  where
    step : (slice_get es t ≡ Some e) ⊎ ((t ≡ length es) × (e ≡ last)) → (slice_get ws t ≡ Some w) ⊎ ((t ≡ length ws) × (w ≡ new)) → e.line.reply ≡ w.reply
    step (inl here) (inl there) = all t e w here there gone
    step (inl here) (inr end_of) = absurd (let within = slice_get_within es t e here in let is = end_of.0 in omega (arith, within, is, same))
    step (inr end_of) there = absurd (cc (sym gone ∙ (ap (λ (x : QueueEntry). is_gone x.status) end_of.1 ∙ left)))

-- the queue stays one where a waiting call begins to run
pub queued_started : {H : Type 0} (q : Queued H) (t : ℕ) → slice_get (statuses q) t ≡ Some Waiting → IsQueued q → IsQueued (started q t)
queued_started q t at kept =
    let capped : count_by is_waiting (statuses (started q t)) ≤ q.cap = rw (statuses_started q t) (omega (arith, kept.capped, (starts (statuses q) t at).waiting)) in
    let within : length (started q t).entries ≤ q.limit = rw (length_changed q.entries t (λ e. record e { status = Running })) kept.within in
    let answered : map has_reply (lines (started q t)) ≡ map is_gone (statuses (started q t)) =
    ap (λ (ls : List Line). map has_reply ls) (lines_started q t)
    ∙ (kept.answered ∙ (sym (starts (statuses q) t at).gone ∙ ap (λ (ss : List Status). map is_gone ss) (sym (statuses_started q t)))) in
    assumption (capped, within, answered, kept)

-- the queue stays one where a running call is finished
pub queued_finished : {H : Type 0} (q : Queued H) (t : ℕ) (reply : Reply) → IsQueued q → IsQueued (finished q t reply)
queued_finished q t reply kept =
    let capped : count_by is_waiting (statuses (finished q t reply)) ≤ q.cap = rw (statuses_finished q t reply) (omega (arith, kept.capped, fewer_wait (statuses q) t)) in
    let within : length (finished q t reply).entries ≤ q.limit = rw (length_changed q.entries t (λ e. record { line = record e.line { reply = Some reply }; status = Gone })) kept.within in
    let answered : map has_reply (lines (finished q t reply)) ≡ map is_gone (statuses (finished q t reply)) =
    answers (finished q t reply).entries
    ∙ (map_changed (λ (e : QueueEntry). has_reply e.line) q.entries t _ true (λ e. refl)
    ∙ (ap (λ (bs : List Bool). slice_set bs t true) (sym (answers q.entries) ∙ (kept.answered ∙ goes q.entries))
    ∙ (sym (map_changed (λ (e : QueueEntry). is_gone e.status) q.entries t _ true (λ e. refl)) ∙ sym (goes (finished q t reply).entries)))) in
    assumption (capped, within, answered, kept)
  where
    answers : (es : List QueueEntry) → map has_reply (map (λ (e : QueueEntry). e.line) es) ≡ map (λ (e : QueueEntry). has_reply e.line) es
    answers [] = refl
    answers (e ∷ es) = ap (λ (bs : List Bool). has_reply e.line ∷ bs) (answers es)

    goes : (es : List QueueEntry) → map is_gone (map (λ (e : QueueEntry). e.status) es) ≡ map (λ (e : QueueEntry). is_gone e.status) es
    goes [] = refl
    goes (e ∷ es) = ap (λ (bs : List Bool). is_gone e.status ∷ bs) (goes es)

-- the queue stays one where a call enters that is not gone, without a reply
pub queued_admitted : {H : Type 0} (q : Queued H) (e : QueueEntry) → length q.entries < q.limit → count_by is_waiting (statuses q) < q.cap
    → has_reply e.line ≡ false → is_gone e.status ≡ false → IsQueued q → IsQueued (admitted q e)
queued_admitted q e room idle silent left kept =
    let capped : count_by is_waiting (statuses (admitted q e)) ≤ q.cap = rw (statuses_admitted q e) (omega (arith, idle, one_more_waits (statuses q) e.status)) in
    let within : length (admitted q e).entries ≤ q.limit = omega (arith, length-append q.entries (e ∷ []), room) in
    let answered : map has_reply (lines (admitted q e)) ≡ map is_gone (statuses (admitted q e)) =
    ap (λ (ls : List Line). map has_reply ls) (lines_admitted q e)
    ∙ (map-append has_reply (lines q) (e.line ∷ [])
    ∙ (ap (λ (bs : List Bool). bs ++ has_reply e.line ∷ []) kept.answered
    ∙ (ap (λ (b : Bool). map is_gone (statuses q) ++ b ∷ []) (silent ∙ sym left)
    ∙ (sym (map-append is_gone (statuses q) (e.status ∷ [])) ∙ ap (λ (ss : List Status). map is_gone ss) (sym (statuses_admitted q e)))))) in
    assumption (capped, within, answered, kept)
