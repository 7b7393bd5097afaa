-- The front and the scan find a call that may begin to run, and its pass is a fresh one.
use Rattle.std.proofs.Common.{◌≡◌, ℕ, zero, suc, ◌<◌, Bool, true, false, true≢false, cond, List, [], ◌∷◌, map, length, take, Option, Some, None, slice_get, refl, sym, ap, ◌∙◌, subst, arith}
use Rattle.std.specs.List.{position}
use Rattle.std.specs.Option.{option_map}
use Rattle.std.proofs.lemmas.List.{length-map}
use Rattle.std.proofs.lemmas.Option.{same_Some, slice_get-map}
use Rattle.atomic_table.specs.Seated.{TableId}
use Rattle.vll_record.specs.Claim.{conflict}
use Rattle.vll_check.specs.Calls.{IsReady}
use Rattle.vll_sca.specs.declared.status.Status.{Status}
use Rattle.vll_sca.specs.declared.status.Status.TheVariants.{Running, Waiting, Gone}
use Rattle.vll_sca.specs.Headline.Status.{is_waiting}
use Rattle.vll_sca.specs.Status.{is_gone}
use Rattle.vll_sca.proofs.Scanning.{position-first, position-next, scanned_within, scanned_waits, scanned_is_clear}
use Rattle.vll_core.specs.declared.line.Line.{Line}
use Rattle.vll_core.specs.Queue.{QueueEntry, Queued, lines, statuses, is_left, waiting_ticket, front_among, found_by, analysed, started, started_if}
use Rattle.vll_core.proofs.QueueLaws.{lines_started}
use Rattle.vll_core.proofs.Places.{all_at, entry_at}
use Rattle.vll_counters.specs.Headline.Views.{calls_in}
use Rattle.vll_counters.specs.Written.{Write}
use Rattle.vll_counters.specs.Shown.{QueueShown, PassShown, WordsShown}
use Rattle.vll_counters.specs.Steps.{new_pass}
use Rattle.vll_counters.specs.Told.{MayStart}
use Rattle.vll_counters.proofs.Between.{clear_pass}
use Rattle.vll_queue.specs.Shown.{Named, library_of, words_of}
use Rattle.vll_queue.specs.Pass.{IsFresh}
use Rattle.vll_queue.specs.Admission.{IsPassAt}
use Rattle.vll_queue.specs.Private.Kept.{AreOwn, IsKept}

waits_alone : (s : Status) → is_waiting s ≡ true → s ≡ Waiting
waits_alone Running is = absurd (true≢false (sym is))
waits_alone Waiting is = refl
waits_alone Gone is = absurd (true≢false (sym is))

-- the first status that is not gone waits
record IsFront (ss : List Status) (t : ℕ) : Type 0 where
  waits : slice_get ss t ≡ Some Waiting
  gone : (u : ℕ) (s : Status) → u < t → slice_get ss u ≡ Some s → is_gone s ≡ true

abbrev at_place : List Status → Option ℕ → Option ℕ
at_place ss o = elim o [ None ↦ None | Some t ↦ waiting_ticket t (slice_get ss t) ]

at_next : (s : Status) (ss : List Status) (o : Option ℕ) → at_place (s ∷ ss) (option_map suc o) ≡ option_map suc (at_place ss o)
at_next s ss None = refl
at_next s ss (Some t) = by_status (slice_get ss t)
  where
    by_test : (b : Bool) → ◌≡◌ {A = Option ℕ} (cond b (Some (suc t)) None) (option_map suc (cond b (Some t) None))
    by_test true = refl
    by_test false = refl

    by_status : (o : Option Status) → waiting_ticket (suc t) o ≡ option_map suc (waiting_ticket t o)
    by_status None = refl
    by_status (Some x) = by_test (is_waiting x)

gone_of : (x : Status) → is_left x ≡ false → is_gone x ≡ true
gone_of Running is = absurd (true≢false is)
gone_of Waiting is = absurd (true≢false is)
gone_of Gone is = refl

-- a front that waits at the head of a list
front_here : (s : Status) (ss : List Status) (t : ℕ) (b : Bool) → is_waiting s ≡ b → ◌≡◌ {A = Option ℕ} (cond b (Some 0) None) (Some t) → IsFront (s ∷ ss) t
front_here s ss t true waits k = subst (IsFront (s ∷ ss)) (same_Some 0 t k) (record { waits = ap Some (waits_alone s waits); gone = λ u x low at. absurd (omega (arith, low)) })
front_here s ss t false waits k = absurd (cc k)

-- a front after a call that is gone
front_later : (s : Status) (ss : List Status) (u : ℕ) → is_left s ≡ false → IsFront ss u → IsFront (s ∷ ss) (suc u)
front_later s ss u left rest = record { waits = rest.waits; gone = below }
  where
    below : (v : ℕ) (x : Status) → v < suc u → slice_get (s ∷ ss) v ≡ Some x → is_gone x ≡ true
    below zero x low found = subst (λ (y : Status). is_gone y ≡ true) (same_Some s x found) (gone_of s left)
    below (suc v) x low found = rest.gone v x (omega (arith, low)) found

front_is : (ss : List Status) (t : ℕ) → front_among ss ≡ Some t → IsFront ss t
front_is [] t h = absurd (cc h)
front_is (s ∷ ss) t h = by_left (λ u at. front_is ss u at) (is_left s) refl
  where
    later : ((u : ℕ) → front_among ss ≡ Some u → IsFront ss u) → (o : Option ℕ) → front_among ss ≡ o → is_left s ≡ false → option_map suc o ≡ Some t → IsFront (s ∷ ss) t
    later rest None at left k = absurd (cc k)
    later rest (Some u) at left k = subst (IsFront (s ∷ ss)) (same_Some (suc u) t k) (front_later s ss u left (rest u at))

    by_left : ((u : ℕ) → front_among ss ≡ Some u → IsFront ss u) → (b : Bool) → is_left s ≡ b → IsFront (s ∷ ss) t
    by_left rest true left = front_here s ss t (is_waiting s) refl (sym (ap (at_place (s ∷ ss)) (position-first is_left s ss left)) ∙ h)
    by_left rest false left =
        later rest (front_among ss) refl left (sym (ap (at_place (s ∷ ss)) (position-next is_left s ss left) ∙ at_next s ss (position is_left ss)) ∙ h)

-- the entry that has a line and a status
queued_at : (es : List QueueEntry) (u : ℕ) (l : Line) (s : Status) → slice_get (map (λ (e : QueueEntry). e.line) es) u ≡ Some l → slice_get (map (λ (e : QueueEntry). e.status) es) u ≡ Some s
    → (d : QueueEntry) × (slice_get es u ≡ Some d) × (d.line ≡ l) × (d.status ≡ s)
queued_at [] u l s line status = absurd (cc line)
queued_at (e ∷ es) zero l s line status = (e, refl, same_Some e.line l line, same_Some e.status s status)
queued_at (e ∷ es) (suc u) l s line status = queued_at es u l s line status

pub front_may : {H : Type 0} (q : Queued H) (t : ℕ) → front_among (statuses q) ≡ Some t → MayStart (lines q) (statuses q) t
front_may q t h =
    let front = front_is (statuses q) t h in
    let e = entry_at q.entries t (within front.waits) in
    record {
      line = e.0.line;
      at = slice_get-map (λ (d : QueueEntry). d.line) q.entries t ∙ ap (option_map (λ (d : QueueEntry). d.line)) e.1;
      waits = front.waits;
      first = λ u l status low line at left. absurd (true≢false (sym (front.gone u status low at) ∙ left));
    }
  where
    below : (es : List QueueEntry) (n : ℕ) (s : Status) → slice_get (map (λ (d : QueueEntry). d.status) es) n ≡ Some s → n < length es
    below [] n s at = absurd (cc at)
    below (d ∷ es) zero s at = omega arith
    below (d ∷ es) (suc n) s at = omega (arith, below es n s at)

    within : slice_get (statuses q) t ≡ Some Waiting → t < length q.entries
    within at = below q.entries t Waiting at

pub scan_may : {H : Type 0} (place : H → ℕ → ℕ) (q : Queued H) (t : ℕ) → found_by place q ≡ Some t → MayStart (lines q) (statuses q) t
scan_may place q t h =
    let e = entry_at q.entries t (subst (λ (n : ℕ). t < n) (length-map q.entries analysed) (scanned_within (place q.hash) q.bits (map analysed q.entries) t h)) in
    record {
      line = e.0.line;
      at = slice_get-map (λ (d : QueueEntry). d.line) q.entries t ∙ ap (option_map (λ (d : QueueEntry). d.line)) e.1;
      waits =
          slice_get-map (λ (d : QueueEntry). d.status) q.entries t
          ∙ ap (option_map (λ (d : QueueEntry). d.status)) e.1
          ∙ ap Some (waits_alone e.0.status (scanned_waits (place q.hash) q.bits (map analysed q.entries) t (analysed e.0) h (seen t e.0 e.1)));
      first = λ u l status low line at left.
          let d = queued_at q.entries u l status line at in
          subst (λ (x : Line). conflict x.call.claims e.0.line.call.claims ≡ false) d.2
          (scanned_is_clear (place q.hash) q.bits (map analysed q.entries) t (analysed e.0) h (seen t e.0 e.1) u (analysed d.0) low (seen u d.0 d.1) (ap is_gone d.3 ∙ left));
    }
  where
    seen : (v : ℕ) (d : QueueEntry) → slice_get q.entries v ≡ Some d → slice_get (map analysed q.entries) v ≡ Some (analysed d)
    seen v d at = slice_get-map analysed q.entries v ∙ ap (option_map analysed) at

-- the last of the calls that a new pass has seen
at_taken : {A : Type 0} (xs : List A) (t : ℕ) (a : A) → slice_get xs t ≡ Some a → slice_get (take (suc t) xs) t ≡ Some a
at_taken [] t a at = absurd (cc at)
at_taken (x ∷ xs) zero a at = at
at_taken (x ∷ xs) (suc t) a at = at_taken xs t a at

-- a call of the queue that may begin to run, at the seat as in the queue
pub record Begins {H : Type 0} (seat : QueueShown) (q new : Queued H) (t : ℕ) : Type 0 where
  pub may : MayStart seat.lines seat.statuses t
  pub lines_same : seat.lines ≡ lines new
  pub started : new ≡ started q t

pub begins : {H : Type 0} (e : Named) (place : H → ℕ → ℕ) (seat : QueueShown) (q new : Queued H) (found : Option ℕ) (t : ℕ) → IsKept e place seat q
    → MayStart (lines q) (statuses q) t → found ≡ Some t → new ≡ started_if q found → Begins seat q new t
begins e place seat q new found t kept may some is =
    let starts : new ≡ started q t = is ∙ ap (started_if q) some in
    record {
      may = subst (λ (x : List Line × List Status). MayStart x.0 x.1 t) (λ i. (sym kept.lines_are i, sym kept.statuses_are i)) may;
      lines_same = kept.lines_are ∙ sym (lines_started q t) ∙ sym (ap lines starts);
      started = starts;
    }

-- its pass
abbrev pub IsNewPass : TableId → List Write → ℕ → List Line → PassShown → Type 0
IsNewPass table past t ls p = (l : Line) → slice_get ls t ≡ Some l → p ≡ record { table = table; pass = new_pass t l.call ls; past = past }

-- its call is the one in its line
pub given_at : {H : Type 0} {seat : QueueShown} {q new : Queued H} {t : ℕ} (table : TableId) (p : PassShown) → (b : Begins seat q new t) → IsNewPass table seat.past t seat.lines p → IsPassAt (lines new) p t
given_at {t = t} table p b is =
    let new = is b.may.line b.may.at in
    record {
      line = b.may.line;
      at = ap (λ (ls : List Line). slice_get ls t) (sym b.lines_same) ∙ b.may.at;
      ticket_is = ap (λ (x : PassShown). x.pass.ticket) new;
      call_is = ap (λ (x : PassShown). x.pass.call) new;
    }

-- a new pass of a call of the engine's own is fresh
pub new_pass_fresh : (e : Named) (table : TableId) (p : PassShown) (ls : List Line) (t : ℕ) (l : Line) (past : List Write) → table ≡ e.table → AreOwn e ls → slice_get ls t ≡ Some l
    → p ≡ record { table = table; pass = new_pass t l.call ls; past = past } → IsFresh e p
new_pass_fresh e table p ls t l past same own at is = subst (IsFresh e) (sym is) (record {
  of = record {
    same = same;
    ready = all_at (λ (x : Line). IsReady (library_of e) x.call) ls t l own.ready at;
    client = l.client;
    last = at_taken (calls_in ls) t (l.client, l.call) (slice_get-map (λ (x : Line). (x.client, x.call)) ls t ∙ ap (option_map (λ (x : Line). (x.client, x.call))) at);
  };
  no_loads = refl;
  no_stores = refl;
  no_releases = refl;
  clear = clear_pass e.base (new_pass t l.call ls);
})

pub given_fresh : {H : Type 0} {seat : QueueShown} {new : Queued H} {t : ℕ} (q : Queued H) (e : Named) (place : H → ℕ → ℕ) (words : WordsShown) (p : PassShown) → (b : Begins seat q new t) → IsKept e place seat q → words ≡ words_of e
    → IsNewPass words.table seat.past t seat.lines p → IsFresh e p
given_fresh {seat = seat} {t = t} q e place words p b kept same is =
    new_pass_fresh e words.table p seat.lines t b.may.line seat.past (ap (λ (w : WordsShown). w.table) same) (subst (AreOwn e) (sym kept.lines_are) kept.own) b.may.at (is b.may.line b.may.at)
