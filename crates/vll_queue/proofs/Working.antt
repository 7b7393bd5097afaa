-- A pass's loads, body and stores: what its frame holds, and what a call that was executed has done.
use Rattle.std.proofs.Common.{Bor, ◌≡◌, ℕ, ◌+◌, ◌<◌, ◌≤◌, ◌==◌, ◌&&◌, ◌||◌, Bool, true, false, List, [], ◌∷◌, ◌++◌, All, length, filter, Option, Some, None, slice_get, slice_set, slice_index, refl, sym, ap, subst, ◌∙◌}
use Rattle.std.specs.Option.{option_map}
use Rattle.std.proofs.lemmas.Bool.{cond-true}
use Rattle.std.proofs.lemmas.List.{append-nil}
use Rattle.std.proofs.lemmas.List.Elements.{filter-append}
use Rattle.atomic_table.specs.Seated.{TableId}
use Rattle.vll_record.specs.declared.claim.Claim.{Claim}
use Rattle.vll_record.specs.declared.claims.TheConstants.{MOST_CLAIMS}
use Rattle.vll_record.specs.Headline.Claim.{is_write}
use Rattle.vll_proc.specs.Cells.{Holds}
use Rattle.vll_proc.specs.declared.call.Call.{Call}
use Rattle.vll_proc.specs.declared.call.Reason.{Reason}
use Rattle.vll_proc.specs.declared.call.Reply.{Reply}
use Rattle.vll_proc.specs.declared.call.Reply.TheVariants.{Aborted}
use Rattle.vll_proc.specs.declared.syntax.Proc.{Proc}
use Rattle.vll_proc.specs.Made.{IsCallOf}
use Rattle.vll_proc.specs.Headline.Serial.{Made, answer, applied, applied_at, apply, before}
use Rattle.vll_proc.specs.WellFormed.{IsWellFormed}
use Rattle.vll_check.specs.Calls.{IsReady}
use Rattle.vll_check.specs.Headline.Catalog.{Catalog}
use Rattle.vll_check.specs.Catalog.{IsCatalog}
use Rattle.vll_check.proofs.Fitting.{ready_well}
use Rattle.vll_core.specs.Headline.State.{Base}
use Rattle.vll_core.specs.State.{is_aborted, writes}
use Rattle.vll_core.specs.Private.Execution.{HoldsFirst}
use Rattle.vll_core.proofs.SerialRun.{length_before}
use Rattle.vll_core.proofs.AtWork.{loading_next, holds_all, procedure_ready}
use Rattle.vll_core.proofs.SerialRun.{length_before}
use Rattle.vll_core.proofs.Tests.{eq_same}
use Rattle.vll_counters.specs.declared.views.PassView.{PassView}
use Rattle.vll_counters.specs.Shown.{PassShown, WordsShown, passed}
use Rattle.vll_counters.specs.Steps.{loaded, records_before_pass, reply_of_pass}
use Rattle.vll_queue.specs.Pass.{DoneShown, IsOf, IsFresh, IsDone}
use Rattle.vll_queue.specs.Private.Worked.{all_loaded, all_stored}
use Rattle.vll_queue.specs.Shown.{Named, library_of, words_of}

-- ---- loops over claims

-- the claim that the loop gets next follows those it has got
pub next_at : (yielded rest left all : List Claim) (c : Claim) (n : ℕ) → yielded ++ rest ≡ all → rest ≡ c ∷ left → n ≡ length yielded → slice_get all n ≡ Some c
next_at yielded rest left all c n is next count =
    (λ i. slice_get (sym is i) (count i)) ∙ ap (λ (cs : List Claim). slice_get (yielded ++ cs) (length yielded)) next ∙ behind yielded
  where
    behind : (cs : List Claim) → slice_get (cs ++ c ∷ left) (length cs) ≡ Some c
    behind [] = refl
    behind (d ∷ cs) = behind cs

-- the number of Write claims before a Write claim is its number among the Write claims
pub next_write : (yielded rest left all : List Claim) (c : Claim) → yielded ++ rest ≡ all → rest ≡ c ∷ left → is_write c ≡ true → slice_get (filter is_write all) (length (filter is_write yielded)) ≡ Some c
next_write yielded rest left all c is next writes =
    ap (λ (cs : List Claim). slice_get cs (length (filter is_write yielded)))
    (ap (filter is_write) (sym is ∙ ap (λ (cs : List Claim). yielded ++ cs) next) ∙ filter-append is_write yielded (c ∷ left)
    ∙ ap (λ (cs : List Claim). filter is_write yielded ++ cs) (cond-true (is_write c) _ _ writes))
    ∙ behind (filter is_write yielded)
  where
    behind : (cs : List Claim) → slice_get (cs ++ c ∷ filter is_write left) (length cs) ≡ Some c
    behind [] = refl
    behind (d ∷ cs) = behind cs

-- the next value goes into the cell of its claim
pub held_next : (cells : List ℕ) (claims : List Claim) (records : List ℕ) (n value : ℕ) (c : Claim) → length claims ≤ MOST_CLAIMS → n ≤ length claims → length cells ≡ MOST_CLAIMS → HoldsFirst n cells claims records
    → slice_get claims n ≡ Some c → value ≡ slice_index records c.id → HoldsFirst (n + 1) (slice_set cells n value) claims records
held_next cells claims records n value c few within whole first at is =
    (loading_next claims records (record { loads = n; stores = 0; releases = 0; frame = cells; reply = None }) (record { loads = n + 1; stores = 0; releases = 0; frame = slice_set cells n value; reply = None })
    value c few (record { within = within; whole = whole; loaded = first; pending = refl }) at is refl refl refl).loaded

-- once the loop has got all claims, each cell has its record's value
pub held_all : (base : Base) (p : PassView) (yielded rest claims : List Claim) (cells : List ℕ) (n : ℕ) → yielded ++ rest ≡ claims → rest ≡ [] → n ≡ length yielded → All (λ (c : Claim). c.id < length base.records) claims
    → HoldsFirst n cells claims (records_before_pass base p) → Holds cells claims (records_before_pass base p)
held_all base p yielded rest claims cells n is none count there first =
    let all : yielded ≡ claims = sym (append-nil yielded) ∙ ap (λ (cs : List Claim). yielded ++ cs) (sym none) ∙ is in
    holds_all n cells claims (records_before_pass base p) (count ∙ ap length all)
    (subst (λ (k : ℕ). All (λ (c : Claim). c.id < k) claims) (sym (length_before base.procs p.seen base.records p.ticket)) there) first

-- one more load, whatever it found
pub loaded_more : (first old new : PassShown) (n value : ℕ) → old ≡ passed first (record first.pass { loads = n; loaded = old.pass.loaded }) → new ≡ passed old (loaded value old.pass)
    → new ≡ passed first (record first.pass { loads = n + 1; loaded = new.pass.loaded })
loaded_more first old new n value was is =
    let step : new ≡ passed first (record first.pass { loads = n + 1; loaded = old.pass.loaded ++ value ∷ [] }) = is ∙ ap (λ (s : PassShown). passed s (record s.pass { loads = s.pass.loads + 1; loaded = old.pass.loaded ++ value ∷ [] })) was in
    step ∙ ap (λ (values : List ℕ). passed first (record first.pass { loads = n + 1; loaded = values })) (sym (ap (λ (s : PassShown). s.pass.loaded) step))

-- ---- the call of a pass of the engine

-- each claim is of a record that is there
pub claims_there : (e : Named) (w : WordsShown) (table : TableId) (p : PassView) (call : Call) → IsCatalog (library_of e) → IsOf e table p → w ≡ words_of e → p.call ≡ call
    → All (λ (c : Claim). c.id < length w.base.records) call.claims
claims_there e w table p call catalog of words same =
    subst (λ (x : WordsShown × Call). All (λ (c : Claim). c.id < length x.0.base.records) x.1.claims) (λ i. (sym words i, same i)) (ready_well (library_of e) p.call catalog of.ready).within

-- the procedure that the library has for it
pub record HasProcedure (library : Catalog) (call : Call) (procedure : Proc) : Type 0 where
  pub found : slice_get library.procs call.number ≡ Some procedure
  pub formed : IsWellFormed procedure
  pub made : IsCallOf library.records procedure call

pub has_procedure : (e : Named) (library : Catalog) (table : TableId) (p : PassView) (call : Call) (answer : Option (Bor Proc)) (procedure : Bor Proc) → IsCatalog library → IsOf e table p → library ≡ library_of e → p.call ≡ call
    → option_map (λ (b : Bor Proc). b.now) answer ≡ slice_get library.procs call.number → answer ≡ Some procedure → HasProcedure library call procedure.now
has_procedure e library table p call answer procedure catalog of known same at is =
    let found : slice_get library.procs call.number ≡ Some procedure.now = sym at ∙ ap (option_map (λ (b : Bor Proc). b.now)) is in
    let ready = procedure_ready library call procedure.now catalog (subst (λ (x : Catalog × Call). IsReady x.0 x.1) (λ i. (sym known i, same i)) of.ready) found in
    record { found = found; formed = ready.0; made = ready.1 }

-- the result of its body on the records before its ticket: its reply, and the cells after it
pub record Ran (base : Base) (p : PassView) (call : Call) (cells : List ℕ) (reply : Reply) : Type 0 where
  pub reply_is : reply_of_pass base p ≡ reply
  pub holds : Holds cells call.claims (apply base.procs p.call (records_before_pass base p)).records

pub body_ran : (e : Named) (w : WordsShown) (library : Catalog) (p : PassView) (call : Call) (procedure : Proc) (cells next : List ℕ) (reply : Reply) → w ≡ words_of e → library ≡ library_of e → p.call ≡ call
    → HasProcedure library call procedure → Holds cells call.claims (records_before_pass w.base p)
    → ((records : List ℕ) → IsCallOf (length records) procedure call → Holds cells call.claims records → reply ≡ (applied procedure call records).reply)
    → ((records : List ℕ) → IsCallOf (length records) procedure call → Holds cells call.claims records → Holds next call.claims (applied procedure call records).records)
    → Ran w.base p call next reply
body_ran e w library p call procedure cells next reply words known same has held replies moves =
    let now = records_before_pass w.base p in
    let many : library.records ≡ length now = ap (λ (c : Catalog). c.records) known ∙ sym (ap (λ (x : WordsShown). length x.base.records) words) ∙ sym (length_before w.base.procs p.seen w.base.records p.ticket) in
    let made = subst (λ (n : ℕ). IsCallOf n procedure call) many has.made in
    let found : slice_get w.base.procs p.call.number ≡ Some procedure = (λ i. slice_get (words i).base.procs (same i).number) ∙ sym (ap (λ (c : Catalog). slice_get c.procs call.number) known) ∙ has.found in record {
      reply_is = (λ i. (applied_at (found i) (same i) now).reply) ∙ sym (replies now made held);
      holds = subst (λ (x : Option Proc × Call). Holds next call.claims (applied_at x.0 x.1 now).records) (λ i. (sym found i, sym same i)) (moves now made held);
    }

-- the reply of a pass's call is that of the serial run on what it has seen
serial_reply : (e : Named) (table : TableId) (p : PassView) (reply : Reply) → IsOf e table p → reply_of_pass e.base p ≡ reply → answer e.base.procs p.seen e.base.records p.ticket ≡ Some reply
serial_reply e table p reply of is =
    let answers : answer e.base.procs p.seen e.base.records p.ticket ≡ Some (reply_of_pass e.base p) =
    ap (λ (o : Option Made). (elim o as (λ _. List ℕ → Option Reply) [ None ↦ λ now. None | Some made ↦ λ now. Some (apply e.base.procs made.1 now).reply ]) (before e.base.procs p.seen e.base.records p.ticket)) of.last in
    answers ∙ ap Some is

-- a call that aborted is done once it has made all its loads
pub done_aborted : (e : Named) (w : WordsShown) (old : PassShown) (new : DoneShown) (values : List ℕ) (why : Reason) → IsFresh e old → w ≡ words_of e → reply_of_pass w.base old.pass ≡ Aborted why
    → new ≡ record { table = old.table; pass = all_loaded values old.pass; reply = Aborted why } → IsDone e new
done_aborted e w old new values why fresh words reply is =
    let replied : reply_of_pass e.base old.pass ≡ Aborted why = ap (λ (v : WordsShown). reply_of_pass v.base old.pass) (sym words) ∙ reply in
    subst (IsDone e) (sym is) (record {
      of = record { same = fresh.of.same; ready = fresh.of.ready; client = fresh.of.client; last = fresh.of.last };
      stored = (λ i. eq_same (length old.pass.call.claims) (length old.pass.call.claims) refl i && (is_aborted (replied i) || (old.pass.stores == length (writes old.pass.call))));
      no_releases = fresh.no_releases;
      reply = serial_reply e old.table old.pass (Aborted why) fresh.of replied;
    })

-- a call that did not is done once it has made all its stores too
pub done_committed : (e : Named) (w : WordsShown) (old : PassShown) (new : DoneShown) (values : List ℕ) (reply : Reply) → IsFresh e old → w ≡ words_of e → reply_of_pass w.base old.pass ≡ reply
    → new ≡ record { table = old.table; pass = all_stored (all_loaded values old.pass); reply = reply } → IsDone e new
done_committed e w old new values reply fresh words right is =
    let replied : reply_of_pass e.base old.pass ≡ reply = ap (λ (v : WordsShown). reply_of_pass v.base old.pass) (sym words) ∙ right in
    subst (IsDone e) (sym is) (record {
      of = record { same = fresh.of.same; ready = fresh.of.ready; client = fresh.of.client; last = fresh.of.last };
      stored = all_made (length old.pass.call.claims) (length (writes old.pass.call)) (is_aborted (reply_of_pass e.base old.pass));
      no_releases = fresh.no_releases;
      reply = serial_reply e old.table old.pass reply fresh.of replied;
    })
  where
    either : (b : Bool) → (b || true) ≡ true
    either true = refl
    either false = refl

    all_made : (n m : ℕ) (aborted : Bool) → ((n == n) && (aborted || (m == m))) ≡ true
    all_made n m aborted = (λ i. eq_same n n refl i && (aborted || eq_same m m refl i)) ∙ either aborted
