use Rattle.std.proofs.Common.{Bor, ◌≡◌, ℕ, zero, suc, ◌<◌, List, [], ◌∷◌, length, Option, Some, slice_get, slice_set, slice_index, sym, ap, subst, ◌∙◌}
use Rattle.std.specs.Option.{option_map}
use Rattle.std.proofs.lemmas.Option.{same_Some}
use Rattle.vll_record.specs.declared.claim.Claim.{Claim}
use Rattle.vll_proc.specs.Cells.{Holds}
use Rattle.vll_proc.specs.Made.{IsCallOf}
use Rattle.vll_proc.specs.Headline.Serial.{applied, applied_at, apply}
use Rattle.vll_proc.specs.WellFormed.{IsWellFormed}
use Rattle.vll_proc.specs.declared.call.Call.{Call}
use Rattle.vll_proc.specs.declared.call.Reply.{Reply}
use Rattle.vll_proc.specs.declared.syntax.Proc.{Proc}
use Rattle.vll_check.specs.Calls.{IsReady}
use Rattle.vll_check.specs.Headline.Catalog.{Catalog}
use Rattle.vll_check.specs.Catalog.{IsCatalog}
use Rattle.vll_check.proofs.Fitting.{ready_well}
use Rattle.vll_core.specs.State.{is_aborted}
use Rattle.vll_core.proofs.SerialRun.{length_before}
use Rattle.vll_counters.specs.declared.views.PassView.{PassView}
use Rattle.vll_counters.specs.Shown.{WordsShown, PassShown, library_of}
use Rattle.vll_counters.specs.Steps.{records_before_pass, reply_of_pass}
use Rattle.vll_counters_tests.proofs.words.change.Goals as goal

-- the procedure that the library has for a call that is ready
record HasProcedure (library : Catalog) (call : Call) (procedure : Proc) : Type 0 where
  pub found : slice_get library.procs call.number ≡ Some procedure
  pub formed : IsWellFormed procedure
  pub made : IsCallOf library.records procedure call

has_procedure : (library : Catalog) (call : Call) (answer : Option (Bor Proc)) (procedure : Bor Proc) → IsCatalog library → IsReady library call
    → option_map (λ (b : Bor Proc). b.now) answer ≡ slice_get library.procs call.number → answer ≡ Some procedure → HasProcedure library call procedure.now
has_procedure library call answer procedure catalog ready at is =
    let calls = ready_well library call catalog ready in
    let found : slice_get library.procs call.number ≡ Some procedure.now = sym at ∙ ap (option_map (λ (b : Bor Proc). b.now)) is in
    let same : calls.procedure ≡ procedure.now = same_Some calls.procedure procedure.now (sym calls.found ∙ found) in
    record { found = found; formed = subst IsWellFormed same calls.formed; made = subst (λ (p : Proc). IsCallOf library.records p call) same calls.made }

-- the result of its body on the one record that it claims
body_ran : (w : WordsShown) (library : Catalog) (p : PassView) (call : Call) (c : Claim) (procedure : Proc) (cells next : List ℕ) (reply : Reply) → library_of w ≡ library → HasProcedure library call procedure → p.call ≡ call
    → call.claims ≡ c ∷ [] → c.id < length w.base.records → slice_index cells 0 ≡ slice_index (records_before_pass w.base p) c.id
    → ((records : List ℕ) → IsCallOf (length records) procedure call → Holds cells call.claims records → reply ≡ (applied procedure call records).reply)
    → ((records : List ℕ) → IsCallOf (length records) procedure call → Holds cells call.claims records → Holds next call.claims (applied procedure call records).records)
    → (reply_of_pass w.base p ≡ reply) × (slice_index next 0 ≡ slice_index (apply w.base.procs p.call (records_before_pass w.base p)).records c.id)
body_ran w library p call c procedure cells next reply known has same only low held replies moves =
    let now = records_before_pass w.base p in
    let many : length now ≡ length w.base.records = length_before w.base.procs p.seen w.base.records p.ticket in
    let made : IsCallOf (length now) procedure call = subst (λ (n : ℕ). IsCallOf n procedure call) (sym (many ∙ ap (λ (l : Catalog). l.records) known)) has.made in
    let holds : Holds cells call.claims now = subst (λ (cs : List Claim). Holds cells cs now) (sym only) (only_cell cells now (subst (λ (n : ℕ). c.id < n) (sym many) low) held) in
    let found : slice_get w.base.procs p.call.number ≡ Some procedure = (λ i. slice_get (known i).procs (same i).number) ∙ has.found in (
      (λ i. (applied_at (found i) (same i) now).reply) ∙ sym (replies now made holds),
      (moves now made holds 0 c (ap (λ (cs : List Claim). slice_get cs 0) only)).1 ∙ sym (λ i. slice_index (applied_at (found i) (same i) now).records c.id),
    )
  where
    only_cell : (cells records : List ℕ) → c.id < length records → slice_index cells 0 ≡ slice_index records c.id → Holds cells (c ∷ []) records
    only_cell cells records low is zero d at = subst (λ (x : Claim). (x.id < length records) × (slice_index cells 0 ≡ slice_index records x.id)) (same_Some c d at) (low, is)
    only_cell cells records low is (suc k) d at = absurd (cc at)

pub run-requires-clause-formed : goal.run-requires-clause-formed
run-requires-clause-formed g c = (has_procedure c.args.library.now c.args.call.now c.proc.result c.in-Some.procedure c.proc.ensures.catalog c.requires.ready c.proc.ensures.procedure c.in-Some.is).formed

pub run-requires-clause-made : goal.run-requires-clause-made
run-requires-clause-made g c = (_, (has_procedure c.args.library.now c.args.call.now c.proc.result c.in-Some.procedure c.proc.ensures.catalog c.requires.ready c.proc.ensures.procedure c.in-Some.is).made)

pub store-requires-clause-commits : goal.store-requires-clause-commits
store-requires-clause-commits g c =
    let has = has_procedure c.args.library.now c.args.call.now c.proc.result c.in-Some.procedure c.proc.ensures.catalog c.requires.ready c.proc.ensures.procedure c.in-Some.is in
    let cell : slice_index c.put.new.self 0 ≡ c.load.result = ap (λ (cells : List ℕ). slice_index cells 0) (c.put.ensures ∙ ap (λ (cells : List ℕ). slice_set cells 0 c.load.result) c.new-frame.ensures) in
    let ran = body_ran c.args.words.now c.args.library.now c.args.pass.now.pass c.args.call.now c.args.claim.now c.in-Some.procedure.now c.put.new.self c.run.new.self c.run.result c.requires.library has c.requires.fresh.0 c.requires.claim c.requires.there (cell ∙ c.load.ensures.value.serial) c.run.ensures.reply c.run.ensures.cells in
    ap (λ (s : PassShown). is_aborted (reply_of_pass c.args.words.now.base s.pass)) c.load.ensures.pass ∙ ap is_aborted (ran.0 ∙ c.in-Committed.is)

pub store-requires-clause-value : goal.store-requires-clause-value
store-requires-clause-value g c =
    let has = has_procedure c.args.library.now c.args.call.now c.proc.result c.in-Some.procedure c.proc.ensures.catalog c.requires.ready c.proc.ensures.procedure c.in-Some.is in
    let cell : slice_index c.put.new.self 0 ≡ c.load.result = ap (λ (cells : List ℕ). slice_index cells 0) (c.put.ensures ∙ ap (λ (cells : List ℕ). slice_set cells 0 c.load.result) c.new-frame.ensures) in
    let ran = body_ran c.args.words.now c.args.library.now c.args.pass.now.pass c.args.call.now c.args.claim.now c.in-Some.procedure.now c.put.new.self c.run.new.self c.run.result c.requires.library has c.requires.fresh.0 c.requires.claim c.requires.there (cell ∙ c.load.ensures.value.serial) c.run.ensures.reply c.run.ensures.cells in
    c.get.ensures ∙ ran.1 ∙ ap (λ (s : PassShown). slice_index (apply c.args.words.now.base.procs s.pass.call (records_before_pass c.args.words.now.base s.pass)).records c.args.claim.now.id) (sym c.load.ensures.pass)
