-- What entered calls have found was there, and stays so as more calls enter and calls end.
use Rattle.std.proofs.Common.{◌≡◌, ◌≤◌, ℕ, zero, suc, List, [], ◌∷◌, ◌++◌, length, Some, slice_get, slice_index, slice_set, refl, sym, ap, ◌∙◌, subst, arith, ⊎_elim}
use Rattle.std.proofs.lemmas.List.{length-append}
use Rattle.std.proofs.lemmas.Option.{same_Some, slice_get_within}
use Rattle.vll_proc.specs.declared.call.Call.{Call}
use Rattle.vll_proc.specs.declared.call.Reply.{Reply}
use Rattle.vll_proc.specs.Headline.Serial.{Made}
use Rattle.vll_check.specs.Headline.Calls.{source}
use Rattle.vll_sca.specs.declared.status.Status.{Status}
use Rattle.vll_core.specs.declared.line.Line.{Line}
use Rattle.vll_core.specs.Headline.State.{Base, catalog_of}
use Rattle.vll_core.proofs.Places.{at_push}
use Rattle.vll_core.proofs.SerialRun.{later_leave_states}
use Rattle.vll_counters.specs.declared.views.SessionView.{SessionView}
use Rattle.vll_counters.specs.Rule.{HasSeen}
use Rattle.vll_counters.specs.Headline.Views.{calls_in}
use Rattle.vll_queue.specs.Headline.Found.{FoundThere, AreFoundThere}
use Rattle.vll_queue.specs.Shown.{Named}

-- what was there is still there with more calls after
later : (base : Base) (calls more : List Made) (bound : ℕ) (call : Call) (r : ℕ) → bound ≤ length calls → FoundThere base calls bound call r → FoundThere base (calls ++ more) bound call r
later base calls more bound call r within was =
    let below = was.within in
    record {
      value = was.value;
      is = was.is;
      ticket = was.ticket;
      within = below;
      there = was.there ∙ ap (λ (l : List ℕ). slice_index l r) (sym (later_leave_states base.procs calls more base.records was.ticket (omega (arith, below, within))));
    }

-- and up to a later ticket
further : (base : Base) (calls : List Made) (bound more : ℕ) (call : Call) (r : ℕ) → bound ≤ more → FoundThere base calls bound call r → FoundThere base calls more call r
further base calls bound more call r within was =
    let below = was.within in
    record { value = was.value; is = was.is; ticket = was.ticket; within = omega (arith, below, within); there = was.there }

-- what a session has looked up was there at the next ticket
pub looked_up_next : (e : Named) (calls : List Made) (statuses : List Status) (g : SessionView) (call : Call) (r : ℕ) → HasSeen calls statuses g → FoundThere e.base g.seen (length g.seen) call r
    → FoundThere e.base calls (length calls) call r
looked_up_next e calls statuses g call r seen up =
    let more = seen.begins.0 in
    let whole = seen.begins.1 in
    let long = ap length whole ∙ length-append g.seen more in
    subst (λ (cs : List Made). FoundThere e.base cs (length calls) call r) (sym whole)
    (further e.base (g.seen ++ more) (length g.seen) (length calls) call r (omega (arith, long)) (later e.base g.seen more (length g.seen) call r (omega arith) up))

-- one more call enters
pub found_more : (base : Base) (calls : List Made) (new : Made) → AreFoundThere base calls → ((r : ℕ) → source (catalog_of base) new.1 ≡ Some r → FoundThere base calls (length calls) new.1 r)
    → AreFoundThere base (calls ++ new ∷ [])
found_more base calls new old last t m r at is = ⊎_elim
    (λ (was : slice_get calls t ≡ Some m). let below = slice_get_within calls t m was in later base calls (new ∷ []) t m.1 r (omega (arith, below)) (old t m r was is))
    (λ (now : (t ≡ length calls) × (m ≡ new)).
    let same : source (catalog_of base) new.1 ≡ Some r = ap (λ (x : Made). source (catalog_of base) x.1) (sym now.1) ∙ is in
    subst (λ (x : ℕ × Made). FoundThere base (calls ++ new ∷ []) x.0 x.1.1 r) (λ i. (sym now.0 i, sym now.1 i))
    (later base calls (new ∷ []) (length calls) new.1 r (omega arith) (last r same)))
    (at_push calls new t m at)

-- a line that gets its reply keeps its call
pub calls_replied : (ls : List Line) (t : ℕ) (l : Line) (reply : Reply) → slice_get ls t ≡ Some l → calls_in (slice_set ls t (record l { reply = Some reply })) ≡ calls_in ls
calls_replied [] t l reply at = refl
calls_replied (x ∷ ls) zero l reply at = ap (λ (y : Line). (y.client, y.call) ∷ calls_in ls) (sym (same_Some x l at))
calls_replied (x ∷ ls) (suc t) l reply at = ap (λ (calls : List Made). (x.client, x.call) ∷ calls) (calls_replied ls t l reply at)
