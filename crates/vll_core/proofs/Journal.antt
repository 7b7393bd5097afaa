-- What a machine reports of its entered calls: the status of each, and the lines of the journal.
use Rattle.std.proofs.Common.{◌≡◌, ℕ, zero, suc, ◌+◌, ◌<◌, Bool, true, false, List, [], ◌∷◌, length, map, refl, sym, ap, zero-add, add-zero, ◌∙◌, arith, slice_get, Option, Some, None, is_some, if◌then◌else◌}
use Rattle.vll_core.proofs.Common.{enumerate_from, option_map, eqb-true, same_Some, slice_get-map, Reply, Made, apply, before, Line, Inside, Status, Execution, is_gone, Base, Entered, reply_at, QueueEntry, lines, statuses, has_reply, Shown, opening_of, shown, entered_of, entries_of, IsMachine}
use Rattle.vll_core.specs.Journal.{reply_of, line_of, journal_of}
use Rattle.vll_core.proofs.Tests.{both_true}
use Rattle.vll_core.proofs.Kept.{IsEntryKept}
use Rattle.vll_core.proofs.Reached.{kept_reached}
use Rattle.vll_core.proofs.MachineState.{statuses_shown, entry_shown, made_shown}

-- the status of a ticket's call
pub status_shown : {H : Type 0} {places : H → ℕ → ℕ} (c : Inside H) (s : Shown H) (t : ℕ) → IsMachine places c → shown c ≡ s → slice_get (statuses c.queue) t ≡ option_map (λ (e : Entered). e.status) (slice_get s.state.entries t)
status_shown {H} c s t core is =
    ap (λ (ss : List Status). slice_get ss t) (sym (statuses_shown c.queue.entries c.execution.items core.works))
    ∙ slice_get-map (λ (e : Entered). e.status) (entries_of c.queue.entries c.execution.items) t
    ∙ ap (λ (x : Shown H). option_map (λ (e : Entered). e.status) (slice_get x.state.entries t)) is

-- all loads of a call that is gone are made
gone_loads : (o : Base) (now : List ℕ) (e : Entered) → IsEntryKept o now e → is_gone e.status ≡ true → e.loads ≡ length e.call.claims
gone_loads o now e kept gone =
    let released = kept.gone gone in
    let loads = kept.loads in
    by_claims (length e.call.claims) refl
  where
    by_claims : (n : ℕ) → length e.call.claims ≡ n → e.loads ≡ length e.call.claims
    by_claims zero none = let loads = kept.loads in omega (arith, loads, none)
    by_claims (suc n) some =
        let released = kept.gone gone in
        let began : 0 < e.releases = omega (arith, released, some) in
        eqb-true e.loads (length e.call.claims) (both_true _ _ (kept.released began)).0

-- a line has a reply exactly where its call is gone
has_reply_at : (es : List QueueEntry) (t : ℕ) (e : QueueEntry)
    → map has_reply (map (λ (d : QueueEntry). d.line) es) ≡ map is_gone (map (λ (d : QueueEntry). d.status) es) → slice_get es t ≡ Some e → is_some e.line.reply ≡ is_gone e.status
has_reply_at [] t e same at = absurd (cc at)
has_reply_at (d ∷ es) zero e same at = rw (← same_Some d e at) (let h : has_reply d.line ≡ is_gone d.status = cc same in h)
has_reply_at (d ∷ es) (suc t) e same at = has_reply_at es t e (cc same) at

no_reply : (r : Option Reply) → is_some r ≡ false → r ≡ None
no_reply None none = refl
no_reply (Some a) none = absurd (cc none)

-- the reply on a line is that of the plain machine
reply_shown : {H : Type 0} {places : H → ℕ → ℕ} (c : Inside H) (t : ℕ) (e : QueueEntry) (w : Execution) → IsMachine places c → slice_get c.queue.entries t ≡ Some e → slice_get c.execution.items t ≡ Some w
    → e.line.reply ≡ reply_of (shown c).base (shown c).state t (entered_of e w)
reply_shown {H} {places} c t e w core at has = by_status (is_gone e.status) refl
  where
    base : Base
    base = record { procs = c.library.value.procs; records = c.opening.value.items }

    by_status : (gone : Bool) → is_gone e.status ≡ gone → e.line.reply ≡ (if gone then Some (reply_at (shown c).base (shown c).state t (entered_of e w)) else None)
    by_status true gone =
        let kept = (kept_reached (opening_of places (shown c)) (shown c).state core.reached).entries t (entered_of e w) (entry_shown c.queue.entries c.execution.items t e w at has) in
        let loads = gone_loads (shown c).base _ (entered_of e w) kept gone in
        core.replied t e w at has gone ∙ (core.at_work t e w at has).ran loads
        ∙ ap (λ (made : List Made). Some (apply c.library.value.procs e.line.call (before c.library.value.procs made c.opening.value.items t)).reply) (sym (made_shown c.queue.entries c.execution.items core.works))
    by_status false left = no_reply e.line.reply (has_reply_at c.queue.entries t e core.queue.answered at ∙ left)

-- lines, each determined by its ticket and entry
lines_are : (f : ℕ × Entered → Line) (n : ℕ) (es : List QueueEntry) (ws : List Execution) → length ws ≡ length es
    → ((t : ℕ) (e : QueueEntry) (w : Execution) → slice_get es t ≡ Some e → slice_get ws t ≡ Some w → e.line ≡ f (n + t, entered_of e w))
    → map (λ (e : QueueEntry). e.line) es ≡ map f (enumerate_from n (entries_of es ws))
lines_are f n [] ws same are = refl
lines_are f n (e ∷ es) [] same are = absurd (omega (arith, same))
lines_are f n (e ∷ es) (w ∷ ws) same are =
    let first : e.line ≡ f (n, entered_of e w) = are 0 e w refl refl ∙ ap (λ m. f (m, entered_of e w)) (add-zero n) in
    let rest = lines_are f (n + 1) es ws (omega (arith, same)) (λ t d v at has. are (suc t) d v at has ∙ ap (λ m. f (m, entered_of d v)) (next t)) in
    cc (first, rest)
  where
    next : (t : ℕ) → n + suc t ≡ (n + 1) + t
    next t = omega arith

-- a line with another reply
abbrev with_reply : Line → Option Reply → Line
with_reply l r = record l { reply = r }

-- the journal
pub lines_shown : {H : Type 0} {places : H → ℕ → ℕ} (c : Inside H) (s : Shown H) → IsMachine places c → shown c ≡ s → lines c.queue ≡ journal_of s.base s.state
lines_shown {H} c s core is =
    lines_are (line_of (shown c).base (shown c).state) 0 c.queue.entries c.execution.items core.works
    (λ t e w at has. ap (with_reply e.line) (reply_shown c t e w core at has) ∙ ap (λ m. line_of (shown c).base (shown c).state (m, entered_of e w)) (sym (zero-add t)))
    ∙ ap (λ (x : Shown H). journal_of x.base x.state) is
