-- The invariant of the lock's type holds when a call begins to run and when one ends.
use Rattle.std.proofs.Common.{◌≡◌, ℕ, zero, suc, ◌<◌, List, [], ◌∷◌, map, Option, Some, None, slice_get, slice_set, refl, sym, ap, ◌∙◌, subst}
use Rattle.std.proofs.lemmas.List.Elements.{All-set}
use Rattle.vll_proc.specs.declared.call.Reply.{Reply}
use Rattle.vll_proc.specs.Headline.Serial.{Made, apply, before}
use Rattle.vll_check.specs.Calls.{IsReady}
use Rattle.vll_sca.specs.declared.status.Status.{Status}
use Rattle.vll_sca.specs.declared.status.Status.TheVariants.{Running, Gone}
use Rattle.vll_core.specs.declared.line.Line.{Line}
use Rattle.vll_core.specs.Queue.{QueueEntry, Queued, lines, statuses, changed_at, started, finished}
use Rattle.vll_core.proofs.Places.{all_at, get_set}
use Rattle.vll_core.proofs.QueueLaws.{lines_started, statuses_started, statuses_finished}
use Rattle.vll_core.proofs.Entries.{changed_later}
use Rattle.vll_counters.specs.declared.views.PassView.{PassView}
use Rattle.vll_counters.specs.Written.{Write}
use Rattle.vll_counters.specs.Shown.{QueueShown, after, queue_view, with_pass_given}
use Rattle.vll_counters.specs.declared.views.TurnView.{TurnView}
use Rattle.vll_counters.specs.Steps.{finished as ended, reply_of_pass, answered, pass_given}
use Rattle.vll_counters.specs.Told.{KnowsPass}
use Rattle.vll_queue.specs.Shown.{Named, library_of}
use Rattle.vll_queue.specs.Pass.{DoneShown, IsOf, IsReply}
use Rattle.vll_queue.specs.Headline.Found.{AreFoundThere}
use Rattle.vll_queue.specs.Private.Kept.{AreOwn, IsKept}
use Rattle.vll_queue.specs.Replied.{HasReply}
use Rattle.vll_queue.proofs.There.{calls_replied}

same_some : {A : Type 0} (a b : A) → ◌≡◌ {A = Option A} (Some a) (Some b) → a ≡ b
same_some {A = A} a b h = ap (λ (o : Option A). elim o [ None ↦ a | Some x ↦ x ]) h

-- the lines after a call is gone: its own has the reply
abbrev line_of : QueueEntry → Line
line_of e = e.line

abbrev gone_with : Reply → QueueEntry → QueueEntry
gone_with reply e = record { line = record e.line { reply = Some reply }; status = Gone }

abbrev with_reply : Reply → Line → Line
with_reply reply l = record l { reply = Some reply }

lines_gone : (es : List QueueEntry) (t : ℕ) (reply : Reply) (l : Line) → slice_get (map line_of es) t ≡ Some l
    → map line_of (changed_at es t (gone_with reply)) ≡ slice_set (map line_of es) t (with_reply reply l)
lines_gone [] t reply l at = refl
lines_gone (e ∷ es) zero reply l at = ap (λ (x : Line). with_reply reply x ∷ map line_of es) (same_some e.line l at)
lines_gone (e ∷ es) (suc t) reply l at =
    sym (ap (λ (ds : List QueueEntry). map line_of ds) (changed_later e es t (gone_with reply)))
    ∙ ap (λ (xs : List Line). e.line ∷ xs) (lines_gone es t reply l at)

pub lines_finished : {H : Type 0} (q : Queued H) (t : ℕ) (reply : Reply) (l : Line) → slice_get (lines q) t ≡ Some l → lines (finished q t reply) ≡ slice_set (lines q) t (with_reply reply l)
lines_finished q t reply l at = lines_gone q.entries t reply l at

-- the line of the pass that has come
line_of_pass : {H : Type 0} (e : Named) (place : H → ℕ → ℕ) (old : QueueShown) (q : Queued H) (p : PassView) (t : ℕ) → IsKept e place old q → (knows : KnowsPass (queue_view old) p) → p.ticket ≡ t
    → slice_get (lines q) t ≡ Some knows.line
line_of_pass e place old q p t kept knows ticket = ap (λ (ls : List Line). slice_get ls t) (sym kept.lines_are) ∙ ap (λ (n : ℕ). slice_get old.lines n) (sym ticket) ∙ knows.at

-- the reply of a pass is that of the serial run on what it has seen
pub reply_is : (e : Named) (d : DoneShown) → (of : IsOf e d.table d.pass) → IsReply e d → reply_of_pass e.base d.pass ≡ d.reply
reply_is e d of is = same_some (reply_of_pass e.base d.pass) d.reply (sym (ap (λ (o : Option Made). (elim o as (λ _. List ℕ → Option Reply) [ None ↦ λ now. None | Some made ↦ λ now. Some (apply e.base.procs made.1 now).reply ]) (before e.base.procs d.pass.seen e.base.records d.pass.ticket)) of.last) ∙ is)

-- lines of the engine's own with one of them changed but for its reply
own_set : (e : Named) (ls : List Line) (t : ℕ) (l : Line) (reply : Reply) → AreOwn e ls → slice_get ls t ≡ Some l → AreOwn e (slice_set ls t (with_reply reply l))
own_set e ls t l reply own at = record {
  ready = All-set (λ (x : Line). IsReady (library_of e) x.call) ls t (with_reply reply l) (all_at (λ (x : Line). IsReady (library_of e) x.call) ls t l own.ready at) own.ready;
  clients = All-set (λ (x : Line). x.client < e.clients) ls t (with_reply reply l) (all_at (λ (x : Line). x.client < e.clients) ls t l own.clients at) own.clients;
  found = subst (AreFoundThere e.base) (sym (calls_replied ls t l reply at)) own.found;
}

-- the pass that has come ends its call, in the queue as at the seat
pub kept_finished : {H : Type 0} (e : Named) (place : H → ℕ → ℕ) (old new : QueueShown) (past : List Write) (q : Queued H) (p : PassView) (t : ℕ) (reply : Reply) → IsKept e place old q
    → KnowsPass (queue_view old) p → p.ticket ≡ t → reply_of_pass e.base p ≡ reply → new ≡ record (after old (ended e.base p (queue_view old))) { past = past } → IsKept e place new (finished q t reply)
kept_finished e place old new past q p t reply kept knows ticket right is =
    let here = line_of_pass e place old q p t kept knows ticket in
    subst (λ (s : QueueShown). IsKept e place s (finished q t reply)) (sym is) (record {
      same = kept.same;
      closed = kept.closed;
      alone = kept.alone;
      count = kept.count;
      lines_are = ap (λ (o : Option Line). elim o [ None ↦ old.lines | Some l ↦ slice_set old.lines p.ticket (answered e.base p l) ]) knows.at
          ∙ (λ i. slice_set (kept.lines_are i) (ticket i) (with_reply (right i) knows.line))
          ∙ sym (lines_finished q t reply knows.line here);
      statuses_are = (λ i. slice_set (kept.statuses_are i) (ticket i) Gone) ∙ sym (statuses_finished q t reply);
      cap = kept.cap;
      limit = kept.limit;
      bits = kept.bits;
      places = kept.places;
      own = subst (AreOwn e) (sym (lines_finished q t reply knows.line here)) (own_set e (lines q) t knows.line reply kept.own here);
    })

-- the pass of a waiting ticket is given, in the queue as at the seat
pub kept_started : {H : Type 0} (e : Named) (place : H → ℕ → ℕ) (old new : QueueShown) (q : Queued H) (t : ℕ) → IsKept e place old q → new ≡ after old (with_pass_given old t) → IsKept e place new (started q t)
kept_started e place old new q t kept is =
    let given : new ≡ record old { statuses = slice_set old.statuses t Running } = is ∙ ap (λ (turn : Option TurnView). after old (pass_given t turn (queue_view old))) kept.closed in
    subst (λ (s : QueueShown). IsKept e place s (started q t)) (sym given) (record {
      same = kept.same;
      closed = kept.closed;
      alone = kept.alone;
      count = kept.count;
      lines_are = kept.lines_are ∙ sym (lines_started q t);
      statuses_are = ap (λ (ss : List Status). slice_set ss t Running) kept.statuses_are ∙ sym (statuses_started q t);
      cap = kept.cap;
      limit = kept.limit;
      bits = kept.bits;
      places = kept.places;
      own = subst (AreOwn e) (sym (lines_started q t)) kept.own;
    })

-- the call of the pass that has come is gone then, and its line has the reply
pub pass_ended : {H : Type 0} (e : Named) (place : H → ℕ → ℕ) (old : QueueShown) (q : Queued H) (p : PassView) (t : ℕ) (reply : Reply) → IsKept e place old q → KnowsPass (queue_view old) p → p.ticket ≡ t → HasReply (finished q t reply) t reply
pass_ended e place old q p t reply kept knows ticket =
    let here = line_of_pass e place old q p t kept knows ticket in
    let runs : slice_get (statuses q) t ≡ Some Running = ap (λ (ss : List Status). slice_get ss t) (sym kept.statuses_are) ∙ ap (λ (n : ℕ). slice_get old.statuses n) (sym ticket) ∙ knows.runs in
    record {
      line = with_reply reply knows.line;
      at = ap (λ (ls : List Line). slice_get ls t) (lines_finished q t reply knows.line here) ∙ get_set (lines q) t knows.line (with_reply reply knows.line) here;
      reply_is = refl;
      gone = ap (λ (ss : List Status). slice_get ss t) (statuses_finished q t reply) ∙ get_set (statuses q) t Running Gone runs;
    }
