-- What a session learns of the entered calls as it leaves the lock.
use Rattle.std.proofs.Common.{◌≡◌, ℕ, zero, suc, ◌==◌, Bool, true, false, List, [], ◌∷◌, ◌++◌, map, length, Option, Some, None, slice_get, refl, sym, ap, ◌∙◌, subst}
use Rattle.std.specs.List.{filter}
use Rattle.std.specs.Prelude.{IfSome, is_some}
use Rattle.std.specs.Bool.{then_some}
use Rattle.std.proofs.lemmas.Bool.{false≢true}
use Rattle.std.proofs.lemmas.Option.{same_Some}
use Rattle.std.proofs.lemmas.List.{map-append, append-nil, append_cancel_left}
use Rattle.std.proofs.lemmas.List.Elements.{filter-append}
use Rattle.vll_proc.specs.declared.call.Call.{Call}
use Rattle.vll_proc.specs.declared.call.Reply.{Reply}
use Rattle.vll_proc.specs.Headline.Serial.{Made, answer}
use Rattle.vll_sca.specs.declared.status.Status.{Status}
use Rattle.vll_sca.specs.declared.status.Status.TheVariants.{Running, Waiting, Gone}
use Rattle.vll_sca.specs.Status.{is_gone}
use Rattle.vll_core.specs.declared.line.Line.{Line}
use Rattle.vll_core.specs.Headline.State.{Base}
use Rattle.vll_core.specs.Queue.{Queued, IsQueued, has_reply, lines, statuses}
use Rattle.vll_counters.specs.declared.views.SessionView.{SessionView}
use Rattle.vll_counters.specs.declared.views.QueueView.{QueueView}
use Rattle.vll_counters.specs.Headline.Views.{calls_by, calls_in}
use Rattle.vll_counters.specs.Rule.{HasSeen}
use Rattle.vll_counters.specs.Written.{Write}
use Rattle.vll_counters.specs.Shown.{QueueShown, SessionShown, queue_view, left_session}
use Rattle.vll_counters.specs.Steps.{leaving}
use Rattle.vll_counters.specs.Told.{KnowsSession, AreReplied, IsGivenOut}
use Rattle.vll_queue.specs.Private.Kept.{IsKept}
use Rattle.vll_queue.specs.Replied.{HasReply, reply_in}
use Rattle.vll_queue.specs.Headline.Sessions.{SawOwn}
use Rattle.vll_queue.specs.Sessions.{SawOthers}
use Rattle.vll_queue.specs.Shown.{Named}

pub calls_by-append : (client : ℕ) (xs ys : List Made) → calls_by client (xs ++ ys) ≡ calls_by client xs ++ calls_by client ys
calls_by-append client xs ys =
    ap (λ (l : List Made). map (λ (m : Made). m.1) l) (filter-append (λ (m : Made). m.0 == client) xs ys)
    ∙ map-append (λ (m : Made). m.1) (filter (λ (m : Made). m.0 == client) xs) (filter (λ (m : Made). m.0 == client) ys)

-- what entered after what a session has seen is of other clients
not_own : (calls : List Made) (statuses : List Status) (g : SessionView) → (h : HasSeen calls statuses g) → calls_by g.client h.begins.0 ≡ []
not_own calls statuses g h =
    append_cancel_left (calls_by g.client g.seen) (calls_by g.client h.begins.0) []
    (sym (calls_by-append g.client g.seen h.begins.0) ∙ ap (calls_by g.client) (sym h.begins.1) ∙ sym h.own ∙ sym (append-nil (calls_by g.client g.seen)))

-- a session sees all calls
pub saw_others : (calls : List Made) (statuses : List Status) (old new : SessionView) → HasSeen calls statuses old → new.client ≡ old.client → new.seen ≡ calls → SawOthers old new
saw_others calls statuses old new h client whole = record {
  client = client;
  others = h.begins.0;
  not_own = not_own calls statuses old h;
  seen = whole ∙ h.begins.1;
}

-- a session sees all calls, and a call of its own after them
pub saw_own : (calls : List Made) (statuses : List Status) (old new : SessionView) (call : Call) (ticket : ℕ) → HasSeen calls statuses old → new.client ≡ old.client
    → new.seen ≡ calls ++ (old.client, call) ∷ [] → ticket ≡ length calls → SawOwn old new call ticket
saw_own calls statuses old new call ticket h client whole last = record {
  client = client;
  others = h.begins.0;
  not_own = not_own calls statuses old h;
  seen = whole ∙ ap (λ (l : List Made). l ++ (old.client, call) ∷ []) h.begins.1;
  place = last ∙ ap length h.begins.1;
}

leaving_others : (base : Base) (q : QueueView) (given : Option ℕ) (g : SessionView) → KnowsSession base q g → SawOthers g (leaving given q g)
leaving_others base q None g knows = saw_others (calls_in q.lines) q.statuses g (leaving None q g) knows.has_seen refl refl
leaving_others base q (Some t) g knows = saw_others (calls_in q.lines) q.statuses g (leaving (Some t) q g) knows.has_seen refl refl

-- the session that came with no call has left
pub left_is : (old seat : QueueShown) (past : List Write) (g : SessionView) (given : Option ℕ) (s : SessionShown) → seat ≡ record old { session = Some g; turn = None; past = past }
    → IfSome seat.session (λ (h : SessionView). s ≡ left_session seat given h) → s ≡ record { table = old.table; session = leaving given (queue_view old) g; past = past }
left_is old seat past g None s is left = subst (λ (q : QueueShown). IfSome q.session (λ (h : SessionView). s ≡ left_session q None h)) is left
left_is old seat past g (Some t) s is left = subst (λ (q : QueueShown). IfSome q.session (λ (h : SessionView). s ≡ left_session q (Some t) h)) is left

-- it has seen all calls
pub left_seen : (old seat : QueueShown) (past : List Write) (g : SessionView) (given : Option ℕ) (s : SessionShown) → seat ≡ record old { session = Some g; turn = None; past = past }
    → IfSome seat.session (λ (h : SessionView). s ≡ left_session seat given h) → s.session.seen ≡ calls_in old.lines
left_seen old seat past g None s is left = ap (λ (x : SessionShown). x.session.seen) (left_is old seat past g None s is left)
left_seen old seat past g (Some t) s is left = ap (λ (x : SessionShown). x.session.seen) (left_is old seat past g (Some t) s is left)

pub left_others : (base : Base) (old seat : QueueShown) (past : List Write) (g : SessionView) (given : Option ℕ) (s : SessionShown) → KnowsSession base (queue_view old) g → seat ≡ record old { session = Some g; turn = None; past = past }
    → IfSome seat.session (λ (h : SessionView). s ≡ left_session seat given h) → SawOthers g s.session
left_others base old seat past g given s knows is left =
    subst (λ (x : SessionShown). SawOthers g x.session) (sym (left_is old seat past g given s is left)) (leaving_others base (queue_view old) given g knows)

-- ---- the reply that a session is given

abbrev pub gone_at : Option Status → Bool
gone_at None = false
gone_at (Some s) = is_gone s

pub gone_is : (o : Option Status) → gone_at o ≡ true → o ≡ Some Gone
gone_is None is = absurd (false≢true is)
gone_is (Some Running) is = absurd (false≢true is)
gone_is (Some Waiting) is = absurd (false≢true is)
gone_is (Some Gone) is = refl

-- a line has its reply exactly if its call is gone
pub replied_at : (ls : List Line) (ss : List Status) (t : ℕ) → map has_reply ls ≡ map is_gone ss → is_some (reply_in (slice_get ls t)) ≡ gone_at (slice_get ss t)
replied_at [] [] t same = refl
replied_at [] (s ∷ ss) t same = absurd (cc same)
replied_at (l ∷ ls) [] t same = absurd (cc same)
replied_at (l ∷ ls) (s ∷ ss) zero same = let h : has_reply l ≡ is_gone s = cc same in h
replied_at (l ∷ ls) (s ∷ ss) (suc t) same = replied_at ls ss t (let h : map has_reply ls ≡ map is_gone ss = cc same in h)

-- a reply that the queue has is one that its seat knows
pub record IsReplyAt (seat : QueueShown) (t : ℕ) (r : Option Reply) : Type 0 where
  pub same : map has_reply seat.lines ≡ map is_gone seat.statuses
  pub there : r ≡ reply_in (slice_get seat.lines t)

pub reply_at : {H : Type 0} (e : Named) (place : H → ℕ → ℕ) (seat : QueueShown) (inside q : Queued H) (t : ℕ) (r : Option Reply) → IsKept e place seat inside → inside ≡ q → IsQueued q
    → r ≡ reply_in (slice_get (lines q) t) → IsReplyAt seat t r
reply_at e place seat inside q t r kept is queued at =
    let lines_are : seat.lines ≡ lines q = kept.lines_are ∙ ap lines is in
    record {
      same = ap (λ (ls : List Line). map has_reply ls) lines_are ∙ queued.answered ∙ ap (λ (ss : List Status). map is_gone ss) (sym (kept.statuses_are ∙ ap statuses is));
      there = at ∙ ap (λ (ls : List Line). reply_in (slice_get ls t)) (sym lines_are);
    }

-- the ticket whose reply is given is gone
pub given_out : (old joined : QueueShown) (past : List Write) (g : SessionView) (t : ℕ) (r : Option Reply) (some : Bool) (given : Option ℕ) → IsReplyAt old t r → joined ≡ record old { session = Some g; turn = None; past = past }
    → some ≡ is_some r → given ≡ then_some some t → IsGivenOut joined.statuses given
given_out old joined past g t r some given there is test out u at =
    ap (λ (s : QueueShown). slice_get s.statuses u) is ∙ by_reply some (test ∙ ap is_some there.there ∙ replied_at old.lines old.statuses t there.same) (sym out ∙ at)
  where
    by_reply : (b : Bool) → b ≡ gone_at (slice_get old.statuses t) → ◌≡◌ {A = Option ℕ} (then_some b t) (Some u) → slice_get old.statuses u ≡ Some Gone
    by_reply true gone is' = subst (λ (n : ℕ). slice_get old.statuses n ≡ Some Gone) (same_Some t u is') (gone_is (slice_get old.statuses t) (sym gone))
    by_reply false gone is' = absurd (cc is')

-- the reply is that of the calls that the session has seen, made one at a time
pub reply_seen : (base : Base) (s : QueueShown) (calls : List Made) (t : ℕ) (r : Option Reply) → AreReplied base (queue_view s) → IsReplyAt s t r → calls ≡ calls_in s.lines
    → IfSome r (λ (reply : Reply). answer base.procs calls base.records t ≡ Some reply)
reply_seen base s calls t None all there whole = tt
reply_seen base s calls t (Some reply) all there whole = found (slice_get s.lines t) refl there.there
  where
    found : (o : Option Line) → slice_get s.lines t ≡ o → ◌≡◌ {A = Option Reply} (Some reply) (reply_in o) → answer base.procs calls base.records t ≡ Some reply
    found None at h = absurd (cc h)
    found (Some l) at h =
        let gone = gone_is (slice_get s.statuses t) (sym (replied_at s.lines s.statuses t there.same) ∙ ap (λ (o : Option Line). is_some (reply_in o)) at ∙ ap is_some (sym h)) in
        ap (λ (cs : List Made). answer base.procs cs base.records t) whole ∙ sym (all t l at gone) ∙ sym h

-- a reply that was given once is there ever after
pub reply_stays : (base : Base) (s : QueueShown) (g : SessionView) (t k : ℕ) (r : Option Reply) → KnowsSession base (queue_view s) g → IsReplyAt s t r → slice_get g.given k ≡ Some t → is_some r ≡ true
reply_stays base s g t k r knows there at = ap is_some there.there ∙ replied_at s.lines s.statuses t there.same ∙ ap gone_at (knows.has_seen.given k t at)

-- ---- the reply of a call that was just finished

-- the seat knows that the call of a ticket is gone, and its reply
pub record IsAnswered (seat : QueueShown) (t : ℕ) (r : Reply) : Type 0 where
  pub line : Line
  pub at : slice_get seat.lines t ≡ Some line
  pub reply_is : line.reply ≡ Some r
  pub gone : slice_get seat.statuses t ≡ Some Gone

pub answered_at : {H : Type 0} (e : Named) (place : H → ℕ → ℕ) (seat : QueueShown) (inside q : Queued H) (t u : ℕ) (r : Reply) → IsKept e place seat inside → inside ≡ q → HasReply q t r → u ≡ t → IsAnswered seat u r
answered_at e place seat inside q t u r kept is h same = record {
  line = h.line;
  at = (λ i. slice_get ((kept.lines_are ∙ ap lines is) i) (same i)) ∙ h.at;
  reply_is = h.reply_is;
  gone = (λ i. slice_get ((kept.statuses_are ∙ ap statuses is) i) (same i)) ∙ h.gone;
}

-- its ticket is gone
pub answered_out : (old joined : QueueShown) (past : List Write) (g : SessionView) (t : ℕ) (r : Reply) → IsAnswered old t r → joined ≡ record old { session = Some g; turn = None; past = past } → IsGivenOut joined.statuses (Some t)
answered_out old joined past g t r h is u at =
    ap (λ (s : QueueShown). slice_get s.statuses u) is ∙ subst (λ (n : ℕ). slice_get old.statuses n ≡ Some Gone) (same_Some t u at) h.gone

-- the reply is that of the calls that the session has seen, made one at a time
pub answered_seen : (base : Base) (s : QueueShown) (calls : List Made) (t u : ℕ) (r : Reply) → AreReplied base (queue_view s) → IsAnswered s u r → u ≡ t → calls ≡ calls_in s.lines → answer base.procs calls base.records t ≡ Some r
answered_seen base s calls t u r all h same whole =
    (λ i. answer base.procs (whole i) base.records (sym same i)) ∙ sym (all u h.line h.at h.gone) ∙ h.reply_is
