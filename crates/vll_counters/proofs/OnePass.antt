-- A ticket that has begun to run never may again: no call of a function of the words makes it wait.
use Rattle.std.proofs.Common.{◌≡◌, ℕ, ◌+◌, ◌≢◌, Bool, true, false, if◌then◌else◌, List, [], ◌∷◌, ◌++◌, length, length-append, refl, sym, ap, ◌∙◌, arith, Option, Some, None, slice_get, slice_set, ⊎_elim}
use Rattle.vll_counters.proofs.Common.{cases_eq, length-set, slice_get_within, same_Some, Status, Running, Waiting, Gone, is_waiting, Line, Base, get_set, get_set_other, get_pushed, TurnView, PassView, QueueView, new_line, new_status, answered, pass_given, turn_ended, MayRun, TicketsGetOnePass, GivenTicketsRun}
use Rattle.vll_counters.proofs.Places.{get_last}
use Rattle.vll_counters.specs.Queueing.{QueueCall, makes_session, joins_session, requests, gives_pass, gives_session, joins_pass, view_after, view_after_all}

-- a ticket runs or is gone, in lists of one length
record HasBegun (lines : List Line) (statuses : List Status) (t : ℕ) : Type 0 where
  pub long : length lines ≡ length statuses
  pub status : Status
  pub at : slice_get statuses t ≡ Some status
  pub begun : is_waiting status ≡ false

-- another call enters
begun_pushed : (lines : List Line) (statuses : List Status) (t : ℕ) (l : Line) (status : Status) → HasBegun lines statuses t → HasBegun (lines ++ l ∷ []) (statuses ++ status ∷ []) t
begun_pushed lines statuses t l status b = record {
  long = length-append lines (l ∷ []) ∙ ap (λ n. n + 1) b.long ∙ sym (length-append statuses (status ∷ []));
  status = b.status;
  at = get_pushed statuses status t b.status b.at;
  begun = b.begun;
}

-- some ticket gets a status that is not to wait
begun_set : (lines : List Line) (statuses : List Status) (t u : ℕ) (status : Status) → is_waiting status ≡ false → HasBegun lines statuses t → HasBegun lines (slice_set statuses u status) t
begun_set lines statuses t u status not b = ⊎_elim
    (λ (same : t ≡ u). record {
      long = b.long ∙ sym (length-set statuses u status);
      status = status;
      at = ap (slice_get (slice_set statuses u status)) same ∙ get_set statuses u b.status status (ap (slice_get statuses) (sym same) ∙ b.at);
      begun = not;
    })
    (λ (apart : t ≢ u). record {
      long = b.long ∙ sym (length-set statuses u status);
      status = b.status;
      at = get_set_other statuses u status t apart ∙ b.at;
      begun = b.begun;
    })
    (cases_eq t u)

module _ (base : Base) where
  lines_long : (p : PassView) (lines : List Line) (old : Option Line) → length {A = Line} (elim old [ None ↦ lines | Some l ↦ slice_set lines p.ticket (answered base p l) ]) ≡ length lines
  lines_long p lines None = refl
  lines_long p lines (Some l) = length-set lines p.ticket (answered base p l)

  begun_given : (q : QueueView) (t u : ℕ) (turn : Option TurnView) → HasBegun q.lines q.statuses t → HasBegun (pass_given u turn q).lines (pass_given u turn q).statuses t
  begun_given q t u None b = begun_set q.lines q.statuses t u Running refl b
  begun_given q t u (Some turn) b = begun_pushed q.lines q.statuses t (new_line turn) (new_status turn) b

  begun_ended : (q : QueueView) (t : ℕ) (turn : Option TurnView) → HasBegun q.lines q.statuses t → HasBegun (turn_ended turn q).lines (turn_ended turn q).statuses t
  begun_ended q t None b = b
  begun_ended q t (Some turn) b = begun_pushed q.lines q.statuses t (new_line turn) (new_status turn) b

  begun_after : (call : QueueCall) (q : QueueView) (t : ℕ) → HasBegun q.lines q.statuses t → HasBegun (view_after base call q).lines (view_after base call q).statuses t
  begun_after makes_session q t b = b
  begun_after (joins_session g call) q t b = b
  begun_after (requests c old) q t b = b
  begun_after (gives_pass u) q t b = begun_given q t u q.turn b
  begun_after gives_session q t b = begun_ended q t q.turn b
  begun_after (joins_pass p) q t b =
      let gone = begun_set q.lines q.statuses t p.ticket Gone refl b in
      record { long = lines_long p q.lines (slice_get q.lines p.ticket) ∙ gone.long; status = gone.status; at = gone.at; begun = gone.begun }

  begun_after_all : (calls : List QueueCall) (q : QueueView) (t : ℕ) → HasBegun q.lines q.statuses t → HasBegun (view_after_all base calls q).lines (view_after_all base calls q).statuses t
  begun_after_all [] q t b = b
  begun_after_all (call ∷ calls) q t b = begun_after_all calls (view_after base call q) t (begun_after call q t b)

true_or_false : true ≡ false → ⊥
true_or_false e = cc e

-- such a ticket may not run
may_not_run : (lines : List Line) (statuses : List Status) (turn : Option TurnView) (t : ℕ) → HasBegun lines statuses t → MayRun lines statuses turn t → ⊥
may_not_run lines statuses None t b may = true_or_false (sym (ap is_waiting (same_Some b.status Waiting (sym b.at ∙ may.waits))) ∙ b.begun)
may_not_run lines statuses (Some turn) t b may =
    let low = slice_get_within statuses t b.status b.at in
    let next = may.next in
    let long = b.long in
    omega (arith, low, next, long)

pub once : TicketsGetOnePass
once base q t status calls long at begun =
    may_not_run (view_after_all base calls q).lines (view_after_all base calls q).statuses (view_after_all base calls q).turn t
    (begun_after_all base calls q t (record { long = long; status = status; at = at; begun = begun }))

pub runs : GivenTicketsRun
runs q t long may = given q.turn may
  where
    given : (turn : Option TurnView) → MayRun q.lines q.statuses turn t → slice_get (pass_given t turn q).statuses t ≡ Some Running
    given None may = get_set q.statuses t Waiting Running may.waits
    given (Some turn) may =
        ap (slice_get (q.statuses ++ new_status turn ∷ [])) (may.next ∙ long) ∙ get_last q.statuses (new_status turn)
        ∙ ap (λ (b : Bool). Some (if b then Running else Waiting)) may.granted
