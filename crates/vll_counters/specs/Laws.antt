-- What the rule says of tickets, passes, sessions and pair words, whenever it holds.
use Rattle.std.specs.Prelude.{◌≡◌, ◌⊎◌, ℕ, ◌<◌, List, true, false, length, Some, slice_get, slice_index}
use mathlib.Core.Option as opt
use lib.ListN.{get_elem?}
use Rattle.vll_record.specs.Headline.Counter.{claims_on, pair_word_of}
use Rattle.vll_record.specs.Headline.Word.{pair_word_of_record}
use Rattle.vll_sca.specs.declared.status.Status.{Status}
use Rattle.vll_sca.specs.declared.status.Status.TheVariants.{Running}
use Rattle.vll_sca.specs.Headline.Status.{is_waiting}
use Rattle.vll_sca.specs.Status.{is_running}
use Rattle.vll_core.specs.Headline.State.{Base}
use Rattle.vll_core.specs.State.{Entered, is_clear}
use Rattle.vll_counters.specs.declared.views.PassView.{PassView}
use Rattle.vll_counters.specs.declared.views.QueueView.{QueueView}
use Rattle.vll_counters.specs.declared.views.SessionView.{SessionView}
use Rattle.vll_counters.specs.declared.views.View.{View}
use Rattle.vll_counters.specs.declared.views.View.TheVariants.{Queue}
use Rattle.vll_counters.specs.Headline.Views.{pass_in}
use Rattle.vll_counters.specs.Views.{session_in}
use Rattle.vll_counters.specs.Headline.Open.{open_in}
use Rattle.vll_counters.specs.declared.views.SeatView.{SeatView}
use Rattle.vll_counters.specs.Laid.{laid_words}
use Rattle.vll_counters.specs.Written.{Write, written, IsPastOf, longer}
use Rattle.vll_counters.specs.History.{MomentWithPasts, RuleWithHistory}
use Rattle.vll_counters.specs.Rule.{Moment, Rule}
use Rattle.vll_counters.specs.Steps.{pass_given}
use Rattle.vll_counters.specs.Told.{IsClear, MayRun}
use Rattle.vll_counters.specs.Queueing.{QueueCall, view_after_all}

-- each ticket that is running or gone is clear
abbrev pub TicketsAreClear : Type 0
TicketsAreClear =
    (base : Base) (m : Moment) (rule : Rule base m) (t : ℕ) (e : Entered)
    → slice_get rule.state.entries t ≡ Some e → is_waiting e.status ≡ false → is_clear rule.state t e.call.claims ≡ true

-- each pass is of a clear ticket
abbrev pub PassesAreClear : Type 0
PassesAreClear = (base : Base) (p : PassView) → IsClear base p

-- each running ticket has a pass, at some seat
abbrev pub RunningTicketsHaveAPass : Type 0
RunningTicketsHaveAPass =
    (base : Base) (m : Moment) (rule : Rule base m) (t : ℕ) (e : Entered)
    → slice_get rule.state.entries t ≡ Some e → is_running e.status ≡ true
    → (seat : ℕ) × (v : View) × (p : PassView) × (get_elem? m.views seat ≡ opt.some v) × (pass_in v ≡ Some p) × (p.ticket ≡ t)

-- each pass is that of a running ticket
abbrev pub PassesAreOfRunningTickets : Type 0
PassesAreOfRunningTickets =
    (base : Base) (m : Moment) (rule : Rule base m) (seat : ℕ) (v : View) (p : PassView)
    → get_elem? m.views seat ≡ opt.some v → pass_in v ≡ Some p
    → (e : Entered) × (slice_get rule.state.entries p.ticket ≡ Some e) × (is_running e.status ≡ true)

-- no two seats have passes of one ticket
abbrev pub TicketsHaveOnePass : Type 0
TicketsHaveOnePass =
    (base : Base) (m : Moment) (rule : Rule base m) (i j : ℕ) (v w : View) (p q : PassView)
    → get_elem? m.views i ≡ opt.some v → pass_in v ≡ Some p → get_elem? m.views j ≡ opt.some w → pass_in w ≡ Some q → p.ticket ≡ q.ticket → i ≡ j

-- a ticket that gets its pass runs
abbrev pub GivenTicketsRun : Type 0
GivenTicketsRun =
    (q : QueueView) (t : ℕ) → length q.lines ≡ length q.statuses → MayRun q.lines q.statuses q.turn t
    → slice_get (pass_given t q.turn q).statuses t ≡ Some Running

-- a ticket that runs or is gone may never run again, whatever calls are made with the queue's seat: no second pass
abbrev pub TicketsGetOnePass : Type 0
TicketsGetOnePass =
    (base : Base) (q : QueueView) (t : ℕ) (status : Status) (calls : List QueueCall)
    → length q.lines ≡ length q.statuses → slice_get q.statuses t ≡ Some status → is_waiting status ≡ false
    → ¬ (MayRun (view_after_all base calls q).lines (view_after_all base calls q).statuses (view_after_all base calls q).turn t)

-- no two seats have sessions of one client
abbrev pub ClientsHaveOneSession : Type 0
ClientsHaveOneSession =
    (base : Base) (m : Moment) (rule : Rule base m) (i j : ℕ) (v w : View) (g h : SessionView)
    → get_elem? m.views i ≡ opt.some v → session_in v ≡ Some g → get_elem? m.views j ≡ opt.some w → session_in w ≡ Some h → g.client ≡ h.client → i ≡ j

-- each pair word counts the open claims on its record, 2^32 for each Write claim and 1 for each Read claim
abbrev pub PairWordsCountOpenClaims : Type 0
PairWordsCountOpenClaims =
    (base : Base) (m : Moment) (q : QueueView) (r : ℕ)
    → Rule base m → get_elem? m.views 0 ≡ opt.some (Queue q) → r < length base.records
    → slice_index m.words (pair_word_of_record r) ≡ pair_word_of (claims_on r (open_in q m.views))

-- there is one history of writes, which lead from the opening words to the present ones, and each seat's past is a
-- beginning of it
abbrev pub PastsAreOfOneRun : Type 0
PastsAreOfOneRun =
    (base : Base) (m : MomentWithPasts) → RuleWithHistory base m
    → (all : List Write) × (m.words ≡ written (laid_words base.records) all) × ((seat : ℕ) (k : SeatView) → get_elem? m.views seat ≡ opt.some k → IsPastOf k.past all)

-- of the pasts of two seats one begins with the other
abbrev pub OnePastBeginsTheOther : Type 0
OnePastBeginsTheOther =
    (base : Base) (m : MomentWithPasts) (i j : ℕ) (v w : SeatView) → RuleWithHistory base m
    → get_elem? m.views i ≡ opt.some v → get_elem? m.views j ≡ opt.some w → IsPastOf v.past w.past ⊎ IsPastOf w.past v.past

-- the longer of the pasts of two seats begins with each of them: a seat that another one joins loses no write
abbrev pub LongerPastHasBoth : Type 0
LongerPastHasBoth =
    (base : Base) (m : MomentWithPasts) (i j : ℕ) (v w : SeatView) → RuleWithHistory base m
    → get_elem? m.views i ≡ opt.some v → get_elem? m.views j ≡ opt.some w → IsPastOf v.past (longer v.past w.past) × IsPastOf w.past (longer v.past w.past)
