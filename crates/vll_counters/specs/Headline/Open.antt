-- The open claims, by the views of the seats.
use Rattle.std.specs.Prelude.{List, [], ◌∷◌, ◌++◌, take, drop, Option, Some, None, if◌then◌else◌}
use Rattle.vll_record.specs.declared.claim.Claim.{Claim}
use Rattle.vll_sca.specs.declared.status.Status.{Status}
use Rattle.vll_sca.specs.Headline.Status.{is_waiting}
use Rattle.vll_core.specs.declared.line.Line.{Line}
use Rattle.vll_counters.specs.declared.views.TurnView.{TurnView}
use Rattle.vll_counters.specs.declared.views.PassView.{PassView}
use Rattle.vll_counters.specs.declared.views.QueueView.{QueueView}
use Rattle.vll_counters.specs.declared.views.View.{View}
use Rattle.vll_counters.specs.Headline.Views.{pass_in}

-- the claims that the open turn has requested
abbrev pub requested_in : Option TurnView → List Claim
requested_in None = []
requested_in (Some turn) = take turn.requested turn.call.claims

-- all claims of the calls that wait
abbrev pub waiting_in : List Line → List Status → List Claim
waiting_in (line ∷ lines) (status ∷ statuses) = (if is_waiting status then line.call.claims else []) ++ waiting_in lines statuses
waiting_in lines statuses = []

-- the claims that a pass has not released
abbrev pub held_by : Option PassView → List Claim
held_by None = []
held_by (Some pass) = drop pass.releases pass.call.claims

-- the claims that the passes at all seats have not released
abbrev pub held_in : List View → List Claim
held_in [] = []
held_in (view ∷ views) = held_by (pass_in view) ++ held_in views

-- the open claims: those that the open turn has requested, all of the waiting calls, and those that the passes have not
-- released
abbrev pub open_in : QueueView → List View → List Claim
open_in queue views = (requested_in queue.turn ++ waiting_in queue.lines queue.statuses) ++ held_in views
