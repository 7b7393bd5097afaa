-- The work of a run: what it costs to run a body from a scene, as the code takes its turns.
use Rattle.std.specs.Prelude.{ℕ, zero, suc, ◌+◌, ◌==◌, nat_lt, Bool, true, false, ◌&&◌, ◌||◌, List, [], ◌∷◌, Result, Ok, Err, if◌then◌else◌}
use Rattle.vll_proc.specs.declared.call.Reason.{Reason}
use Rattle.vll_proc.specs.declared.syntax.Stmt.{Stmt, Row_of-Stmt, end_of-Stmt, more_of-Stmt, Let, Set, If', Abort, Reply, Repeat'}
use Rattle.vll_proc.specs.Headline.Meaning.{Scene, Action, value_of, effect, list_effect}
use Rattle.vll_proc.specs.WellFormed.{nodes}

-- a statement does nothing: a `Repeat` of no turn, or of a list of which each statement does nothing
abbrev mutual
  pub does_nothing : Stmt → Bool
  does_nothing (Repeat' turns m list) = turns == 0 || list_does_nothing list
  does_nothing st = false

  pub list_does_nothing : {m : _} → Row_of-Stmt m → Bool
  list_does_nothing end_of-Stmt = true
  list_does_nothing (more_of-Stmt st rest) = does_nothing st && list_does_nothing rest

-- the turns that a `Repeat` takes of a list: none of two or more if the list does nothing
abbrev pub turns_taken : ℕ → Bool → ℕ
turns_taken turns nothing = if nat_lt 1 turns && nothing then 0 else turns

-- what is counted of each statement that is run: a number for the statement itself, without those in its lists
abbrev pub Cost : Type 0
Cost = Stmt → ℕ

-- what a run goes on to, if it goes on
abbrev pub if_on : Result Scene Reason → (Scene → ℕ) → ℕ
if_on (Ok s) rest = rest s
if_on (Err why) rest = 0

-- the chosen list of an `If`, unless its condition ends the call
abbrev pub of_chosen : Result ℕ Reason → ℕ → ℕ → ℕ
of_chosen (Ok v) first second = if v == 0 then second else first
of_chosen (Err why) first second = 0

-- a number of turns, each from where the one before ended, up to the first reason
abbrev pub of_turns : ℕ → (Scene → ℕ) → Action → Scene → ℕ
of_turns zero cost act s = 0
of_turns (suc n) cost act s = cost s + if_on (act s) (of_turns n cost act)

-- the costs of all statements that are run, from a scene on
abbrev mutual
  pub run_cost : Cost → Stmt → Scene → ℕ
  run_cost cost (If' e m first n second) s = cost (If' e m first n second) + of_chosen (value_of e s) (list_cost cost first s) (list_cost cost second s)
  run_cost cost (Repeat' turns m list) s = cost (Repeat' turns m list) + of_turns (turns_taken turns (list_does_nothing list)) (list_cost cost list) (list_effect list) s
  run_cost cost st s = cost st

  pub list_cost : {m : _} → Cost → Row_of-Stmt m → Scene → ℕ
  list_cost cost end_of-Stmt s = 0
  list_cost cost (more_of-Stmt st rest) s = run_cost cost st s + if_on (effect st s) (list_cost cost rest)

-- as `run_cost`, for a body
abbrev pub body_cost : Cost → List Stmt → Scene → ℕ
body_cost cost [] s = 0
body_cost cost (st ∷ sts) s = run_cost cost st s + if_on (effect st s) (body_cost cost sts)

-- the steps of a statement itself: it is run, and each expression in its own one is evaluated
abbrev pub own_steps : Cost
own_steps (Let i e) = suc (nodes e)
own_steps (Set i e) = suc (nodes e)
own_steps (If' e m first n second) = suc (nodes e)
own_steps (Abort code) = 1
own_steps (Reply e) = suc (nodes e)
own_steps (Repeat' turns m list) = 1

-- the turns of a statement itself, if none of them ends the call
abbrev pub own_turns : Cost
own_turns (Repeat' turns m list) = turns_taken turns (list_does_nothing list)
own_turns st = 0

-- the statements that are tested to tell whether one does nothing: in a list up to the first that does something
abbrev mutual
  pub tested : Stmt → ℕ
  tested (Repeat' turns m list) = suc (if turns == 0 then 0 else list_tested list)
  tested st = 1

  pub list_tested : {m : _} → Row_of-Stmt m → ℕ
  list_tested end_of-Stmt = 0
  list_tested (more_of-Stmt st rest) = tested st + (if does_nothing st then list_tested rest else 0)

-- the tests of a statement itself: a `Repeat` of two or more turns tests whether its list does nothing
abbrev pub own_tests : Cost
own_tests (Repeat' turns m list) = if nat_lt 1 turns then list_tested list else 0
own_tests st = 0
