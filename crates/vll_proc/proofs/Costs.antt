-- The costs of a run are at most the weight of what is run.
use Rattle.std.proofs.Common.{◌≡◌, ℕ, zero, suc, ◌+◌, ◌*◌, ◌<◌, ◌≤◌, ◌==◌, nat_lt, Bool, true, false, not, ◌&&◌, ◌||◌, List, [], ◌∷◌, sum_by, Result, Ok, Err, if◌then◌else◌, refl, arith}
use Rattle.std.proofs.lemmas.Bool.{ltb-false}
use Rattle.std.proofs.lemmas.List.Sums.{sum_by-cons}
use Rattle.std.proofs.Math.Nat.{mul-le-mul_left, mul-le-mul_right}
use Rattle.vll_proc.proofs.Common.{leb-true, ltb-true, Reason, Stmt, Row_of-Stmt, end_of-Stmt, more_of-Stmt, Let, Set, If', Abort, Reply, Repeat', Proc, Scene, Action, value_of, effect, list_effect, truth, IsWellFormed, weight, list_weight}
use Rattle.vll_proc.proofs.Nothing.{product-taken}
use Rattle.vll_proc.specs.declared.limits.TheConstants.{MOST_WEIGHT}
use Rattle.vll_proc.specs.Steps.{does_nothing, list_does_nothing, turns_taken, Cost, if_on, of_chosen, of_turns, run_cost, list_cost, body_cost, own_steps, own_turns, tested, list_tested, own_tests}

-- the costs of a statement if nothing ends the call, and each `If` runs both of its lists
abbrev mutual
  most : Cost → Stmt → ℕ
  most cost (If' e m first n second) = cost (If' e m first n second) + (list_most cost first + list_most cost second)
  most cost (Repeat' turns m list) = cost (Repeat' turns m list) + turns_taken turns (list_does_nothing list) * list_most cost list
  most cost st = cost st

  list_most : {m : _} → Cost → Row_of-Stmt m → ℕ
  list_most cost end_of-Stmt = 0
  list_most cost (more_of-Stmt st rest) = most cost st + list_most cost rest

if_on-most : (r : Result Scene Reason) (rest : Scene → ℕ) (top : ℕ) → ((s : Scene) → rest s ≤ top) → if_on r rest ≤ top
if_on-most (Ok s) rest top h = h s
if_on-most (Err why) rest top h = omega arith

one_of : (b : Bool) (first second : ℕ) → (if b then second else first) ≤ first + second
one_of true first second = omega arith
one_of false first second = omega arith

of_chosen-most : (r : Result ℕ Reason) (first second : ℕ) → of_chosen r first second ≤ first + second
of_chosen-most (Ok v) first second = one_of (v == 0) first second
of_chosen-most (Err why) first second = omega arith

of_turns-most : (n : ℕ) (cost : Scene → ℕ) (act : Action) (s : Scene) (top : ℕ) → ((t : Scene) → cost t ≤ top) → of_turns n cost act s ≤ n * top
of_turns-most zero cost act s top h = omega arith
of_turns-most (suc n) cost act s top h =
    let one = h s in
    let others = if_on-most (act s) (of_turns n cost act) (n * top) (λ t. of_turns-most n cost act t top h) in
    omega arith

mutual
  run_cost-most : (cost : Cost) (st : Stmt) (s : Scene) → run_cost cost st s ≤ most cost st
  run_cost-most cost (Let i e) s = omega arith
  run_cost-most cost (Set i e) s = omega arith
  run_cost-most cost (If' e m first n second) s =
      let chosen = of_chosen-most (value_of e s) (list_cost cost first s) (list_cost cost second s) in
      let one = list_cost-most cost first s in
      let other = list_cost-most cost second s in
      omega arith
  run_cost-most cost (Abort code) s = omega arith
  run_cost-most cost (Reply e) s = omega arith
  run_cost-most cost (Repeat' turns m list) s =
      let taken = of_turns-most (turns_taken turns (list_does_nothing list)) (list_cost cost list) (list_effect list) s (list_most cost list) (list_cost-most cost list) in
      omega arith

  list_cost-most : {m : _} → (cost : Cost) (row : Row_of-Stmt m) (s : Scene) → list_cost cost row s ≤ list_most cost row
  list_cost-most cost end_of-Stmt s = omega arith
  list_cost-most cost (more_of-Stmt st rest) s =
      let one = run_cost-most cost st s in
      let others = if_on-most (effect st s) (list_cost cost rest) (list_most cost rest) (list_cost-most cost rest) in
      omega arith

body_cost-within : (cost : Cost) (xs : List Stmt) (s : Scene) → ((st : Stmt) → most cost st ≤ weight st) → body_cost cost xs s ≤ sum_by weight xs
body_cost-within cost [] s h = omega arith
body_cost-within cost (x ∷ xs) s h =
    let one = run_cost-most cost x s in
    let top = h x in
    let others = if_on-most (effect x s) (body_cost cost xs) (sum_by weight xs) (λ t. body_cost-within cost xs t h) in
    let all = sum_by-cons weight x xs in
    omega arith

mutual
  steps-within : (st : Stmt) → most own_steps st ≤ weight st
  steps-within (Let i e) = omega arith
  steps-within (Set i e) = omega arith
  steps-within (If' e m first n second) =
      let one = list_steps-within first in
      let other = list_steps-within second in
      omega arith
  steps-within (Abort code) = omega arith
  steps-within (Reply e) = omega arith
  steps-within (Repeat' turns m list) =
      let taken = product-taken turns (list_does_nothing list) (list_most own_steps list) in
      let each = mul-le-mul_left turns (list_steps-within list) in
      omega arith

  list_steps-within : {m : _} → (row : Row_of-Stmt m) → list_most own_steps row ≤ list_weight row
  list_steps-within end_of-Stmt = omega arith
  list_steps-within (more_of-Stmt st rest) =
      let one = steps-within st in
      let others = list_steps-within rest in
      omega arith

-- the turns of a list that does something are fewer than its weight, which so pays for the turn itself too
turns_by : (many none nothing : Bool) (turns inner list : ℕ) → (many ≡ false → turns ≤ 1) → inner + truth (not nothing) ≤ list
    → (if many && nothing then 0 else turns) + (if many && nothing then 0 else turns) * inner + truth (not (none || nothing)) ≤ suc (turns * list)
turns_by true true true turns inner list few h = omega arith
turns_by true false true turns inner list few h = omega arith
turns_by false true true turns inner list few h =
    let one = few refl in
    let le : inner ≤ list = omega arith in
    let each = mul-le-mul_left turns le in
    omega arith
turns_by false false true turns inner list few h =
    let one = few refl in
    let le : inner ≤ list = omega arith in
    let each = mul-le-mul_left turns le in
    omega arith
turns_by true true false turns inner list few h =
    let less : inner + 1 ≤ list = h in
    let each = mul-le-mul_left turns less in
    omega arith
turns_by true false false turns inner list few h =
    let less : inner + 1 ≤ list = h in
    let each = mul-le-mul_left turns less in
    omega arith
turns_by false true false turns inner list few h =
    let less : inner + 1 ≤ list = h in
    let each = mul-le-mul_left turns less in
    omega arith
turns_by false false false turns inner list few h =
    let less : inner + 1 ≤ list = h in
    let each = mul-le-mul_left turns less in
    omega arith

both_some : (x y : Bool) (a b c d : ℕ) → a + truth (not x) ≤ c → b + truth (not y) ≤ d → (a + b) + truth (not (x && y)) ≤ c + d
both_some true true a b c d h k = omega arith
both_some true false a b c d h k = omega arith
both_some false true a b c d h k = omega arith
both_some false false a b c d h k = omega arith

mutual
  turns-within : (st : Stmt) → most own_turns st + truth (not (does_nothing st)) ≤ weight st
  turns-within (Let i e) = omega arith
  turns-within (Set i e) = omega arith
  turns-within (If' e m first n second) =
      let one = list_turns-within first in
      let other = list_turns-within second in
      omega arith
  turns-within (Abort code) = omega arith
  turns-within (Reply e) = omega arith
  turns-within (Repeat' turns m list) =
      turns_by (nat_lt 1 turns) (turns == 0) (list_does_nothing list) turns (list_most own_turns list) (list_weight list) (λ few. ltb-false 1 turns few) (list_turns-within list)

  list_turns-within : {m : _} → (row : Row_of-Stmt m) → list_most own_turns row + truth (not (list_does_nothing row)) ≤ list_weight row
  list_turns-within end_of-Stmt = omega arith
  list_turns-within (more_of-Stmt st rest) = both_some (does_nothing st) (list_does_nothing rest) _ _ _ _ (turns-within st) (list_turns-within rest)

if_so : (b : Bool) (n : ℕ) → (if b then n else 0) ≤ n
if_so true n = omega arith
if_so false n = omega arith

if_not : (b : Bool) (n : ℕ) → (if b then 0 else n) ≤ n
if_not true n = omega arith
if_not false n = omega arith

-- a `Repeat` of two or more turns pays for its tests by a second turn
tests_by : (many none : Bool) (turns taken inner tests list : ℕ) → (many ≡ true → 1 < turns) → (none ≡ false → 0 < turns) → taken * inner ≤ turns * inner → inner + tests ≤ list
    → ((if many then tests else 0) + taken * inner) + suc (if none then 0 else tests) ≤ suc (turns * list)
tests_by true none turns taken inner tests list some any fewer h =
    let each = mul-le-mul_left turns h in
    let many = some refl in
    let two : 2 ≤ turns = omega arith in
    let twice = mul-le-mul_right tests two in
    let once : (if none then 0 else tests) ≤ tests = if_not none tests in
    omega arith
tests_by false true turns taken inner tests list some any fewer h =
    let each = mul-le-mul_left turns h in
    omega arith
tests_by false false turns taken inner tests list some any fewer h =
    let each = mul-le-mul_left turns h in
    let one = any refl in
    let once : 1 ≤ turns = omega arith in
    let at_least = mul-le-mul_right tests once in
    omega arith

any_turn : (turns : ℕ) → (turns == 0) ≡ false → 0 < turns
any_turn zero h = absurd cc
any_turn (suc n) h = omega arith

mutual
  tests-within : (st : Stmt) → most own_tests st + tested st ≤ weight st
  tests-within (Let i e) = omega arith
  tests-within (Set i e) = omega arith
  tests-within (If' e m first n second) =
      let one = list_tests-within first in
      let other = list_tests-within second in
      omega arith
  tests-within (Abort code) = omega arith
  tests-within (Reply e) = omega arith
  tests-within (Repeat' turns m list) =
      tests_by (nat_lt 1 turns) (turns == 0) turns (turns_taken turns (list_does_nothing list)) (list_most own_tests list) (list_tested list) (list_weight list)
      (λ many. ltb-true 1 turns many) (any_turn turns) (product-taken turns (list_does_nothing list) (list_most own_tests list)) (list_tests-within list)

  list_tests-within : {m : _} → (row : Row_of-Stmt m) → list_most own_tests row + list_tested row ≤ list_weight row
  list_tests-within end_of-Stmt = omega arith
  list_tests-within (more_of-Stmt st rest) =
      let one = tests-within st in
      let others = list_tests-within rest in
      let further = if_so (does_nothing st) (list_tested rest) in
      omega arith

pub few_steps : (p : Proc) (s : Scene) → body_cost own_steps p.body s ≤ sum_by weight p.body
few_steps p s = body_cost-within own_steps p.body s steps-within

pub few_turns : (p : Proc) (s : Scene) → body_cost own_turns p.body s ≤ sum_by weight p.body
few_turns p s = body_cost-within own_turns p.body s (λ st. let h = turns-within st in omega arith)

pub few_tests : (p : Proc) (s : Scene) → body_cost own_tests p.body s ≤ sum_by weight p.body
few_tests p s = body_cost-within own_tests p.body s (λ st. let h = tests-within st in omega arith)

pub is_light : (p : Proc) → IsWellFormed p → sum_by weight p.body ≤ MOST_WEIGHT
is_light p formed = leb-true (sum_by weight p.body) MOST_WEIGHT formed.light
