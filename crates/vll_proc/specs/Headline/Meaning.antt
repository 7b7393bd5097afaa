-- What a procedure's body means on a whole map of records: by cases on the syntax, operands from left to right, and the first reason ends the call.
use Rattle.std.specs.Prelude.{ℕ, zero, suc, ◌+◌, ◌-◌, ◌*◌, ◌/◌, ◌%◌, ◌^◌, ◌==◌, min, max, not, Bool, false, List, [], ◌∷◌, ◌++◌, length, map, replicate, Result, Ok, Err, nat_lt, if◌then◌else◌, Option, Some, None, slice_get, slice_index, slice_set}
use Rattle.vll_proc.specs.declared.limits.TheConstants.{MOST_LOCALS}
use Rattle.vll_proc.specs.declared.call.Call.{Call}
use Rattle.vll_proc.specs.declared.call.Reason.{Reason}
use Rattle.vll_proc.specs.declared.call.Reason.TheVariants.{Code, Overflow, Underflow, ZeroDivisor, Moved}
use Rattle.vll_proc.specs.declared.syntax.KeyAt.{KeyAt}
use Rattle.vll_proc.specs.declared.syntax.KeyAt.TheVariants as at
use Rattle.vll_proc.specs.declared.syntax.KeyDecl.{KeyDecl}
use Rattle.vll_proc.specs.declared.syntax.Proc.{Proc}
use Rattle.vll_proc.specs.declared.syntax.Expr.{Expr, Row_of-Expr, end_of-Expr, more_of-Expr, Num, Arg, Key, Local, Add', Sub', Mul', Div', Rem', Min', Max', Equal', Less', Not'}
use Rattle.vll_proc.specs.declared.syntax.Stmt.{Stmt, Row_of-Stmt, end_of-Stmt, more_of-Stmt, Let, Set, If', Abort, Reply, Repeat'}

-- goes on with a value, or ends with a reason
abbrev pub and_then : {A B : Type 0} → Result A Reason → (A → Result B Reason) → Result B Reason
and_then (Ok a) go = go a
and_then (Err why) go = Err why

-- a number, or an overflow if it has more than 64 bits
abbrev pub fitting : ℕ → Result ℕ Reason
fitting n = if nat_lt n (2 ^ 64) then Ok n else Err Overflow

-- the sum, or an overflow
abbrev pub sum : ℕ → ℕ → Result ℕ Reason
sum x y = fitting (x + y)

-- the left number less the right one, or an underflow if the right one is greater
abbrev pub difference : ℕ → ℕ → Result ℕ Reason
difference x y = if nat_lt x y then Err Underflow else Ok (x - y)

-- the product, or an overflow
abbrev pub product : ℕ → ℕ → Result ℕ Reason
product x y = fitting (x * y)

-- the quotient, rounded down, or a zero divisor
abbrev pub quotient : ℕ → ℕ → Result ℕ Reason
quotient x y = if y == 0 then Err ZeroDivisor else Ok (x / y)

-- the remainder of the division, or a zero divisor
abbrev pub remainder : ℕ → ℕ → Result ℕ Reason
remainder x y = if y == 0 then Err ZeroDivisor else Ok (x % y)

-- the lesser of two numbers
abbrev pub lesser : ℕ → ℕ → Result ℕ Reason
lesser x y = Ok (min x y)

-- the greater of two numbers
abbrev pub greater : ℕ → ℕ → Result ℕ Reason
greater x y = Ok (max x y)

-- 1 if a test holds, else 0
abbrev pub truth : Bool → ℕ
truth b = if b then 1 else 0

-- 1 if two numbers are equal, else 0
abbrev pub equality : ℕ → ℕ → Result ℕ Reason
equality x y = Ok (truth (x == y))

-- 1 if the left number is less than the right one, else 0
abbrev pub order : ℕ → ℕ → Result ℕ Reason
order x y = Ok (truth (nat_lt x y))

-- the state of a body: the record that each key position names, the arguments, and then what changes
pub record Scene : Type 0 where
  pub named : List ℕ
  pub args : List ℕ
  pub locals : List ℕ
  pub records : List ℕ
  pub outputs : List ℕ

-- what an expression means: in a scene a value, or the reason that ends the call
abbrev pub Value : Type 0
Value = Scene → Result ℕ Reason

-- the left operand, then the right one unless the left one ends the call, and then the operator on both
abbrev pub both : (ℕ → ℕ → Result ℕ Reason) → Value → Value → Value
both f a b s = and_then (a s) (λ x. and_then (b s) (λ y. f x y))

-- 1 if the operand is 0, else 0
abbrev pub negated : Value → Value
negated a s = and_then (a s) (λ x. Ok (truth (x == 0)))

abbrev mutual
  -- the value of an expression, or the reason that ends the call
  pub value_of : Expr → Value
  value_of (Num n) s = Ok n
  value_of (Arg i) s = Ok (slice_index s.args i)
  value_of (Key i) s = Ok (slice_index s.records (slice_index s.named i))
  value_of (Local i) s = Ok (slice_index s.locals i)
  value_of (Add' p a q b) s = both sum (operand a) (operand b) s
  value_of (Sub' p a q b) s = both difference (operand a) (operand b) s
  value_of (Mul' p a q b) s = both product (operand a) (operand b) s
  value_of (Div' p a q b) s = both quotient (operand a) (operand b) s
  value_of (Rem' p a q b) s = both remainder (operand a) (operand b) s
  value_of (Min' p a q b) s = both lesser (operand a) (operand b) s
  value_of (Max' p a q b) s = both greater (operand a) (operand b) s
  value_of (Equal' p a q b) s = both equality (operand a) (operand b) s
  value_of (Less' p a q b) s = both order (operand a) (operand b) s
  value_of (Not' p a) s = negated (operand a) s

  -- a boxed operand is a row of one
  pub operand : {m : _} → Row_of-Expr m → Value
  operand end_of-Expr s = Ok 0
  operand (more_of-Expr e rest) s = value_of e s

-- what a statement means: from a scene the scene after it, or the reason that ends the call
abbrev pub Action : Type 0
Action = Scene → Result Scene Reason

-- one after another, up to the first reason
abbrev pub in_turn : List Action → Action
in_turn [] s = Ok s
in_turn (act ∷ acts) s = and_then (act s) (in_turn acts)

-- an action a number of times, each from where the one before ended, up to the first reason
abbrev pub repeated : ℕ → Action → Action
repeated zero act s = Ok s
repeated (suc n) act s = and_then (act s) (repeated n act)

abbrev mutual
  -- what a statement does to the locals, the records and the outputs, or the reason that ends the call
  pub effect : Stmt → Action
  effect (Let i e) s = and_then (value_of e s) (λ v. Ok (record s { locals = slice_set s.locals i v }))
  effect (Set i e) s = and_then (value_of e s) (λ v. Ok (record s { records = slice_set s.records (slice_index s.named i) v }))
  effect (If' e m first n second) s = and_then (value_of e s) (λ v. if v == 0 then list_effect second s else list_effect first s)
  effect (Abort code) s = Err (Code code)
  effect (Reply e) s = and_then (value_of e s) (λ v. Ok (record s { outputs = s.outputs ++ v ∷ [] }))
  effect (Repeat' turns m list) s = repeated turns (list_effect list) s

  -- the statements of a list in a statement, in turn
  pub list_effect : {m : _} → Row_of-Stmt m → Action
  list_effect end_of-Stmt s = Ok s
  list_effect (more_of-Stmt st rest) s = and_then (effect st s) (list_effect rest)

-- the record that a value leads to among `count` records: the value modulo their number
abbrev pub led_to : ℕ → Option ℕ → Option ℕ
led_to count None = None
led_to count (Some v) = Some (v % count)

-- the record that a key position names among `count` records, and `None` if it names none:
-- an indirect one names the record that the value found leads to, and none until a value is found
abbrev pub record_named : ℕ → List ℕ → Option ℕ → KeyAt → Option ℕ
record_named count args found (at.Fixed r) = Some r
record_named count args found (at.Arg i) = slice_get args i
record_named count args found (at.Through i) = led_to count found

-- the index at which a body finds that record: past the last if there is none, where reads give 0 and stores do nothing
abbrev pub found_at : List ℕ → Option ℕ → ℕ
found_at records (Some r) = r
found_at records None = length records

-- the scene in which the body of a procedure begins, for a call
abbrev pub opening_scene : Proc → Call → List ℕ → Scene
opening_scene p c records = record {
  named = map (λ (k : KeyDecl). found_at records (record_named (length records) c.args c.found k.at)) p.keys;
  args = c.args;
  locals = replicate MOST_LOCALS 0;
  records = records;
  outputs = [];
}

-- the key position by whose record's value a position finds its own record
abbrev pub source_at : KeyAt → Option ℕ
source_at (at.Fixed r) = None
source_at (at.Arg i) = None
source_at (at.Through i) = Some i

-- the first of two, if there is one, and else the second
abbrev pub or_else : Option ℕ → Option ℕ → Option ℕ
or_else None b = b
or_else (Some x) b = Some x

-- the key position by whose record's value another one finds its own record, if there is one
abbrev pub source_of : List KeyDecl → Option ℕ
source_of [] = None
source_of (k ∷ ks) = or_else (source_at k.at) (source_of ks)

-- the record of that position no longer holds the value that was found
abbrev pub has_moved : Option ℕ → Option ℕ → Scene → Bool
has_moved None found s = false
has_moved (Some i) None s = false
has_moved (Some i) (Some v) s = not (slice_index s.records (slice_index s.named i) == v)

-- a body begins if that record still holds the value that was found, and else ends with `Moved`
abbrev pub unless_moved : Proc → Call → Action
unless_moved p c s = if has_moved (source_of p.keys) c.found s then Err Moved else Ok s

-- the meaning of a procedure's body for a call, on a whole map of records
abbrev pub body : Proc → Call → List ℕ → Result Scene Reason
body p c records = and_then (unless_moved p c (opening_scene p c records)) (in_turn (map effect p.body))
