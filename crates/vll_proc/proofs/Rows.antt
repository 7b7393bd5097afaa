-- What some procedures answer, computed.
use Rattle.std.proofs.Common.{◌≡◌, ℕ, true, false, List, [], ◌∷◌, replicate, sum_by, None, Some, refl}
use Rattle.vll_proc.proofs.Common.{Read, Write, Code, Moved, Overflow, Underflow, ZeroDivisor, Committed, Aborted, One, Two, Num, Arg, Key, Local, Add, Sub, Mul, Div, Rem, Min, Max, Equal, Less, Not, Proc, Stmt, Let, Set, If, Abort, Reply, Repeat, KeyDecl, call_of, apply, replies_by_epochs, IsWellFormed, body_reads_set, nothing_set, has_few_keys, has_few_replies, has_few_turns, is_light, weight}
use Rattle.std.specs.Prelude.{codes}
use denote.Hole.Carrier.{hidden}
use Rattle.vll_proc.specs.declared.syntax.Expr.TheBlock.{hidden-the_row-Expr-0}
use Rattle.vll_proc.specs.declared.syntax.KeyAt.TheVariants as at
use Rattle.vll_proc.specs.declared.syntax.Stmt.TheBlock.{hidden-the_row-Stmt-0}

abbrev pub transfer_keys : List KeyDecl
transfer_keys = record { mode = Write; at = at.Arg 0 } ∷ record { mode = Write; at = at.Arg 1 } ∷ []

abbrev pub transfer_body : List Stmt
transfer_body = Set 0 (Sub (Key 0) (Arg 2)) ∷ Set 1 (Add (Key 1) (Arg 2)) ∷ Reply (Key 0) ∷ []

abbrev transfer : Proc
transfer = record { edition = One; name = codes "transfer"; args = 3; keys = transfer_keys; body = transfer_body }

abbrev pub bump_keys : List KeyDecl
bump_keys = record { mode = Write; at = at.Arg 0 } ∷ []

abbrev pub bump_body : List Stmt
bump_body = Set 0 (Add (Key 0) (Num 1)) ∷ Reply (Key 0) ∷ []

abbrev bump : Proc
bump = record { edition = One; name = codes "bump"; args = 1; keys = bump_keys; body = bump_body }

abbrev pub sum2_keys : List KeyDecl
sum2_keys = record { mode = Read; at = at.Arg 0 } ∷ record { mode = Read; at = at.Arg 1 } ∷ []

abbrev pub sum2_body : List Stmt
sum2_body = Reply (Add (Key 0) (Key 1)) ∷ []

abbrev sum2 : Proc
sum2 = record { edition = One; name = codes "sum2"; args = 2; keys = sum2_keys; body = sum2_body }

abbrev odd_sum : Proc
odd_sum = record {
  edition = One;
  name = codes "odd_sum";
  args = 1;
  keys = [];
  body = Reply (Sub (Add (Arg 0) (Num 1)) (Sub (Num 0) (Num 1))) ∷ [];
}

-- each operator that answers a number of any operands
abbrev operators : Proc
operators = record {
  edition = One;
  name = codes "operators";
  args = 0;
  keys = [];
  body =
      Reply (Div (Num 7) (Num 2)) ∷ Reply (Rem (Num 7) (Num 2)) ∷ Reply (Min (Num 3) (Num 9)) ∷ Reply (Max (Num 3) (Num 9))
      ∷ Reply (Equal (Num 3) (Num 3)) ∷ Reply (Less (Num 3) (Num 3)) ∷ Reply (Not (Num 0)) ∷ [];
}

abbrev product : Proc
product = record { edition = One; name = codes "product"; args = 2; keys = []; body = Reply (Mul (Arg 0) (Arg 1)) ∷ [] }

abbrev odd_quotient : Proc
odd_quotient = record {
  edition = One;
  name = codes "odd_quotient";
  args = 0;
  keys = [];
  body = Reply (Add (Div (Num 1) (Num 0)) (Sub (Num 0) (Num 1))) ∷ [];
}

abbrev take_keys : List KeyDecl
take_keys = record { mode = Write; at = at.Arg 0 } ∷ []

abbrev take_body : List Stmt
take_body = If (Less (Key 0) (Arg 1)) (Abort 7 ∷ []) [] ∷ Set 0 (Sub (Key 0) (Arg 1)) ∷ Reply (Key 0) ∷ []

abbrev take : Proc
take = record { edition = One; name = codes "take"; args = 2; keys = take_keys; body = take_body }

-- a local that both lists of an `If` set may be read after it
abbrev choose_body : List Stmt
choose_body =
    Let 0 (Num 40) ∷ If (Arg 0) (If (Equal (Arg 0) (Num 2)) (Let 1 (Num 2) ∷ []) (Let 1 (Num 1) ∷ []) ∷ []) (Let 1 (Num 0) ∷ [])
    ∷ Reply (Add (Local 0) (Local 1)) ∷ []

abbrev choose : Proc
choose = record { edition = One; name = codes "choose"; args = 1; keys = []; body = choose_body }

abbrev procs : List Proc
procs = transfer ∷ bump ∷ sum2 ∷ odd_sum ∷ operators ∷ product ∷ odd_quotient ∷ take ∷ choose ∷ []

transfers : apply procs (call_of 2 0 transfer (0 ∷ 1 ∷ 30 ∷ []) None) (100 ∷ 50 ∷ []) ≡ record { records = 70 ∷ 80 ∷ []; reply = Committed (70 ∷ []) }
unfolding hidden hidden-the_row-Expr-0
transfers = refl

underflows : apply procs (call_of 2 0 transfer (0 ∷ 1 ∷ 200 ∷ []) None) (100 ∷ 50 ∷ []) ≡ record { records = 100 ∷ 50 ∷ []; reply = Aborted Underflow }
unfolding hidden hidden-the_row-Expr-0
underflows = refl

-- two key positions of one record are one record
to_itself : apply procs (call_of 1 0 transfer (0 ∷ 0 ∷ 30 ∷ []) None) (100 ∷ []) ≡ record { records = 100 ∷ []; reply = Committed (100 ∷ []) }
unfolding hidden hidden-the_row-Expr-0
to_itself = refl

one_claim : (call_of 1 0 transfer (0 ∷ 0 ∷ 30 ∷ []) None).claims ≡ record { id = 0; mode = Write } ∷ []
one_claim = refl

bumps : apply procs (call_of 2 1 bump (1 ∷ []) None) (7 ∷ 9 ∷ []) ≡ record { records = 7 ∷ 10 ∷ []; reply = Committed (10 ∷ []) }
unfolding hidden hidden-the_row-Expr-0
bumps = refl

overflows : apply procs (call_of 1 1 bump (0 ∷ []) None) (18446744073709551615 ∷ []) ≡ record { records = 18446744073709551615 ∷ []; reply = Aborted Overflow }
unfolding hidden hidden-the_row-Expr-0
overflows = refl

sums : apply procs (call_of 2 2 sum2 (1 ∷ 0 ∷ []) None) (70 ∷ 80 ∷ []) ≡ record { records = 70 ∷ 80 ∷ []; reply = Committed (150 ∷ []) }
unfolding hidden hidden-the_row-Expr-0
sums = refl

-- the second epoch begins with what the first has left
in_two_epochs : replies_by_epochs procs (((0, call_of 2 0 transfer (0 ∷ 1 ∷ 30 ∷ []) None) ∷ []) ∷ ((1, call_of 2 1 bump (1 ∷ []) None) ∷ []) ∷ []) (100 ∷ 50 ∷ []) ≡ Committed (70 ∷ []) ∷ Committed (81 ∷ []) ∷ []
unfolding hidden hidden-the_row-Expr-0
in_two_epochs = refl

-- the reason of the left operand is the one that is answered
left_first : apply procs (call_of 0 3 odd_sum (18446744073709551615 ∷ []) None) [] ≡ record { records = []; reply = Aborted Overflow }
unfolding hidden hidden-the_row-Expr-0
left_first = refl

operate : apply procs (call_of 0 4 operators [] None) [] ≡ record { records = []; reply = Committed (3 ∷ 1 ∷ 3 ∷ 9 ∷ 1 ∷ 0 ∷ 1 ∷ []) }
unfolding hidden hidden-the_row-Expr-0
operate = refl

greatest_product : apply procs (call_of 0 5 product (4294967295 ∷ 4294967297 ∷ []) None) [] ≡ record { records = []; reply = Committed (18446744073709551615 ∷ []) }
unfolding hidden hidden-the_row-Expr-0
greatest_product = refl

product_overflows : apply procs (call_of 0 5 product (4294967296 ∷ 4294967296 ∷ []) None) [] ≡ record { records = []; reply = Aborted Overflow }
unfolding hidden hidden-the_row-Expr-0
product_overflows = refl

zero_divisor_first : apply procs (call_of 0 6 odd_quotient [] None) [] ≡ record { records = []; reply = Aborted ZeroDivisor }
unfolding hidden hidden-the_row-Expr-0
zero_divisor_first = refl

takes_too_much : apply procs (call_of 1 7 take (0 ∷ 9 ∷ []) None) (5 ∷ []) ≡ record { records = 5 ∷ []; reply = Aborted (Code 7) }
unfolding hidden hidden-the_row-Expr-0 hidden-the_row-Stmt-0
takes_too_much = refl

takes_all : apply procs (call_of 1 7 take (0 ∷ 5 ∷ []) None) (5 ∷ []) ≡ record { records = 0 ∷ []; reply = Committed (0 ∷ []) }
unfolding hidden hidden-the_row-Expr-0 hidden-the_row-Stmt-0
takes_all = refl

chooses_the_first : apply procs (call_of 0 8 choose (2 ∷ []) None) [] ≡ record { records = []; reply = Committed (42 ∷ []) }
unfolding hidden hidden-the_row-Expr-0 hidden-the_row-Stmt-0
chooses_the_first = refl

chooses_the_second : apply procs (call_of 0 8 choose (1 ∷ []) None) [] ≡ record { records = []; reply = Committed (41 ∷ []) }
unfolding hidden hidden-the_row-Expr-0 hidden-the_row-Stmt-0
chooses_the_second = refl

chooses_nothing : apply procs (call_of 0 8 choose (0 ∷ []) None) [] ≡ record { records = []; reply = Committed (40 ∷ []) }
unfolding hidden hidden-the_row-Expr-0 hidden-the_row-Stmt-0
chooses_nothing = refl

-- an indirect key: the record that record `arg 0` names is claimed for writing, and is one more afterwards
abbrev pub via_keys : List KeyDecl
via_keys = record { mode = Read; at = at.Arg 0 } ∷ record { mode = Write; at = at.Through 0 } ∷ []

abbrev pub via_body : List Stmt
via_body = Set 1 (Add (Key 1) (Num 1)) ∷ Reply (Key 1) ∷ []

abbrev via : Proc
via = record { edition = One; name = codes "via"; args = 1; keys = via_keys; body = via_body }

finds : apply (via ∷ []) (call_of 3 0 via (0 ∷ []) (Some 2)) (2 ∷ 0 ∷ 7 ∷ []) ≡ record { records = 2 ∷ 0 ∷ 8 ∷ []; reply = Committed (8 ∷ []) }
unfolding hidden hidden-the_row-Expr-0 hidden-the_row-Stmt-0
finds = refl

two_claims : (call_of 3 0 via (0 ∷ []) (Some 2)).claims ≡ record { id = 0; mode = Read } ∷ record { id = 2; mode = Write } ∷ []
two_claims = refl

-- the value found is taken modulo the number of records
finds_around : apply (via ∷ []) (call_of 2 0 via (0 ∷ []) (Some 5)) (5 ∷ 9 ∷ []) ≡ record { records = 5 ∷ 10 ∷ []; reply = Committed (10 ∷ []) }
unfolding hidden hidden-the_row-Expr-0 hidden-the_row-Stmt-0
finds_around = refl

-- one record in both positions
finds_itself : (call_of 1 0 via (0 ∷ []) (Some 0)).claims ≡ record { id = 0; mode = Write } ∷ []
finds_itself = refl

-- another value stands at the source
moved : apply (via ∷ []) (call_of 3 0 via (0 ∷ []) (Some 1)) (2 ∷ 10 ∷ 20 ∷ []) ≡ record { records = 2 ∷ 10 ∷ 20 ∷ []; reply = Aborted Moved }
unfolding hidden hidden-the_row-Expr-0 hidden-the_row-Stmt-0
moved = refl

-- as long as nothing is found the position names no record
not_found : (call_of 3 0 via (0 ∷ []) None).claims ≡ record { id = 0; mode = Read } ∷ []
not_found = refl

-- a local that one list of an `If` sets is not surely set after it
reads_half_set : body_reads_set nothing_set (If (Arg 0) (Let 0 (Num 1) ∷ []) [] ∷ Reply (Local 0) ∷ []) ≡ false
unfolding hidden hidden-the_row-Expr-0 hidden-the_row-Stmt-0
reads_half_set = refl

-- a record's value as often as the list is repeated: locals go on from one turn to the next
abbrev times_keys : List KeyDecl
times_keys = record { mode = Read; at = at.Fixed 0 } ∷ []

abbrev times_body : List Stmt
times_body = Let 0 (Num 0) ∷ Repeat 64 (Let 0 (Add (Local 0) (Key 0)) ∷ []) ∷ Reply (Local 0) ∷ []

abbrev times : Proc
times = record { edition = Two; name = codes "times"; args = 0; keys = times_keys; body = times_body }

repeats : apply (times ∷ []) (call_of 1 0 times [] None) (3 ∷ []) ≡ record { records = 3 ∷ []; reply = Committed (192 ∷ []) }
unfolding hidden hidden-the_row-Expr-0 hidden-the_row-Stmt-0
repeats = refl

-- records and outputs go on from one turn to the next
abbrev doubles_keys : List KeyDecl
doubles_keys = record { mode = Write; at = at.Fixed 0 } ∷ []

abbrev doubles_body : List Stmt
doubles_body = Repeat 3 (Set 0 (Mul (Key 0) (Num 2)) ∷ Reply (Key 0) ∷ []) ∷ []

abbrev doubles : Proc
doubles = record { edition = Two; name = codes "doubles"; args = 0; keys = doubles_keys; body = doubles_body }

doubles_each_turn : apply (doubles ∷ []) (call_of 1 0 doubles [] None) (5 ∷ []) ≡ record { records = 40 ∷ []; reply = Committed (10 ∷ 20 ∷ 40 ∷ []) }
unfolding hidden hidden-the_row-Expr-0 hidden-the_row-Stmt-0
doubles_each_turn = refl

-- a reason in a later turn ends the call, and nothing of the earlier ones stays
overflows_in_a_later_turn : apply (doubles ∷ []) (call_of 1 0 doubles [] None) (4611686018427387904 ∷ []) ≡ record { records = 4611686018427387904 ∷ []; reply = Aborted Overflow }
unfolding hidden hidden-the_row-Expr-0 hidden-the_row-Stmt-0
overflows_in_a_later_turn = refl

-- no turn runs nothing
abbrev none : Proc
none = record { edition = Two; name = codes "none"; args = 0; keys = []; body = Repeat 0 (Abort 1 ∷ []) ∷ Reply (Num 7) ∷ [] }

repeats_nothing : apply (none ∷ []) (call_of 0 0 none [] None) [] ≡ record { records = []; reply = Committed (7 ∷ []) }
unfolding hidden hidden-the_row-Expr-0 hidden-the_row-Stmt-0
repeats_nothing = refl

-- a `Repeat` in a `Repeat`
abbrev nested : Proc
nested = record {
  edition = Two;
  name = codes "nested";
  args = 0;
  keys = [];
  body = Let 0 (Num 0) ∷ Repeat 3 (Repeat 4 (Let 0 (Add (Local 0) (Num 1)) ∷ []) ∷ Reply (Local 0) ∷ []) ∷ [];
}

repeats_in_each_turn : apply (nested ∷ []) (call_of 0 0 nested [] None) [] ≡ record { records = []; reply = Committed (4 ∷ 8 ∷ 12 ∷ []) }
unfolding hidden hidden-the_row-Expr-0 hidden-the_row-Stmt-0
repeats_in_each_turn = refl

-- a procedure of this body and of no key position
abbrev of_body : List Stmt → Proc
of_body body = record { edition = Two; name = []; args = 0; keys = []; body = body }

-- the outputs of each turn count
eight_replies : has_few_replies (of_body (Repeat 8 (Reply (Num 1) ∷ []) ∷ [])) ≡ true
unfolding hidden hidden-the_row-Expr-0 hidden-the_row-Stmt-0
eight_replies = refl

nine_replies : has_few_replies (of_body (Repeat 9 (Reply (Num 1) ∷ []) ∷ [])) ≡ false
unfolding hidden hidden-the_row-Expr-0 hidden-the_row-Stmt-0
nine_replies = refl

replies_eight_times : apply (of_body (Repeat 8 (Reply (Num 1) ∷ []) ∷ []) ∷ []) (call_of 0 0 (of_body []) [] None) [] ≡ record { records = []; reply = Committed (replicate 8 1) }
unfolding hidden hidden-the_row-Expr-0 hidden-the_row-Stmt-0
replies_eight_times = refl

-- what a list sets is surely set after its turns, if it has one
reads_set_by_no_turn : body_reads_set nothing_set (Repeat 0 (Let 0 (Num 1) ∷ []) ∷ Reply (Local 0) ∷ []) ≡ false
unfolding hidden hidden-the_row-Expr-0 hidden-the_row-Stmt-0
reads_set_by_no_turn = refl

reads_set_by_a_turn : body_reads_set nothing_set (Repeat 1 (Let 0 (Num 1) ∷ []) ∷ Reply (Local 0) ∷ []) ≡ true
unfolding hidden hidden-the_row-Expr-0 hidden-the_row-Stmt-0
reads_set_by_a_turn = refl

-- a list reads what is set before its first turn, also where it has none
reads_before_the_first_turn : body_reads_set nothing_set (Repeat 0 (Reply (Local 0) ∷ []) ∷ []) ≡ false
unfolding hidden hidden-the_row-Expr-0 hidden-the_row-Stmt-0
reads_before_the_first_turn = refl

-- as much work as there may be, and one statement more
abbrev heavy : ℕ → List Stmt
heavy aborts = Repeat 64 (Repeat 63 (replicate 8 (Let 0 (Num 1))) ∷ replicate 7 (Let 0 (Num 1))) ∷ replicate aborts (Abort 1)

heaviest : sum_by weight (heavy 63) ≡ 65536
unfolding hidden hidden-the_row-Expr-0 hidden-the_row-Stmt-0
heaviest = refl

heaviest_is_light : is_light (of_body (heavy 63)) ≡ true
unfolding hidden hidden-the_row-Expr-0 hidden-the_row-Stmt-0
heaviest_is_light = refl

one_more_is_not : is_light (of_body (heavy 64)) ≡ false
unfolding hidden hidden-the_row-Expr-0 hidden-the_row-Stmt-0
one_more_is_not = refl

-- the turns that each edition allows
turns_of_two : has_few_turns (of_body (Repeat 64 [] ∷ [])) ≡ true
unfolding hidden hidden-the_row-Expr-0 hidden-the_row-Stmt-0
turns_of_two = refl

too_many_turns : has_few_turns (of_body (If (Num 0) [] (Repeat 65 [] ∷ []) ∷ [])) ≡ false
unfolding hidden hidden-the_row-Expr-0 hidden-the_row-Stmt-0
too_many_turns = refl

no_turns_of_one : has_few_turns (record { edition = One; name = []; args = 0; keys = []; body = If (Num 0) [] (Repeat 0 [] ∷ []) ∷ [] }) ≡ false
unfolding hidden hidden-the_row-Expr-0 hidden-the_row-Stmt-0
no_turns_of_one = refl

-- the key positions that each edition allows
abbrev of_keys : ℕ → Proc
of_keys keys = record { edition = Two; name = []; args = 0; keys = replicate keys (record { mode = Read; at = at.Fixed 0 }); body = [] }

keys_of_two : has_few_keys (of_keys 32) ≡ true
keys_of_two = refl

too_many_keys : has_few_keys (of_keys 33) ≡ false
too_many_keys = refl

keys_of_one : has_few_keys (record (of_keys 16) { edition = One }) ≡ true
keys_of_one = refl

too_many_keys_of_one : has_few_keys (record (of_keys 17) { edition = One }) ≡ false
too_many_keys_of_one = refl

-- `bump` is well-formed, whatever its name
pub bump_is_well_formed : (name : List ℕ) → IsWellFormed (record { edition = One; name = name; args = 1; keys = bump_keys; body = bump_body })
unfolding hidden hidden-the_row-Expr-0
bump_is_well_formed name = record {
  few_args = refl;
  few_keys = refl;
  key_args = refl;
  known_keys = refl;
  writable_keys = refl;
  known_args = refl;
  known_locals = refl;
  set_locals = refl;
  few_replies = refl;
  shallow = refl;
  short = refl;
  sources = refl;
  one_indirect = refl;
  few_turns = refl;
  light = refl;
}
