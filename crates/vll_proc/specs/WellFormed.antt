-- Which procedures are well-formed: the tests look at the text alone.
use Rattle.std.specs.Prelude.{◌≡◌, ℕ, suc, ◌+◌, ◌*◌, max, Bool, true, false, ◌&&◌, ◌==◌, if◌then◌else◌, nat_lt, nat_le, List, [], ◌∷◌, length, replicate, get_or, sum_by, Option, Some, None, slice_get, slice_set}
use Rattle.std.specs.List.{list_all}
use Rattle.vll_record.specs.declared.claims.TheConstants.{MOST_CLAIMS}
use Rattle.vll_proc.specs.declared.limits.TheConstants.{FIRST_MOST_KEYS, MOST_ARGS, MOST_LOCALS, MOST_OUTPUTS, MOST_DEPTH, MOST_NODES, MOST_TURNS, MOST_WEIGHT}
use Rattle.vll_record.specs.declared.claim.Mode.TheVariants.{Read, Write}
use Rattle.vll_proc.specs.declared.syntax.Edition.{Edition}
use Rattle.vll_proc.specs.declared.syntax.Edition.TheVariants.{One, Two}
use Rattle.vll_proc.specs.declared.syntax.KeyAt.TheVariants as at
use Rattle.vll_proc.specs.declared.syntax.KeyDecl.{KeyDecl}
use Rattle.vll_proc.specs.declared.syntax.Proc.{Proc}
use Rattle.vll_proc.specs.declared.syntax.Expr.{Expr, Row_of-Expr, end_of-Expr, more_of-Expr, Arg, Key, Local, Add', Sub', Mul', Div', Rem', Min', Max', Equal', Less', Not'}
use Rattle.vll_proc.specs.declared.syntax.Stmt.{Stmt, Row_of-Stmt, end_of-Stmt, more_of-Stmt, Let, Set, If', Abort, Reply, Repeat'}

-- a key whose record is named by an argument uses one of the declared arguments
abbrev pub argument_is_declared : ℕ → KeyDecl → Bool
argument_is_declared args k = elim k.at [ at.Fixed r ↦ true | at.Arg i ↦ nat_lt i args | at.Through i ↦ true ]

-- a fixed record is one of the records
abbrev pub record_is_there : ℕ → KeyDecl → Bool
record_is_there records k = elim k.at [ at.Fixed r ↦ nat_lt r records | at.Arg i ↦ true | at.Through i ↦ true ]

-- a key position that names its record directly
abbrev pub is_direct : Option KeyDecl → Bool
is_direct None = false
is_direct (Some k) = elim k.at [ at.Fixed r ↦ true | at.Arg i ↦ true | at.Through i ↦ false ]

-- an indirect key position at index `place` finds its record by an earlier one, which names its own directly
abbrev pub has_source : List KeyDecl → ℕ → KeyDecl → Bool
has_source all place k = elim k.at [ at.Fixed r ↦ true | at.Arg i ↦ true | at.Through i ↦ nat_lt i place && is_direct (slice_get all i) ]

-- as `has_source`, for the key positions from index `place` on
abbrev pub have_sources : List KeyDecl → ℕ → List KeyDecl → Bool
have_sources all place [] = true
have_sources all place (k ∷ ks) = has_source all place k && have_sources all (suc place) ks

-- 1 for an indirect key position
abbrev pub indirect : KeyDecl → ℕ
indirect k = elim k.at [ at.Fixed r ↦ 0 | at.Arg i ↦ 0 | at.Through i ↦ 1 ]

-- a test holds for each number, argument, key position and local in an expression
abbrev mutual
  pub all_leaves : (Expr → Bool) → Expr → Bool
  all_leaves test (Add' p a q b) = operand_leaves test a && operand_leaves test b
  all_leaves test (Sub' p a q b) = operand_leaves test a && operand_leaves test b
  all_leaves test (Mul' p a q b) = operand_leaves test a && operand_leaves test b
  all_leaves test (Div' p a q b) = operand_leaves test a && operand_leaves test b
  all_leaves test (Rem' p a q b) = operand_leaves test a && operand_leaves test b
  all_leaves test (Min' p a q b) = operand_leaves test a && operand_leaves test b
  all_leaves test (Max' p a q b) = operand_leaves test a && operand_leaves test b
  all_leaves test (Equal' p a q b) = operand_leaves test a && operand_leaves test b
  all_leaves test (Less' p a q b) = operand_leaves test a && operand_leaves test b
  all_leaves test (Not' p a) = operand_leaves test a
  all_leaves test leaf = test leaf

  pub operand_leaves : {m : _} → (Expr → Bool) → Row_of-Expr m → Bool
  operand_leaves test end_of-Expr = true
  operand_leaves test (more_of-Expr e rest) = all_leaves test e

-- a test of leaves holds for each expression in a statement, and a test of statements
-- for each `Let` and `Set` in it, those in its lists included
abbrev mutual
  pub throughout : (Expr → Bool) → (Stmt → Bool) → Stmt → Bool
  throughout leaf test (Let i e) = test (Let i e) && all_leaves leaf e
  throughout leaf test (Set i e) = test (Set i e) && all_leaves leaf e
  throughout leaf test (If' e m first n second) = all_leaves leaf e && list_throughout leaf test first && list_throughout leaf test second
  throughout leaf test (Abort code) = true
  throughout leaf test (Reply e) = all_leaves leaf e
  throughout leaf test (Repeat' turns m list) = list_throughout leaf test list

  pub list_throughout : {m : _} → (Expr → Bool) → (Stmt → Bool) → Row_of-Stmt m → Bool
  list_throughout leaf test end_of-Stmt = true
  list_throughout leaf test (more_of-Stmt st rest) = throughout leaf test st && list_throughout leaf test rest

-- a key position that is read is below a number
abbrev pub key_is_below : ℕ → Expr → Bool
key_is_below n (Key i) = nat_lt i n
key_is_below n leaf = true

-- an argument that is read is below a number
abbrev pub arg_is_below : ℕ → Expr → Bool
arg_is_below n (Arg i) = nat_lt i n
arg_is_below n leaf = true

-- a local that is read exists
abbrev pub local_is_known : Expr → Bool
local_is_known (Local i) = nat_lt i MOST_LOCALS
local_is_known leaf = true

-- a key position that is set is below a number
abbrev pub set_is_below : ℕ → Stmt → Bool
set_is_below n (Set i e) = nat_lt i n
set_is_below n st = true

-- a local that is set exists
abbrev pub let_is_known : Stmt → Bool
let_is_known (Let i e) = nat_lt i MOST_LOCALS
let_is_known st = true

-- a key position is not one that is declared Read
abbrev pub is_not_read : Option KeyDecl → Bool
is_not_read None = true
is_not_read (Some k) = elim k.mode [ Read ↦ false | Write ↦ true ]

-- what is set is not a key position that is declared Read
abbrev pub sets_no_read_key : List KeyDecl → Stmt → Bool
sets_no_read_key keys (Set i e) = is_not_read (slice_get keys i)
sets_no_read_key keys st = true

-- every expression passes
abbrev pub any_leaf : Expr → Bool
any_leaf e = true

-- every statement passes
abbrev pub any_stmt : Stmt → Bool
any_stmt st = true

-- for each local, whether it is surely set
abbrev pub Locals : Type 0
Locals = List Bool

-- none is set
abbrev pub nothing_set : Locals
nothing_set = replicate MOST_LOCALS false

-- a local that is read is surely set
abbrev pub local_is_set : Locals → Expr → Bool
local_is_set set (Local i) = get_or set i false
local_is_set set leaf = true

-- the locals that both have set
abbrev pub both_set : Locals → Locals → Locals
both_set [] b = []
both_set (x ∷ xs) [] = []
both_set (x ∷ xs) (y ∷ ys) = (x && y) ∷ both_set xs ys

-- what is surely set after a statement: `Let` adds its local, an `If` what both of its lists set,
-- and a `Repeat` that has a turn what its list sets
abbrev mutual
  pub set_behind : Stmt → Locals → Locals
  set_behind (Let i e) set = slice_set set i true
  set_behind (If' e m first n second) set = both_set (list_set_behind first set) (list_set_behind second set)
  set_behind (Repeat' turns m list) set = if turns == 0 then set else list_set_behind list set
  set_behind st set = set

  pub list_set_behind : {m : _} → Row_of-Stmt m → Locals → Locals
  list_set_behind end_of-Stmt set = set
  list_set_behind (more_of-Stmt st rest) set = list_set_behind rest (set_behind st set)

-- what is surely set after a body
abbrev pub body_set_behind : List Stmt → Locals → Locals
body_set_behind [] set = set
body_set_behind (st ∷ sts) set = body_set_behind sts (set_behind st set)

-- each local that a statement reads is surely set before; for the list of a `Repeat`,
-- that means before its first turn, even if it has no turn
abbrev mutual
  pub reads_set : Locals → Stmt → Bool
  reads_set set (Let i e) = all_leaves (local_is_set set) e
  reads_set set (Set i e) = all_leaves (local_is_set set) e
  reads_set set (If' e m first n second) = all_leaves (local_is_set set) e && list_reads_set set first && list_reads_set set second
  reads_set set (Abort code) = true
  reads_set set (Reply e) = all_leaves (local_is_set set) e
  reads_set set (Repeat' turns m list) = list_reads_set set list

  pub list_reads_set : {m : _} → Locals → Row_of-Stmt m → Bool
  list_reads_set set end_of-Stmt = true
  list_reads_set set (more_of-Stmt st rest) = reads_set set st && list_reads_set (set_behind st set) rest

-- as `reads_set`, for a body, from what is set before it
abbrev pub body_reads_set : Locals → List Stmt → Bool
body_reads_set set [] = true
body_reads_set set (st ∷ sts) = reads_set set st && body_reads_set (set_behind st set) sts

-- the number of outputs of a statement: an `If` counts the greater of its two lists, a `Repeat` its list in each turn
abbrev mutual
  pub replies : Stmt → ℕ
  replies (If' e m first n second) = max (list_replies first) (list_replies second)
  replies (Reply e) = 1
  replies (Repeat' turns m list) = turns * list_replies list
  replies st = 0

  pub list_replies : {m : _} → Row_of-Stmt m → ℕ
  list_replies end_of-Stmt = 0
  list_replies (more_of-Stmt st rest) = replies st + list_replies rest

-- the depth of an expression: an operator is one deeper than its deepest operand
abbrev mutual
  pub depth : Expr → ℕ
  depth (Add' p a q b) = suc (max (operand_depth a) (operand_depth b))
  depth (Sub' p a q b) = suc (max (operand_depth a) (operand_depth b))
  depth (Mul' p a q b) = suc (max (operand_depth a) (operand_depth b))
  depth (Div' p a q b) = suc (max (operand_depth a) (operand_depth b))
  depth (Rem' p a q b) = suc (max (operand_depth a) (operand_depth b))
  depth (Min' p a q b) = suc (max (operand_depth a) (operand_depth b))
  depth (Max' p a q b) = suc (max (operand_depth a) (operand_depth b))
  depth (Equal' p a q b) = suc (max (operand_depth a) (operand_depth b))
  depth (Less' p a q b) = suc (max (operand_depth a) (operand_depth b))
  depth (Not' p a) = suc (operand_depth a)
  depth leaf = 1

  pub operand_depth : {m : _} → Row_of-Expr m → ℕ
  operand_depth end_of-Expr = 0
  operand_depth (more_of-Expr e rest) = depth e

-- the depth of a statement: one more than that of the deepest expression or statement in it
abbrev mutual
  pub stmt_depth : Stmt → ℕ
  stmt_depth (Let i e) = suc (depth e)
  stmt_depth (Set i e) = suc (depth e)
  stmt_depth (If' e m first n second) = suc (max (depth e) (max (list_depth first) (list_depth second)))
  stmt_depth (Abort code) = 1
  stmt_depth (Reply e) = suc (depth e)
  stmt_depth (Repeat' turns m list) = suc (list_depth list)

  pub list_depth : {m : _} → Row_of-Stmt m → ℕ
  list_depth end_of-Stmt = 0
  list_depth (more_of-Stmt st rest) = max (stmt_depth st) (list_depth rest)

-- the depth of a body: that of its deepest statement
abbrev pub body_depth : List Stmt → ℕ
body_depth [] = 0
body_depth (st ∷ sts) = max (stmt_depth st) (body_depth sts)

-- the number of expressions in an expression, counting itself
abbrev mutual
  pub nodes : Expr → ℕ
  nodes (Add' p a q b) = suc (operand_nodes a + operand_nodes b)
  nodes (Sub' p a q b) = suc (operand_nodes a + operand_nodes b)
  nodes (Mul' p a q b) = suc (operand_nodes a + operand_nodes b)
  nodes (Div' p a q b) = suc (operand_nodes a + operand_nodes b)
  nodes (Rem' p a q b) = suc (operand_nodes a + operand_nodes b)
  nodes (Min' p a q b) = suc (operand_nodes a + operand_nodes b)
  nodes (Max' p a q b) = suc (operand_nodes a + operand_nodes b)
  nodes (Equal' p a q b) = suc (operand_nodes a + operand_nodes b)
  nodes (Less' p a q b) = suc (operand_nodes a + operand_nodes b)
  nodes (Not' p a) = suc (operand_nodes a)
  nodes leaf = 1

  pub operand_nodes : {m : _} → Row_of-Expr m → ℕ
  operand_nodes end_of-Expr = 0
  operand_nodes (more_of-Expr e rest) = nodes e

-- the number of statements and expressions in a statement, counting itself
abbrev mutual
  pub stmt_nodes : Stmt → ℕ
  stmt_nodes (Let i e) = suc (nodes e)
  stmt_nodes (Set i e) = suc (nodes e)
  stmt_nodes (If' e m first n second) = suc (nodes e + (list_nodes first + list_nodes second))
  stmt_nodes (Abort code) = 1
  stmt_nodes (Reply e) = suc (nodes e)
  stmt_nodes (Repeat' turns m list) = suc (list_nodes list)

  pub list_nodes : {m : _} → Row_of-Stmt m → ℕ
  list_nodes end_of-Stmt = 0
  list_nodes (more_of-Stmt st rest) = stmt_nodes st + list_nodes rest

-- the work of a statement: each statement and expression in it, counting itself, is 1, those in a `Repeat` in each turn
abbrev mutual
  pub weight : Stmt → ℕ
  weight (Let i e) = suc (nodes e)
  weight (Set i e) = suc (nodes e)
  weight (If' e m first n second) = suc (nodes e + (list_weight first + list_weight second))
  weight (Abort code) = 1
  weight (Reply e) = suc (nodes e)
  weight (Repeat' turns m list) = suc (turns * list_weight list)

  pub list_weight : {m : _} → Row_of-Stmt m → ℕ
  list_weight end_of-Stmt = 0
  list_weight (more_of-Stmt st rest) = weight st + list_weight rest

-- a `Repeat` with this number of turns is allowed in a procedure of this edition
abbrev pub may_repeat : Edition → ℕ → Bool
may_repeat One turns = false
may_repeat Two turns = nat_le turns MOST_TURNS

-- each `Repeat` in a statement is allowed in a procedure of this edition
abbrev mutual
  pub turns_are_few : Edition → Stmt → Bool
  turns_are_few edition (If' e m first n second) = list_turns_are_few edition first && list_turns_are_few edition second
  turns_are_few edition (Repeat' turns m list) = may_repeat edition turns && list_turns_are_few edition list
  turns_are_few edition st = true

  pub list_turns_are_few : {m : _} → Edition → Row_of-Stmt m → Bool
  list_turns_are_few edition end_of-Stmt = true
  list_turns_are_few edition (more_of-Stmt st rest) = turns_are_few edition st && list_turns_are_few edition rest

-- the greatest number of key positions that a procedure of this edition declares
abbrev pub most_keys : Edition → ℕ
most_keys One = FIRST_MOST_KEYS
most_keys Two = MOST_CLAIMS

-- no more arguments than a call may have
abbrev pub has_few_args : Proc → Bool
has_few_args p = nat_le p.args MOST_ARGS

-- no more key positions than the edition allows
abbrev pub has_few_keys : Proc → Bool
has_few_keys p = nat_le (length p.keys) (most_keys p.edition)

-- each argument that names a key's record is declared
abbrev pub has_declared_key_args : Proc → Bool
has_declared_key_args p = list_all (argument_is_declared p.args) p.keys

-- each fixed record is one of the records: the only test that depends on their number
abbrev pub has_records : ℕ → Proc → Bool
has_records records p = list_all (record_is_there records) p.keys

-- each key position that is read or set is declared
abbrev pub has_known_keys : Proc → Bool
has_known_keys p = list_all (throughout (key_is_below (length p.keys)) (set_is_below (length p.keys))) p.body

-- no key position that is declared Read is set
abbrev pub has_writable_keys : Proc → Bool
has_writable_keys p = list_all (throughout any_leaf (sets_no_read_key p.keys)) p.body

-- each argument that is read is declared
abbrev pub has_known_args : Proc → Bool
has_known_args p = list_all (throughout (arg_is_below p.args) any_stmt) p.body

-- each local that is read or set exists
abbrev pub has_known_locals : Proc → Bool
has_known_locals p = list_all (throughout local_is_known let_is_known) p.body

-- each local that is read is surely set before
abbrev pub reads_set_locals : Proc → Bool
reads_set_locals p = body_reads_set nothing_set p.body

-- no more outputs than a reply may have
abbrev pub has_few_replies : Proc → Bool
has_few_replies p = nat_le (sum_by replies p.body) MOST_OUTPUTS

-- the body is no deeper than a body may be
abbrev pub is_shallow : Proc → Bool
is_shallow p = nat_le (body_depth p.body) MOST_DEPTH

-- the body has no more statements and expressions than a body may have
abbrev pub is_short : Proc → Bool
is_short p = nat_le (sum_by stmt_nodes p.body) MOST_NODES

-- each indirect key position finds its record by an earlier one, which names its own directly
abbrev pub has_earlier_sources : Proc → Bool
has_earlier_sources p = have_sources p.keys 0 p.keys

-- at most one key position is indirect
abbrev pub has_one_indirect_key : Proc → Bool
has_one_indirect_key p = nat_le (sum_by indirect p.keys) 1

-- each `Repeat` in the body is allowed in a procedure of its edition
abbrev pub has_few_turns : Proc → Bool
has_few_turns p = list_all (turns_are_few p.edition) p.body

-- the body has no more work than a body may have
abbrev pub is_light : Proc → Bool
is_light p = nat_le (sum_by weight p.body) MOST_WEIGHT

-- well-formed, whatever the number of records
pub record IsWellFormed (p : Proc) : Type 0 where
  pub few_args : has_few_args p ≡ true
  pub few_keys : has_few_keys p ≡ true
  pub key_args : has_declared_key_args p ≡ true
  pub known_keys : has_known_keys p ≡ true
  pub writable_keys : has_writable_keys p ≡ true
  pub known_args : has_known_args p ≡ true
  pub known_locals : has_known_locals p ≡ true
  pub set_locals : reads_set_locals p ≡ true
  pub few_replies : has_few_replies p ≡ true
  pub shallow : is_shallow p ≡ true
  pub short : is_short p ≡ true
  pub sources : has_earlier_sources p ≡ true
  pub one_indirect : has_one_indirect_key p ≡ true
  pub few_turns : has_few_turns p ≡ true
  pub light : is_light p ≡ true
