-- Whether the pieces of a procedure pass its tests, each by what the piece has and what came before it.
use Rattle.std.specs.Prelude.{ℕ, Bool, true, false, ◌&&◌, ◌||◌, not, nat_le, List, length, Some, slice_set, sum_by}
use Rattle.std.specs.List.{list_all}
use Rattle.vll_proc.specs.declared.limits.TheConstants.{MOST_OUTPUTS, MOST_DEPTH, MOST_NODES, MOST_WEIGHT}
use Rattle.vll_proc.specs.declared.syntax.Expr.{Expr}
use Rattle.vll_proc.specs.declared.syntax.KeyDecl.{KeyDecl}
use Rattle.vll_proc.specs.declared.syntax.Proc.{Proc}
use Rattle.vll_proc.specs.declared.syntax.Stmt.{Stmt}
use Rattle.vll_proc.specs.WellFormed.{all_leaves, any_leaf, any_stmt, arg_is_below, argument_is_declared, body_depth, body_reads_set, body_set_behind, both_set, has_declared_key_args, has_earlier_sources, has_few_args, has_few_keys, has_one_indirect_key, has_records, has_source, is_direct, key_is_below, let_is_known, local_is_known, local_is_set, nothing_set, reads_set, record_is_there, replies, set_behind, set_is_below, sets_no_read_key, stmt_depth, stmt_nodes, throughout, turns_are_few, weight}
use Rattle.vll_check.specs.declared.fault.CheckFault.{CheckFault}
use Rattle.vll_check.specs.declared.piece.Before.{Before}
use Rattle.vll_check.specs.declared.fault.CheckFault.TheVariants.{TooManyArgs, TooManyKeys, KeyArg, FixedRecord, UnknownKey, NotWritable, UnknownArg, UnknownLocal, UnsetLocal, TooManyReplies, TooDeep, TooLong, ThroughKey, TwoThrough, Turns, TooMuchWork}

-- before the first piece of a procedure
abbrev pub nothing_before : Before
nothing_before = record { indirect = false; set = nothing_set }

-- once a key position has come
abbrev pub after_key : Before → KeyDecl → Before
after_key b k = record b { indirect = b.indirect || not (is_direct (Some k)) }

-- once a `Let` of a local has come
abbrev pub with_local : Before → ℕ → Before
with_local b i = record b { set = slice_set b.set i true }

-- once an `If` has come, behind whose lists two states hold
abbrev pub join : Before → Before → Before
join b other = record b { set = both_set b.set other.set }

-- once a statement has come
abbrev pub after_statement : Before → Stmt → Before
after_statement b st = record b { set = set_behind st b.set }

-- once a list of statements has come
abbrev pub after_list : Before → List Stmt → Before
after_list b list = record b { set = body_set_behind list b.set }

-- the number of arguments passes the test with this fault
abbrev pub args_pass : CheckFault → Proc → Bool
args_pass TooManyArgs p = has_few_args p
args_pass why p = true

-- all key positions together pass it; the tests of sources come after that of their number
abbrev pub keys_pass : CheckFault → ℕ → Proc → Bool
keys_pass TooManyKeys records p = has_few_keys p
keys_pass KeyArg records p = has_declared_key_args p
keys_pass FixedRecord records p = has_records records p
keys_pass ThroughKey records p = has_few_keys p && has_earlier_sources p
keys_pass TwoThrough records p = has_few_keys p && has_one_indirect_key p
keys_pass why records p = true

-- the key position at an index passes it
abbrev pub key_passes : CheckFault → ℕ → Proc → Before → ℕ → KeyDecl → Bool
key_passes KeyArg records p before place k = argument_is_declared p.args k
key_passes FixedRecord records p before place k = record_is_there records k
key_passes ThroughKey records p before place k = has_source p.keys place k
key_passes TwoThrough records p before place k = not before.indirect || is_direct (Some k)
key_passes why records p before place k = true

-- a list of statements passes it
abbrev pub list_passes : CheckFault → Proc → Before → List Stmt → Bool
list_passes UnknownKey p before list = list_all (throughout (key_is_below (length p.keys)) (set_is_below (length p.keys))) list
list_passes NotWritable p before list = list_all (throughout any_leaf (sets_no_read_key p.keys)) list
list_passes UnknownArg p before list = list_all (throughout (arg_is_below p.args) any_stmt) list
list_passes UnknownLocal p before list = list_all (throughout local_is_known let_is_known) list
list_passes UnsetLocal p before list = body_reads_set before.set list
list_passes TooManyReplies p before list = nat_le (sum_by replies list) MOST_OUTPUTS
list_passes TooDeep p before list = nat_le (body_depth list) MOST_DEPTH
list_passes TooLong p before list = nat_le (sum_by stmt_nodes list) MOST_NODES
list_passes Turns p before list = list_all (turns_are_few p.edition) list
list_passes TooMuchWork p before list = nat_le (sum_by weight list) MOST_WEIGHT
list_passes why p before list = true

-- a statement passes it, as far as the test is of each statement
abbrev pub statement_passes : CheckFault → Proc → Before → Stmt → Bool
statement_passes UnknownKey p before st = throughout (key_is_below (length p.keys)) (set_is_below (length p.keys)) st
statement_passes NotWritable p before st = throughout any_leaf (sets_no_read_key p.keys) st
statement_passes UnknownArg p before st = throughout (arg_is_below p.args) any_stmt st
statement_passes UnknownLocal p before st = throughout local_is_known let_is_known st
statement_passes UnsetLocal p before st = reads_set before.set st
statement_passes TooDeep p before st = nat_le (stmt_depth st) MOST_DEPTH
statement_passes Turns p before st = turns_are_few p.edition st
statement_passes why p before st = true

-- an expression passes it, as far as the test is of each expression
abbrev pub expression_passes : CheckFault → Proc → Before → Expr → Bool
expression_passes UnknownKey p before e = all_leaves (key_is_below (length p.keys)) e
expression_passes UnknownArg p before e = all_leaves (arg_is_below p.args) e
expression_passes UnknownLocal p before e = all_leaves local_is_known e
expression_passes UnsetLocal p before e = all_leaves (local_is_set before.set) e
expression_passes why p before e = true
