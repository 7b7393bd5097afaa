-- The names that most proofs of this crate cite, passed on from one place. Declares nothing.
pub use Rattle.std.proofs.lemmas.Bool.{cases_eq, cases_lt, cond-true, eq-eqb, false≢true, leb-true, lt-ltb, ltb-true}
pub use Rattle.std.proofs.lemmas.List.{get_or-append_right, get_or-map, get_or-set_other, get_or-set_same, get_or_append_left, get_or_past, length-map, length-set, take-append-drop, take-append-le}
pub use Rattle.std.proofs.lemmas.Option.{get_or_from_slice_get, none-some, same_Some, slice_get-get_or, slice_get_within}
pub use Rattle.std.specs.List.{flat_map, list_all}
pub use Rattle.vll_proc.specs.Cells.{AgreeAt, Holds}
pub use Rattle.vll_proc.specs.Epochs.{end_by_epochs, in_a_row, replies_by_epochs}
pub use Rattle.vll_proc.specs.Headline.Made.{asked, asked_by, asking, call_of, place_for, place_of}
pub use Rattle.vll_proc.specs.Headline.Meaning.{Action, Scene, and_then, body, both, difference, effect, equality, found_at, greater, has_moved, in_turn, led_to, lesser, list_effect, opening_scene, operand, or_else, order, product, quotient, record_named, remainder, repeated, source_at, source_of, sum, truth, unless_moved, value_of}
pub use Rattle.vll_proc.specs.Headline.Serial.{After, Made, after, answer, applied, apply, before, end}
pub use Rattle.vll_proc.specs.Made.{IsCallOf, is_led}
pub use Rattle.vll_proc.specs.Private.Running.{HasCells, HasCellsBelow, behind, cell_opening, noted, operation_of, scene_of}
pub use Rattle.vll_proc.specs.WellFormed.{IsWellFormed, Locals, all_leaves, any_leaf, any_stmt, arg_is_below, argument_is_declared, body_depth, body_reads_set, body_set_behind, both_set, depth, has_few_keys, has_few_replies, has_few_turns, has_source, have_sources, is_direct, is_light, is_not_read, key_is_below, let_is_known, list_depth, list_nodes, list_reads_set, list_replies, list_set_behind, list_throughout, list_turns_are_few, list_weight, local_is_known, local_is_set, may_repeat, most_keys, nodes, nothing_set, operand_leaves, reads_set, replies, set_behind, set_is_below, sets_no_read_key, stmt_depth, stmt_nodes, throughout, turns_are_few, weight}
pub use Rattle.vll_proc.specs.declared.call.Call.{Call}
pub use Rattle.vll_proc.specs.declared.call.Reason.{Reason}
pub use Rattle.vll_proc.specs.declared.call.Reason.TheVariants.{Code, Moved, Overflow, Underflow, ZeroDivisor}
pub use Rattle.vll_proc.specs.declared.call.Reply.TheVariants.{Aborted, Committed}
pub use Rattle.vll_proc.specs.declared.limits.TheConstants.{MOST_ARGS, MOST_LOCALS}
pub use Rattle.vll_proc.specs.declared.syntax.Edition.{Edition}
pub use Rattle.vll_proc.specs.declared.syntax.Edition.TheVariants.{One, Two}
pub use Rattle.vll_proc.specs.declared.syntax.Expr.{Add, Add', Arg, Div, Div', Equal, Equal', Expr, Key, Less, Less', Local, Max, Max', Min, Min', Mul, Mul', Not, Not', Num, Rem, Rem', Row_of-Expr, Sub, Sub', end_of-Expr, more_of-Expr}
pub use Rattle.vll_proc.specs.declared.syntax.KeyDecl.{KeyDecl}
pub use Rattle.vll_proc.specs.declared.syntax.Proc.{Proc}
pub use Rattle.vll_proc.specs.declared.syntax.Stmt.{Abort, If, If', Let, Repeat, Repeat', Reply, Row_of-Stmt, Set, Stmt, end_of-Stmt, more_of-Stmt}
pub use Rattle.vll_record.proofs.ClaimsOf.{IsRising-claims_of, length-claims_of-le, mode_on-claims_of}
pub use Rattle.vll_record.specs.Claim.{IsRising, mode_on, stronger_of}
pub use Rattle.vll_record.specs.declared.claim.Claim.{Claim}
pub use Rattle.vll_record.specs.declared.claim.Mode.{Mode}
pub use Rattle.vll_record.specs.declared.claim.Mode.TheVariants.{Read, Write}
pub use Rattle.vll_record.specs.declared.claims.TheConstants.{MOST_CLAIMS}
