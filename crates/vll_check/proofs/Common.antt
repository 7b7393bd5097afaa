-- The names that most proofs of this crate cite, passed on from one place. Declares nothing.
pub use Rattle.std.proofs.lemmas.Bool.{both_ways, cases_Bool, cases_eq, cases_lt, cases_order, eq-eqb, eqb-true, false≢true, ltb-true, ne_eqb, true≢false}
pub use Rattle.std.proofs.lemmas.Cmp.{alike_right, nat_eq_equiv}
pub use Rattle.std.proofs.lemmas.Grind.{common_steps, get_or-set_at}
pub use Rattle.std.proofs.lemmas.List.{ext_get_or, get_or-map, get_or-set_other, get_or-set_same, get_or_default, length-map, length-set, length-take-le, map-append, same_lists, with_items_is}
pub use Rattle.std.proofs.lemmas.List.Elements.{All-from_recursion, All-map, Contains-get_or}
pub use Rattle.std.proofs.lemmas.List.Sorted.{All-permutation, Contains-permutation, IsPermutation-sym, answers_always, length_permutation}
pub use Rattle.std.proofs.lemmas.Map.Keys.{IsDistinct-IsPermutation, IsDistinct-cons, IsDistinct-from_apart, IsDistinct-head, IsDistinct-tail, Less-from_sorted, apart_from_distinct, sorted_from_all_adjacent}
pub use Rattle.std.proofs.lemmas.Map.Text.{is_eq-slice_cmp}
pub use Rattle.std.proofs.lemmas.Option.{get_or_from_slice_get, none-some, same_Some, slice_get-get_or, slice_get_within}
pub use Rattle.std.specs.Cmp.Lexicographic.{nat_list_cmp_total, nat_list_eq_equiv, on_texts, slice_cmp}
pub use Rattle.std.specs.List.{All, AllByRecursion, list_all, list_any, position, position_or_len, slice_get}
pub use Rattle.std.specs.List.Sorted.{IsNonDecreasingBy, IsPartitionPoint, IsPermutation}
pub use Rattle.std.specs.Ordering.{is_eq, is_lt, nat_cmp, ordering_index, ordering_reverse}
pub use Rattle.std.specs.Prelude.{IsTrue, ◌==◌, ◌↔◌}
pub use Rattle.std.specs.Str.{bytes_eq}
pub use Rattle.std.specs.declared.cmp.Ordering.{Ordering}
pub use Rattle.std.specs.declared.cmp.Ordering.TheVariants.{Equal, Greater, Less}
pub use Rattle.vll_check.specs.Calls.{CallsProcedure, Fits, IsReady, bare, bares, call_numbered, call_to, place_is_there}
pub use Rattle.vll_check.specs.Catalog.{IsCatalog}
pub use Rattle.vll_check.specs.Entry.{Entry, procedure_of}
pub use Rattle.vll_check.specs.Faults.{check_fault, fault_unless}
pub use Rattle.vll_check.specs.Headline.Calls.{AreFound, found_by, key_at, named_by, source, source_by, with_found}
pub use Rattle.vll_check.specs.Headline.Catalog.{Catalog}
pub use Rattle.vll_check.specs.Names.{has_name_twice, number_from, number_named}
pub use Rattle.vll_check.specs.Private.Making.{IsMadeFor, IsPlaced, cell_of}
pub use Rattle.vll_check.specs.Private.Order.{AllPassed, AreArranged, AreNumbered, ArePlaced, HaveNumbers, IsInOrder, IsIndexed, by_name, numbered}
pub use Rattle.vll_proc.proofs.Lists.{branches, reads_set_if, reads_set_repeat, replies_if, replies_repeat, set_behind_if, set_behind_repeat, stmt_depth_if, stmt_depth_repeat, stmt_nodes_if, stmt_nodes_repeat, throughout_repeat, turns_are_few_if, turns_are_few_repeat, weight_if, weight_repeat}
pub use Rattle.vll_proc.proofs.Noted.{is_operation}
pub use Rattle.vll_proc.specs.Headline.Made.{asked, asked_by, asking, call_of, place_for, place_of}
pub use Rattle.vll_proc.specs.Headline.Meaning.{led_to, or_else, record_named, source_at, source_of}
pub use Rattle.vll_proc.specs.WellFormed.{Locals, body_depth, body_reads_set, body_set_behind, both_set, reads_set, replies, set_behind, stmt_depth, stmt_nodes, throughout, turns_are_few, weight}
pub use Rattle.vll_proc.specs.declared.call.Call.{Call}
pub use Rattle.vll_proc.specs.declared.limits.TheConstants.{MOST_ARGS, MOST_LOCALS}
pub use Rattle.vll_proc.specs.declared.syntax.KeyAt.{KeyAt}
pub use Rattle.vll_proc.specs.declared.syntax.KeyDecl.{KeyDecl}
pub use Rattle.vll_proc.specs.declared.syntax.Proc.{Proc}
pub use Rattle.vll_proc.specs.declared.syntax.Stmt.{Let, Stmt}
pub use Rattle.vll_record.specs.Headline.Canon.{laid}
pub use Rattle.vll_record.specs.Headline.Claim.{claims_of, stronger, with_claim}
pub use Rattle.vll_record.specs.declared.claim.Claim.{Claim}
pub use Rattle.vll_record.specs.declared.claim.Mode.{Mode}
pub use Rattle.vll_record.specs.declared.claims.TheConstants.{MOST_CLAIMS}
