-- The names that most proofs of this crate cite, passed on from one place. Declares nothing.
pub use Rattle.std.proofs.lemmas.Bool.{and_from, and_left, and_parts, both_ways, cases_eq, cond-false, cond-true, eqb-true, false_from_ne_true, not-true, or_from, or_left, or_parts, or_right, true≢false}
pub use Rattle.std.proofs.lemmas.List.{append_assoc, get_or-replicate, get_or_default, get_or_read, length-replicate, map-append, take_more}
pub use Rattle.std.proofs.lemmas.List.FromFn.{get_or-enumerate_from, get_or-map-range_with_len, length-enumerate_from, length-map-range_with_len}
pub use Rattle.std.proofs.lemmas.Option.{get_or_from_slice_get, none-some, same_Some, slice_get_within}
pub use Rattle.std.specs.Int.{bit_at, bit_not}
pub use Rattle.std.specs.List.{enumerate_from, filter, list_any, position_or_len}
pub use Rattle.std.specs.Prelude.{All, bit_and, bit_or}
pub use Rattle.vll_record.specs.Claim.{conflict, conflicts}
pub use Rattle.vll_record.specs.Headline.Claim.{is_write}
pub use Rattle.vll_record.specs.declared.claim.Claim.{Claim}
pub use Rattle.vll_record.specs.declared.claim.Mode.{Mode}
pub use Rattle.vll_record.specs.declared.claim.Mode.TheVariants.{Read, Write}
pub use Rattle.vll_sca.specs.Headline.Status.{is_waiting}
pub use Rattle.vll_sca.specs.Private.ClaimMarks.{HasRoom, IsClear, claims_left, meets, passed, read, with_bits, with_claims, written}
pub use Rattle.vll_sca.specs.Scan.{hash_conflict, hashed, holds_back, may_run, scan, scan_numbered}
pub use Rattle.vll_sca.specs.Status.{is_gone}
pub use Rattle.vll_sca.specs.declared.claim_marks.ClaimMarks.{ClaimMarks}
pub use Rattle.vll_sca.specs.declared.entry.Entry.{Entry}
pub use Rattle.vll_sca.specs.declared.status.Status.{Status}
pub use Rattle.vll_sca.specs.declared.status.Status.TheVariants.{Gone, Running, Waiting}
