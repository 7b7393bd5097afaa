-- The names that most proofs of this crate cite, passed on from one place. Declares nothing.
pub use Rattle.std.proofs.Math.Seq.{drop-cons, map-set_same}
pub use Rattle.std.proofs.lemmas.Bool.{cases_eq, cases_lt, cases_order, cond-false, cond-true, cond_both, eq-eqb, eqb-false, false≢true, le-ltb, leb-false, leb-true, lt-ltb, ltb-false, ltb-true, ne_eqb}
pub use Rattle.std.proofs.lemmas.Bool.Decides.{Decides-eqb}
pub use Rattle.std.proofs.lemmas.List.{drop-append-le, drop-map, drop-replicate, get_or-set_other, get_or-set_same, length-map, length-replicate, length-take-le, map-append, map-set, set-get_or, set_split, take-append-drop, take-append-le, take-map, take-take}
pub use Rattle.std.proofs.lemmas.List.Edits.{length-insert}
pub use Rattle.std.proofs.lemmas.List.Sums.{count_by-le-length, fails_before_first, passes_at_first, prefix_len-le-length, sum_by-append}
pub use Rattle.std.proofs.lemmas.Nat.{and_mask, mod_low, or_shifted, pow_below, pow_pos, shr_high}
pub use Rattle.std.proofs.lemmas.Option.{get_or_from_slice_get, none-some, same_Some, slice_get-get_or, slice_get_within}
pub use Rattle.std.proofs.lemmas.Slice.Eq.{slice_eq-Decides}
pub use Rattle.std.specs.List.{copy_within, position, position_or_len}
pub use Rattle.vll_record.specs.Claim.{AreClaimsOf, IsRising, conflict, is_same_claim, mode_on, stronger_of}
pub use Rattle.vll_record.specs.Headline.Claim.{claims_of, is_write, stronger, with_claim}
pub use Rattle.vll_record.specs.Private.Kept.{IsCanonical, from_list, ids_of, kept}
pub use Rattle.vll_record.specs.Private.Masks.{claims_with, mask_of}
pub use Rattle.vll_record.specs.declared.claim.Claim.{Claim}
pub use Rattle.vll_record.specs.declared.claim.Mode.{Mode}
pub use Rattle.vll_record.specs.declared.claim.Mode.TheVariants.{Read, Write}
pub use Rattle.vll_record.specs.declared.claims.Claims.TheInside.{Inside}
pub use Rattle.vll_record.specs.declared.claims.TheConstants.{MOST_CLAIMS}
