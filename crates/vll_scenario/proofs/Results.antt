-- What a `Result` was before its fault was replaced.
use Rattle.std.proofs.Common.{◌≡◌, Result, Ok, Err, MatchResult, is_ok, ap}

-- a result whose fault alone was replaced
pub ok_before : {T E D : Type 0} (was : Result T E) (now : Result T D) (Fault : E → Type 0) (x : T) → MatchResult was (λ y. now ≡ Ok y) Fault → is_ok now ≡ is_ok was → now ≡ Ok x → was ≡ Ok x
ok_before (Ok y) now Fault x cases variant is = let same : y ≡ x = cc in ap Ok same
ok_before (Err e) now Fault x cases variant is = absurd (cc)
