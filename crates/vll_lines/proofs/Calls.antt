-- The calls that two lists of lines ask for, and how many of these lines ask for counts.
use Rattle.std.proofs.Common.{◌≡◌, ℕ, suc, ◌+◌, List, [], ◌∷◌, ◌++◌, refl, ap, arith, Result, Ok, Err}
use Rattle.vll_lines.specs.Calls.{calls_of, counts_asked, with_call, with_counts}
use Rattle.vll_lines.specs.declared.request.Asked.{Asked}
use Rattle.vll_lines.specs.declared.request.Asked.TheVariants as asked
use Rattle.vll_lines.specs.declared.request.ClientCall.{ClientCall}
use Rattle.vll_lines.specs.declared.request.LineFault.{LineFault}
use Rattle.vll_lines.specs.declared.request.Request.{Request}

one_call : (r : Result Asked LineFault) (all cs ds : List ClientCall) → all ≡ cs ++ ds → with_call r all ≡ with_call r cs ++ ds
one_call (Ok (asked.Call c)) all cs ds same = ap (λ (l : List ClientCall). c ∷ l) same
one_call (Ok asked.Counts) all cs ds same = same
one_call (Ok (asked.Records range)) all cs ds same = same
one_call (Err why) all cs ds same = same

-- the calls of both lists
pub calls_of_both : (xs ys : List Request) → calls_of (xs ++ ys) ≡ calls_of xs ++ calls_of ys
calls_of_both [] ys = refl
calls_of_both (a ∷ xs) ys = one_call a.asked (calls_of (xs ++ ys)) (calls_of xs) (calls_of ys) (calls_of_both xs ys)

one_counts : (r : Result Asked LineFault) (all n m : ℕ) → all ≡ n + m → with_counts r all ≡ with_counts r n + m
one_counts (Ok (asked.Call c)) all n m same = same
one_counts (Ok asked.Counts) all n m same = let e : suc all ≡ suc n + m = omega (arith, same) in e
one_counts (Ok (asked.Records range)) all n m same = same
one_counts (Err why) all n m same = same

-- the lines of both lists that ask for counts
pub counts_asked_both : (xs ys : List Request) → counts_asked (xs ++ ys) ≡ counts_asked xs + counts_asked ys
counts_asked_both [] ys = let e : counts_asked ys ≡ 0 + counts_asked ys = omega arith in e
counts_asked_both (a ∷ xs) ys = one_counts a.asked (counts_asked (xs ++ ys)) (counts_asked xs) (counts_asked ys) (counts_asked_both xs ys)
