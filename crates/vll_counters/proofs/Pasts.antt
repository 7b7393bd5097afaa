-- Pasts of one history: what their writes leave, the longer of two, and that one of them begins the other.
use Rattle.std.proofs.Common.{◌≡◌, ◌⊎◌, ℕ, ◌≤◌, Bool, true, false, length, List, [], ◌∷◌, ◌++◌, refl, sym, ap, ◌∙◌, arith, inl, inr, append_assoc, append-nil, slice_set}
use Rattle.vll_counters.proofs.Common.{nat_lt, if◌then◌else◌, nat_tests, Write, written, IsPastOf, longer}

pub written-append : (words : List ℕ) (first more : List Write) → written words (first ++ more) ≡ written (written words first) more
written-append words [] more = refl
written-append words (w ∷ first) more = written-append (slice_set words w.0 w.1) first more

pub past_itself : (all : List Write) → IsPastOf all all
past_itself all = ([], sym (append-nil all))

pub past_longer : (past all more : List Write) → IsPastOf past all → IsPastOf past (all ++ more)
past_longer past all more p = (p.0 ++ more, ap (λ (x : List Write). x ++ more) p.1 ∙ append_assoc past p.0 more)

pub longer_past : (past other all : List Write) → IsPastOf past all → IsPastOf other all → IsPastOf (longer past other) all
longer_past past other all p o = by_length (nat_lt (length past) (length other))
  where
    by_length : (b : Bool) → IsPastOf (if b then other else past) all
    by_length true = o
    by_length false = p

-- the shorter of two beginnings of one list begins the other
shorter_first : (past other all : List Write) → IsPastOf past all → IsPastOf other all → length past ≤ length other → IsPastOf past other
shorter_first [] other all p o short = (other, refl)
shorter_first (x ∷ xs) [] all p o short = absurd (omega (arith, short))
shorter_first (x ∷ xs) (y ∷ ys) all p o short =
    let both : ◌≡◌ {A = List Write} (x ∷ (xs ++ p.0)) (y ∷ (ys ++ o.0)) = sym p.1 ∙ o.1 in
    let head : x ≡ y = cc both in
    let tail : xs ++ p.0 ≡ ys ++ o.0 = cc both in
    let less : length xs ≤ length ys = omega (arith, short) in
    let more = shorter_first xs ys (xs ++ p.0) (p.0, refl) (o.0, tail) less in
    (more.0, λ i. sym head i ∷ more.1 i)

-- by the test of their lengths
pub ordered : (past other all : List Write) (b : Bool) → nat_lt (length past) (length other) ≡ b → IsPastOf past all → IsPastOf other all
    → (IsPastOf past other ⊎ IsPastOf other past) × (IsPastOf past (if b then other else past) × IsPastOf other (if b then other else past))
ordered past other all true test p o =
    let less : length past ≤ length other = grind (arith, nat_tests, test) in
    let begins = shorter_first past other all p o less in (inl begins, (begins, past_itself other))
ordered past other all false test p o =
    let less : length other ≤ length past = grind (arith, nat_tests, test) in
    let begins = shorter_first other past all o p less in (inr begins, (past_itself past, begins))
