-- The tokens that are found at the end are those that were handed in, and one that has calls left is spent.
use Rattle.std.proofs.Common.{◌≡◌, ◌<◌, List, ℕ, length, nat_eq, inl, inr, arith}
use Rattle.std.specs.Prelude.{All, IsPermutation}
use Rattle.std.specs.List.{IsDistinct}
use Rattle.std.specs.List.Sorted.{IsNonDecreasingBy}
use Rattle.std.proofs.lemmas.List.Sorted.{All-permutation, IsPermutation-map, IsPermutation-trans}
use Rattle.vll_core.proofs.Places.{all_at}
use Rattle.vll_tokens.specs.Pool.{AreSame}
use Rattle.vll_tokens.specs.Settled.{IsSettled, OneHasLeft}
use Rattle.vll_tokens.specs.Shown.{TokenShown}
use Rattle.vll_tokens.specs.Tokens.{AreBack, IsOf, OneIsSpent, clients_of}
use Rattle.vll_tokens.proofs.Distinct.{rising}
use Rattle.vll_tokens.proofs.Same.{permutation}

-- tokens that have the clients of all, in order of their clients, are those that were handed in
pub are_back : (handed kept back : List TokenShown) → IsDistinct nat_eq (clients_of handed) → AreSame (clients_of handed) (clients_of kept) → All (IsOf handed) kept
    → IsPermutation kept back → IsNonDecreasingBy (λ (t : TokenShown). t.client) back → AreBack handed back
are_back handed kept back distinct same own moved up =
    let all : IsPermutation (clients_of handed) (clients_of back) =
    IsPermutation-trans (clients_of handed) (clients_of kept) (clients_of back) (permutation (clients_of handed) (clients_of kept) same) (IsPermutation-map (λ (t : TokenShown). t.client) kept back moved) in
    record {
      rising = rising (clients_of handed) back distinct all up;
      same = all;
      own = All-permutation (IsOf handed) kept back moved own;
    }

-- one that has calls left is spent
pub one_is_spent : (limit : ℕ) (tokens : List TokenShown) → All (IsSettled limit) tokens → OneHasLeft tokens → OneIsSpent limit tokens
one_is_spent limit tokens settled rest =
    record { index = rest.index; token = rest.token; at = rest.at; left = rest.left; full = full_of rest.token rest.left (all_at (IsSettled limit) tokens rest.index rest.token settled rest.at) }
  where
    full_of : (u : TokenShown) → u.next < length u.script → IsSettled limit u → length u.session.session.seen ≡ limit
    full_of u left (inl through) = absurd (omega (arith, left, through))
    full_of u left (inr full) = full
