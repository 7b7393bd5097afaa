-- Clients none of which occurs twice.
use Rattle.std.proofs.Common.{◌≡◌, ◌<◌, ◌≤◌, ℕ, suc, List, [], ◌∷◌, ◌++◌, false, refl, sym, subst, ◌∙◌, ap, arith, nat_eq, length}
use Rattle.std.specs.Prelude.{All, IsPermutation}
use Rattle.std.specs.Cmp.{nat_eq_equiv}
use Rattle.std.specs.List.{IsDistinct, list_any}
use Rattle.std.specs.List.Sorted.{IsNonDecreasing, IsNonDecreasingBy, IsStrictlyIncreasing}
use Rattle.std.proofs.lemmas.Bool.Decides.{nat_tests}
use Rattle.std.proofs.lemmas.List.{get_or-map, length-map, map-append}
use Rattle.std.proofs.lemmas.List.Elements.{All-head, All-push, All-tail, All-weaker}
use Rattle.std.proofs.lemmas.Map.Keys.{IsDistinct-IsPermutation, IsDistinct-from_apart, IsDistinct-push, IsStrictlyIncreasing-from_distinct}
use Rattle.vll_tokens.specs.Shown.{TokenShown}
use Rattle.vll_tokens.specs.Tokens.{clients_of}

-- the clients of tokens in order of their clients
in_order : (back : List TokenShown) → IsNonDecreasingBy (λ (t : TokenShown). t.client) back → IsNonDecreasing (clients_of back)
in_order [] up i j d before within = absurd (omega (arith, within))
in_order (t ∷ ts) up i j d before within =
    let client = λ (u : TokenShown). u.client in
    let many : length (clients_of (t ∷ ts)) ≡ length (t ∷ ts) = length-map (t ∷ ts) client in
    let a = get_or-map client (t ∷ ts) i t d (omega (arith, before, within, many)) in
    let b = get_or-map client (t ∷ ts) j t d (omega (arith, within, many)) in
    let u = up i j t before (omega (arith, within, many)) in
    omega (arith, a, b, u)

-- put in order, they rise
pub rising : (clients : List ℕ) (back : List TokenShown) → IsDistinct nat_eq clients → IsPermutation clients (clients_of back)
    → IsNonDecreasingBy (λ (t : TokenShown). t.client) back → IsStrictlyIncreasing (clients_of back)
rising clients back distinct moved up =
    IsStrictlyIncreasing-from_distinct (clients_of back) (in_order back up) (IsDistinct-IsPermutation nat_eq nat_eq_equiv.symm clients (clients_of back) moved distinct)

other : (n m : ℕ) → n < m → nat_eq n m ≡ false
other n m less = grind (arith, nat_tests)

-- a client below those of all tokens is none of them
none_equal : (tokens : List TokenShown) (client : ℕ) → All (λ (t : TokenShown). client < t.client) tokens → list_any (nat_eq client) (clients_of tokens) ≡ false
none_equal [] client above = refl
none_equal (t ∷ tokens) client above =
    let here : nat_eq client t.client ≡ false = other client t.client (All-head (λ (u : TokenShown). client < u.client) t tokens above) in
    let rest : list_any (nat_eq client) (clients_of tokens) ≡ false = none_equal tokens client (All-tail (λ (u : TokenShown). client < u.client) t tokens above) in
    rw here rest

-- no tokens, no clients
pub distinct_none : (tokens : List TokenShown) → tokens ≡ [] → IsDistinct nat_eq (clients_of tokens)
distinct_none tokens is =
    subst (λ (ts : List TokenShown). IsDistinct nat_eq (clients_of ts)) (sym is) (IsDistinct-from_apart nat_eq [] (λ i j d before within. let nothing : j < 0 = within in absurd (omega (arith, nothing))))

-- clients from one on, and the one before
pub above_push : (n m : ℕ) (tokens new : List TokenShown) (t : TokenShown) → n ≡ suc m → t.client ≡ m → new ≡ tokens ++ t ∷ [] → All (λ (u : TokenShown). n ≤ u.client) tokens → All (λ (u : TokenShown). m ≤ u.client) new
above_push n m tokens new t next client is above =
    let below : (u : TokenShown) → n ≤ u.client → m ≤ u.client = λ u le. omega (arith, next, le) in
    subst (All (λ (u : TokenShown). m ≤ u.client)) (sym is) (All-push (λ (u : TokenShown). m ≤ u.client) tokens t (All-weaker (λ (u : TokenShown). n ≤ u.client) (λ (u : TokenShown). m ≤ u.client) below tokens above) (omega (arith, client)))

-- a token after others, whose client is below theirs
pub distinct_push : (n : ℕ) (tokens new : List TokenShown) (t : TokenShown) → n ≡ suc t.client → new ≡ tokens ++ t ∷ [] → All (λ (u : TokenShown). n ≤ u.client) tokens → IsDistinct nat_eq (clients_of tokens) → IsDistinct nat_eq (clients_of new)
distinct_push n tokens new t next is above distinct =
    let less : (u : TokenShown) → n ≤ u.client → t.client < u.client = λ u le. omega (arith, next, le) in
    let others : All (λ (u : TokenShown). t.client < u.client) tokens = All-weaker (λ (u : TokenShown). n ≤ u.client) (λ (u : TokenShown). t.client < u.client) less tokens above in
    let more : clients_of new ≡ clients_of tokens ++ t.client ∷ [] = ap clients_of is ∙ map-append (λ (u : TokenShown). u.client) tokens (t ∷ []) in
    subst (IsDistinct nat_eq) (sym more) (IsDistinct-push nat_eq_equiv (clients_of tokens) t.client distinct (none_equal tokens t.client others))
