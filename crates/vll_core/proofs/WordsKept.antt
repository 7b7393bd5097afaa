-- What lawful moves leave of the words of a state.
use Rattle.std.proofs.Common.{◌≡◌, ℕ, sym, ap, ◌∙◌, arith, List, None, Ok}
use Rattle.vll_core.proofs.Common.{Seen, Base, Opening, State, counter, value, Move, move, IsReached, requested_by, stored_by, released_by, delta_if, is_on, AreWords}
use Rattle.vll_core.proofs.Counters.{counters_change}
use Rattle.vll_core.proofs.Values.{others_stay}

-- the words of a state are those of another with the same values and counters
pub words_same : (base : Base) (s next : State) (words : List ℕ)
    → ((r : ℕ) → value base next r ≡ value base s r) → ((r : ℕ) → counter next r ≡ counter s r) → AreWords base s words → AreWords base next words
words_same base s next words values counters are = record {
  long = are.long;
  turn = are.turn;
  values = λ r within. are.values r within ∙ sym (values r);
  pairs = λ r within. are.pairs r within ∙ sym (counters r);
}

-- a move that requests and releases nothing changes no counter
pub counters_stay : (o : Opening) (s next : State) (m : Move) (seen : Seen) (r : ℕ)
    → move o s m ≡ Ok (seen, next) → requested_by s m ≡ None → released_by s m ≡ None → counter next r ≡ counter s r
counters_stay o s next m seen r is asks frees =
    let asked : delta_if r (requested_by s m) ≡ 0 = ap (delta_if r) asks in
    let freed : delta_if r (released_by s m) ≡ 0 = ap (delta_if r) frees in
    omega (arith, counters_change o s next m seen r is, asked, freed)

-- a move that stores nothing changes no value
pub values_stay : (o : Opening) (s next : State) (m : Move) (seen : Seen) (r : ℕ)
    → IsReached o s → move o s m ≡ Ok (seen, next) → stored_by s m ≡ None → value o.base next r ≡ value o.base s r
values_stay o s next m seen r reached is stores = others_stay o s next m seen r reached is (ap (is_on r) stores)

-- a move that requests, releases and stores nothing leaves the words
pub words_stay : (o : Opening) (s next : State) (m : Move) (seen : Seen) (words : List ℕ)
    → IsReached o s → move o s m ≡ Ok (seen, next) → requested_by s m ≡ None → released_by s m ≡ None → stored_by s m ≡ None
    → AreWords o.base s words → AreWords o.base next words
words_stay o s next m seen words reached is asks frees stores are =
    words_same o.base s next words (λ r. values_stay o s next m seen r reached is stores) (λ r. counters_stay o s next m seen r is asks frees) are
