-- The sessions of an opened engine, taken from the last on.
use Rattle.std.proofs.Common.{◌≡◌, ◌<◌, ℕ, suc, List, [], ◌∷◌, ◌++◌, refl, sym, ap, ◌∙◌, arith, length, length-append, add-one, Some, slice_get}
use Rattle.std.proofs.lemmas.Option.{same_Some}
use Rattle.atomic_table.specs.Seated.{TableId}
use Rattle.vll_core.proofs.Places.{entry_at, get_pushed}
use Rattle.vll_counters.specs.Shown.{AreNewSessions, SessionShown}
use Rattle.vll_counters.specs.Steps.{new_session}

get_last : {A : Type 0} (xs : List A) (x : A) → slice_get (xs ++ x ∷ []) (length xs) ≡ Some x
get_last [] x = refl
get_last (y ∷ ys) x = get_last ys x

-- the last session is the last client's, and those of the others come before it
pub record IsLast (table : TableId) (client : ℕ) (session : SessionShown) (others : List SessionShown) : Type 0 where
  pub last : session ≡ record { table = table; session = new_session client; past = [] }
  pub before : AreNewSessions table client others

pub last_session : (table : TableId) (count client : ℕ) (sessions new : List SessionShown) (session : SessionShown) → AreNewSessions table count sessions
    → sessions ≡ new ++ session ∷ [] → length new ≡ client → IsLast table client session new
last_session table count client sessions new session all popped number =
    let longer : length sessions ≡ suc client = ap length popped ∙ length-append new (session ∷ []) ∙ add-one (length new) ∙ ap suc number in
    let same : count ≡ suc client = sym all.0 ∙ longer in
    let here : slice_get sessions client ≡ Some session =
    ap (λ (l : List SessionShown). slice_get l client) popped ∙ ap (λ (n : ℕ). slice_get (new ++ session ∷ []) n) (sym number) ∙ get_last new session in
    let below : (c : ℕ) → c < client → slice_get new c ≡ Some (record { table = table; session = new_session c; past = [] }) = λ c low.
    let found = entry_at new c (omega (arith, low, number)) in
    let in_all : slice_get sessions c ≡ Some found.0 = ap (λ (l : List SessionShown). slice_get l c) popped ∙ get_pushed new session c found.0 found.1 in
    found.1 ∙ sym in_all ∙ all.1 c (omega (arith, low, same)) in
    record {
      last = same_Some session (record { table = table; session = new_session client; past = [] }) (sym here ∙ all.1 client (omega (arith, same)));
      before = (number, below);
    }
