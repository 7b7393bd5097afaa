-- The seats of new sessions are those of the clients, in order, and all of the same words.
use Rattle.std.proofs.Common.{◌≡◌, ℕ, ◌<◌, List, [], All, get_or, sym, ap, ◌∙◌, arith}
use Rattle.std.proofs.lemmas.Option.{same_Some, slice_get_within, slice_get-get_or}
use Rattle.atomic_table.specs.Seated.{TableId}
use Rattle.vll_counters.specs.Shown.{SessionShown, AreNewSessions}
use Rattle.vll_counters.specs.Steps.{new_session}
use Rattle.vll_engine.specs.Private.Seats.{AreClients}

pub new_sessions_are_clients : (table : TableId) (n : ℕ) (seats : List SessionShown) → AreNewSessions table n seats → AreClients seats
new_sessions_are_clients table n seats new c s at =
    let below : c < n = omega (arith, slice_get_within seats c s at, new.0) in
    ap (λ (x : SessionShown). x.session.client) (same_Some s (record { table = table; session = new_session c; past = [] }) (sym at ∙ new.1 c below))

pub new_sessions_are_there : (table : TableId) (n : ℕ) (sessions : List SessionShown) → AreNewSessions table n sessions → All (λ (s : SessionShown). s.table ≡ table) sessions
new_sessions_are_there table n sessions new k d low =
    let below : k < n = omega (arith, low, new.0) in
    ap (λ (x : SessionShown). x.table) (same_Some (get_or sessions k d) (record { table = table; session = new_session k; past = [] }) (sym (slice_get-get_or sessions k d low) ∙ new.1 k below))
