-- Seats of sessions.
use Rattle.std.specs.Prelude.{◌≡◌, ℕ, List, Some, slice_get}
use Rattle.vll_counters.specs.Shown.{SessionShown}

-- each seat is that of the client whose number is its place
abbrev pub AreClients : List SessionShown → Type 0
AreClients seats = (c : ℕ) (s : SessionShown) → slice_get seats c ≡ Some s → s.session.client ≡ c
