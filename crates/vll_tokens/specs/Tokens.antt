-- The tokens that are passed to a run, and those that come back.
use Rattle.std.specs.Prelude.{◌≡◌, ◌<◌, ◌≤◌, ℕ, ◌-◌, List, ◌++◌, All, drop, length, map, take, Some, slice_get, IsPermutation}
use Rattle.std.specs.List.Sorted.{IsStrictlyIncreasing}
use Rattle.vll_proc.specs.declared.call.Call.{Call}
use Rattle.vll_check.specs.Calls.{bares, Fits}
use Rattle.vll_counters.specs.declared.views.SessionView.{SessionView}
use Rattle.vll_counters.specs.Headline.Views.{Begins, calls_by}
use Rattle.vll_queue.specs.Shown.{Named, library_of}
use Rattle.vll_tokens.specs.Shown.{TokenShown}

-- a token's session is one of the engine's, and the engine's library fits each of its calls
pub record IsFit (e : Named) (t : TokenShown) : Type 0 where
  pub session : t.session.table ≡ e.table
  pub fits : All (Fits (library_of e)) t.script

-- each of these tokens fits
abbrev pub AreFit : Named → List TokenShown → Type 0
AreFit e tokens = All (IsFit e) tokens

-- the calls of a script from one index up to another
abbrev pub calls_between : ℕ → ℕ → List Call → List Call
calls_between from to script = take (to - from) (drop from script)

-- of its client's calls, a session has seen just these enter since it was `old`, each with what it has found
pub record Gained (old new : SessionView) (calls : List Call) : Type 0 where
  pub begins : Begins old.seen new.seen
  pub own : bares (calls_by old.client new.seen) ≡ bares (calls_by old.client old.seen ++ calls)

-- one of the tokens that were passed in, with the same client and script; the calls of its client that have entered
-- since are those of the script from the old `next` to the new one, in order
pub record IsOf (handed : List TokenShown) (t : TokenShown) : Type 0 where
  pub index : ℕ
  pub old : TokenShown
  pub at : slice_get handed index ≡ Some old
  pub client : t.client ≡ old.client
  pub script : t.script ≡ old.script
  pub on : old.next ≤ t.next
  pub table : t.session.table ≡ old.session.table
  pub whose : t.session.session.client ≡ old.session.session.client
  pub gained : Gained old.session.session t.session.session (calls_between old.next t.next old.script)

-- the clients whose tokens they are
abbrev pub clients_of : List TokenShown → List ℕ
clients_of tokens = map (λ (t : TokenShown). t.client) tokens

-- the tokens are back: each one's client once, in ascending order, with its script
pub record AreBack (handed back : List TokenShown) : Type 0 where
  pub rising : IsStrictlyIncreasing (clients_of back)
  pub same : IsPermutation (clients_of handed) (clients_of back)
  pub own : All (IsOf handed) back

-- every call of the token's script has entered
abbrev pub IsThrough : TokenShown → Type 0
IsThrough t = t.next ≡ length t.script

-- one of the tokens has calls left, and its session has seen as many calls enter as the engine takes
pub record OneIsSpent (limit : ℕ) (tokens : List TokenShown) : Type 0 where
  pub index : ℕ
  pub token : TokenShown
  pub at : slice_get tokens index ≡ Some token
  pub left : token.next < length token.script
  pub full : length token.session.session.seen ≡ limit
