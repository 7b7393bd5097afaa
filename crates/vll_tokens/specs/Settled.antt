-- What a worker keeps to its end, and what has not entered then.
use Rattle.std.specs.Prelude.{◌≡◌, ◌<◌, ℕ, List, Some, length, slice_get, ◌⊎◌}
use Rattle.vll_tokens.specs.Shown.{TokenShown}
use Rattle.vll_tokens.specs.Tokens.{IsThrough}

-- the token has no call left, or its session has seen as many calls enter as the engine takes
abbrev pub IsSettled : ℕ → TokenShown → Type 0
IsSettled limit t = IsThrough t ⊎ (length t.session.session.seen ≡ limit)

-- one of the tokens has calls left
pub record OneHasLeft (tokens : List TokenShown) : Type 0 where
  pub index : ℕ
  pub token : TokenShown
  pub at : slice_get tokens index ≡ Some token
  pub left : token.next < length token.script
