-- What is written to a JSON writer.
use Rattle.std.specs.Prelude.{◌≡◌, List, ◌++◌, Result, OnOk}
use Rattle.json.specs.Token.{Token}
use Rattle.json.specs.Written.{Written}

-- these tokens were added, if memory did not run out, and what stood before the tokens stays
pub record Adds {E : Type 0} (r : Result (Unit {0}) E) (old new : Written) (tokens : List Token) : Type 0 where
  pub ok : OnOk r (new.tokens ≡ old.tokens ++ tokens)
  pub before : new.before ≡ old.before
