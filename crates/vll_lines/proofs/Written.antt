-- What is written to a JSON writer, token by token.
use Rattle.std.proofs.Common.{◌≡◌, List, [], ◌∷◌, ◌++◌, ap, ◌∙◌, Result, Ok, Err, append_assoc}
use Rattle.json.specs.Token.{Token}
use Rattle.json.specs.Written.{Written}
use Rattle.vll_lines.specs.Private.Writing.{Adds}

-- some tokens, and some after them
pub more_tokens : (old mid new : Written) (first more : List Token) → mid.tokens ≡ old.tokens ++ first → new.tokens ≡ mid.tokens ++ more → new.tokens ≡ old.tokens ++ (first ++ more)
more_tokens old mid new first more one two = two ∙ (ap (λ (l : List Token). l ++ more) one ∙ append_assoc old.tokens first more)

-- some tokens, and then the last of them
pub adds_then : {E : Type 0} (r : Result (Unit {0}) E) (old mid new : Written) (first more : List Token) → mid.tokens ≡ old.tokens ++ first → mid.before ≡ old.before → Adds r mid new more
    → Adds r old new (first ++ more)
adds_then (Ok u) old mid new first more tokens before adds = record {
  ok = more_tokens old mid new first more tokens adds.ok;
  before = adds.before ∙ before;
}
adds_then (Err e) old mid new first more tokens before adds = record { ok = tt; before = adds.before ∙ before }

-- a token, and then more of them
pub adds_after : {E : Type 0} (r : Result (Unit {0}) E) (old mid new : Written) (t : Token) (ts : List Token) → mid.tokens ≡ old.tokens ++ t ∷ [] → mid.before ≡ old.before → Adds r mid new ts
    → Adds r old new (t ∷ ts)
adds_after r old mid new t ts first before adds = adds_then r old mid new (t ∷ []) ts first before adds
