-- Where a record's claim is among ascending claims, or would be inserted.
use Rattle.std.specs.Prelude.{ℕ, nat_le, List}
use Rattle.std.specs.List.{position_or_len}
use Rattle.vll_record.specs.declared.claim.Claim.{Claim}

-- after the claims for lower records
abbrev pub place_in : List Claim → ℕ → ℕ
place_in cs r = position_or_len (λ (c : Claim). nat_le r c.id) cs
