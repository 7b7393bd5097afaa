-- The pair word of a list of claims, CX * 2^32 + CS.
use Rattle.std.specs.Prelude.{ℕ, ◌+◌, ◌*◌, ◌^◌, ◌==◌, not, List, count_by, filter}
use Rattle.vll_record.specs.declared.claim.Claim.{Claim}
use Rattle.vll_record.specs.Headline.Claim.{is_write}

-- the claims of a list on one record
abbrev pub claims_on : ℕ → List Claim → List Claim
claims_on r cs = filter (λ (c : Claim). c.id == r) cs

-- the pair word of a list of claims: the number of its Write claims times 2^32, plus the number of its Read claims
abbrev pub pair_word_of : List Claim → ℕ
pair_word_of cs = count_by is_write cs * 2 ^ 32 + count_by (λ c. not (is_write c)) cs
