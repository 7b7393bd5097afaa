use Rattle.std.proofs.Common.{◌≡◌, get_or, false, ◌==◌, subst, arith, IfSome, Some}
use Rattle.serde_json.specs.Data.{unsigned}
use Rattle.serde_json.specs.Read.{number_of}
use Rattle.vll_lines.proofs.ReadTokens.{if_unsigned}
use Rattle.vll_lines.proofs.tokens.unsigned.Goals as goal

pub returns : goal.returns
returns c =
    let s = c.as_bytes-bytes.result.now in
    let plain : (get_or s 0 0 == 45) ≡ false = grind arith in
    subst (λ t. IfSome c.to_u64.result (λ n. number_of t ≡ Some (unsigned n))) c.as_bytes-bytes.ensures.value
    (if_unsigned s c.scan.result c.to_u64.result plain c.scan.ensures.parts c.to_u64.ensures)
