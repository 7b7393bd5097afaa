use Rattle.std.proofs.Common.{◌≡◌, ◌∷◌, arith}
use Rattle.json.specs.Reads.{token_of}
use Rattle.json.specs.Token.{Token}
use Rattle.vll_lines.specs.Private.Tokens.{numbers_in}
use Rattle.vll_lines.proofs.ReadTokens.{array_read, on_some}
use Rattle.vll_lines.proofs.tokens.read_args.Goals as goal

pub returns-in-BeginArray-clause-read : goal.returns-in-BeginArray-clause-read
returns-in-BeginArray-clause-read c =
    let after = c.next.new.self in
    let first : c.args.reader.now ≡ token_of c.in_ok-next.field-0 ∷ after = grind arith in
    let is : c.args.reader.now ≡ Token.begin_array ∷ after = grind (arith, first) in
    on_some c.read_numbers.result c.read_numbers.ensures.read (λ inside. array_read c.args.reader.now (numbers_in c.read_numbers.new.args.items) after c.read_numbers.new.reader is inside)
