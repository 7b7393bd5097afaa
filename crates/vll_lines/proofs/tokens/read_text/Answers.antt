use Rattle.std.proofs.Common.{◌≡◌, ◌∷◌, arith}
use Rattle.json.specs.Reads.{token_of}
use Rattle.json.specs.Token.{Token}
use Rattle.vll_lines.proofs.ReadTokens.{string_read}
use Rattle.vll_lines.proofs.tokens.read_text.Goals as goal

pub returns-in-String-clause-read : goal.returns-in-String-clause-read
returns-in-String-clause-read c =
    let first : c.args.reader.now ≡ token_of c.in_ok-text.field-0 ∷ c.next.new.self = grind arith in
    let is : c.args.reader.now ≡ Token.string c.in-String.text.now ∷ c.next.new.self = grind (arith, first) in
    string_read 126 c.args.reader.now c.in-String.text.now c.next.new.self is
