use Rattle.std.proofs.Common.{◌≡◌, ◌∷◌, arith}
use Rattle.std.proofs.lemmas.Option.{IfSome_then}
use Rattle.json.specs.Reads.{token_of}
use Rattle.json.specs.Token.{Token}
use Rattle.vll_lines.proofs.ReadTokens.{number_read}
use Rattle.vll_lines.proofs.tokens.read_number.Goals as goal

pub returns-in-Number-clause-read : goal.returns-in-Number-clause-read
returns-in-Number-clause-read c =
    let first : c.args.reader.now ≡ token_of c.in_ok-text.field-0 ∷ c.next.new.self = grind arith in
    let is : c.args.reader.now ≡ Token.number c.in-Number.text.now ∷ c.next.new.self = grind (arith, first) in
    IfSome_then c.unsigned.result c.unsigned.ensures (λ n whole depth. number_read depth c.args.reader.now c.in-Number.text.now n c.next.new.self is whole)
