use Rattle.std.proofs.Common.{◌≡◌, ◌∷◌, Ok, refl, arith}
use Rattle.json.specs.Reads.{token_of}
use Rattle.json.specs.Token.{Token}
use Rattle.serde_json.specs.Data.{number, string, unsigned}
use Rattle.vll_lines.specs.Request.{short_text}
use Rattle.vll_lines.specs.declared.request.Id.TheVariants.{Text}
use Rattle.vll_lines.proofs.ReadTokens.{number_read, string_read}
use Rattle.vll_lines.proofs.tokens.read_id.Goals as goal

pub returns-in_ok-unsigned-in-Number-clause-read : goal.returns-in_ok-unsigned-in-Number-clause-read
returns-in_ok-unsigned-in-Number-clause-read c =
    let n = c.in_ok-unsigned-in-Number.field-0 in
    let first : c.args.reader.now ≡ token_of c.in_ok-text.field-0 ∷ c.next.new.self = grind arith in
    let is : c.args.reader.now ≡ Token.number c.in-Number.text.now ∷ c.next.new.self = grind (arith, first) in
    (number (unsigned n), number_read 126 c.args.reader.now c.in-Number.text.now n c.next.new.self is c.in_ok-unsigned-in-Number.ensures, refl)

pub returns-in_ok-ok-in-String-clause-read : goal.returns-in_ok-ok-in-String-clause-read
returns-in_ok-ok-in-String-clause-read c =
    let first : c.args.reader.now ≡ token_of c.in_ok-text.field-0 ∷ c.next.new.self = grind arith in
    let is : c.args.reader.now ≡ Token.string c.in-String.text.now ∷ c.next.new.self = grind (arith, first) in
    let short : short_text c.in-String.text.now ≡ Ok (Text c.new.result) = grind arith in
    (string c.in-String.text.now, string_read 126 c.args.reader.now c.in-String.text.now c.next.new.self is, short)
