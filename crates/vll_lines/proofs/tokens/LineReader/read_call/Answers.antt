use Rattle.std.proofs.Common.{◌≡◌, ℕ, ◌∷◌, [], List, IsUtf8, sym, ap, subst, ◌∙◌, arith}
use Rattle.std.proofs.lemmas.Option.{IfSome_then}
use Rattle.json.specs.Lex.{tokens}
use Rattle.json.specs.Token.{Token}
use Rattle.serde_json.specs.Data.{object}
use Rattle.serde_json.specs.Read.{read}
use Rattle.vll_lines.specs.Private.Tokens.{Says}
use Rattle.vll_lines.proofs.ReadTokens.{object_read}
use Rattle.vll_lines.proofs.tokens.LineReader.read_call.Goals as goal

pub returns : goal.returns
returns c =
    let line = c.args.line.now in
    let same : c.in-Ok.text.now ≡ line = c.in-Ok.ensures.cases.0 in
    let text : IsUtf8 line = c.in-Ok.ensures.cases.1 in
    let told = c.in_ok-told.ensures in
    let found = told.0 in
    let starts : c.in_ok-reader.reader ≡ tokens c.in-Ok.text.now = grind arith in
    let first : c.in_ok-reader.reader ≡ Token.begin_object ∷ c.next.new.self = grind arith in
    let none : c.read_members.new.reader ≡ [] = grind arith in
    let whole = object_read c.in-Ok.text.now found c.next.new.self c.read_members.new.reader (sym starts ∙ first) told.1 none in
    IfSome_then c.request.result c.request.ensures (λ request is. (object found, (text, ap read (sym same) ∙ whole), is found (subst (λ (args : List ℕ). Says c.in_ok-told.told args found) (sym c.as_slice.ensures.value) told.2)))
