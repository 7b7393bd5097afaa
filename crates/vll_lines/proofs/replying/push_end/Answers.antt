use Rattle.std.proofs.Common.{◌≡◌, ℕ, List, [], ◌∷◌, ◌++◌, ap, ◌∙◌, subst, codes, decimal, IfOk}
use Rattle.json.specs.Token.{Token, begin_object, end_object, key, number}
use Rattle.vll_lines.specs.Answers.{line_of, numbers_tokens}
use Rattle.vll_lines.proofs.replying.push_end.Goals as goal

pub returns : goal.returns
returns c =
    let writer = c.end_object.new.self in
    let put = λ (t : Token) (l : List Token). l ++ t ∷ [] in
    let begun = c.in_ok-begin_object.ensures.ok ∙ ap (put begin_object) c.new-writer.ensures.tokens in
    let keyed = c.in_ok-key.ensures.ok ∙ ap (put (key (codes "calls"))) begun in
    let counted = c.in_ok-u64.ensures.ok ∙ ap (put (number (decimal c.args.calls))) keyed in
    let next = c.in_ok-key-2.ensures.ok ∙ ap (put (key (codes "records"))) counted in
    let listed = c.in_ok-write_numbers.ensures.ok ∙ ap (λ (l : List Token). l ++ numbers_tokens c.args.records.now) next in
    let tokens = c.in_ok-end_object.ensures.ok ∙ ap (put end_object) listed in
    let before = c.in_ok-end_object.ensures.room.0 ∙ (c.in_ok-write_numbers.ensures.before ∙ (c.in_ok-key-2.ensures.room.0 ∙ (c.in_ok-u64.ensures.room.0 ∙ (c.in_ok-key.ensures.room.0 ∙ (c.in_ok-begin_object.ensures.room.0 ∙ c.new-writer.ensures.before))))) in
    subst (λ (text : List ℕ). IfOk c.end_line.result (λ v. v.items ≡ text))
    (ap (λ (b : List ℕ). b ++ line_of writer.tokens) before ∙ ap (λ (ts : List Token). c.args.out.items ++ line_of ts) tokens)
    c.end_line.ensures
