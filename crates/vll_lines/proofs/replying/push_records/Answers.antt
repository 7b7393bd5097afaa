use Rattle.std.proofs.Common.{◌≡◌, ℕ, List, [], ◌∷◌, ◌++◌, ap, ◌∙◌, subst, codes, IfOk, append_assoc}
use Rattle.json.specs.Token.{Token, begin_object, end_object, key}
use Rattle.vll_lines.specs.Answers.{id_tokens, line_of, numbers_tokens, records_at}
use Rattle.vll_lines.proofs.replying.push_records.Goals as goal

pub returns : goal.returns
returns c =
    let writer = c.end_object.new.self in
    let put = λ (t : Token) (l : List Token). l ++ t ∷ [] in
    let ids : List Token = id_tokens c.args.id.now in
    let told : List Token = numbers_tokens (records_at c.args.range c.args.records.now) in
    let begun = c.in_ok-begin_object.ensures.ok ∙ ap (put begin_object) c.new-writer.ensures.tokens in
    let named = c.in_ok-write_id.ensures.ok ∙ ap (λ (l : List Token). l ++ ids) begun in
    let keyed = c.in_ok-key.ensures.ok ∙ ap (put (key (codes "records"))) named in
    let numbered = c.in_ok-write_numbers.ensures.ok ∙ (ap (λ (values : List ℕ). c.key.new.self.tokens ++ numbers_tokens values) c.at.ensures ∙ ap (λ (l : List Token). l ++ told) keyed) in
    let tokens =
    c.in_ok-end_object.ensures.ok
    ∙ (ap (put end_object) numbered
    ∙ (append_assoc ((begin_object ∷ ids) ++ key (codes "records") ∷ []) told (end_object ∷ []) ∙ append_assoc (begin_object ∷ ids) (key (codes "records") ∷ []) (told ++ end_object ∷ []))) in
    let before = c.in_ok-end_object.ensures.room.0 ∙ (c.in_ok-write_numbers.ensures.before ∙ (c.in_ok-key.ensures.room.0 ∙ (c.in_ok-write_id.ensures.before ∙ (c.in_ok-begin_object.ensures.room.0 ∙ c.new-writer.ensures.before)))) in
    subst (λ (text : List ℕ). IfOk c.end_line.result (λ v. v.items ≡ text))
    (ap (λ (b : List ℕ). b ++ line_of writer.tokens) before ∙ ap (λ (ts : List Token). c.args.out.items ++ line_of ts) tokens)
    c.end_line.ensures
