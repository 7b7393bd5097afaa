use Rattle.std.proofs.Common.{ℕ, List, ◌∷◌, sym, ap, ◌∙◌, subst, codes}
use Rattle.json.specs.Token.{key}
use Rattle.vll_lines.specs.Answers.{numbers_tokens, reply_tokens}
use Rattle.vll_lines.specs.Private.Writing.{Adds}
use Rattle.vll_lines.proofs.Written.{adds_after}
use Rattle.vll_lines.proofs.replying.write_reply.Goals as goal

pub returns-in_ok-key-in-Committed : goal.returns-in_ok-key-in-Committed
returns-in_ok-key-in-Committed c =
    subst (Adds c.write_numbers.result c.args.writer.now c.write_numbers.new.writer)
    (ap (λ (outputs : List ℕ). key (codes "committed") ∷ numbers_tokens outputs) c.as_slice.ensures ∙ ap reply_tokens (sym c.in-Committed.is))
    (adds_after c.write_numbers.result c.args.writer.now c.key.new.self c.write_numbers.new.writer (key (codes "committed")) (numbers_tokens c.as_slice.result.now) c.in_ok-key-in-Committed.ensures.ok
    c.in_ok-key-in-Committed.ensures.room.0 c.write_numbers.ensures)
