-- The numbers so far are written, and those of the rest are to follow.
use Rattle.std.proofs.Common.{◌≡◌, ◌++◌, drop, ◌∷◌}
use Rattle.json.specs.Token.{begin_array}
use Rattle.vll_lines.specs.Answers.{number_tokens}
use Rattle.vll_lines.proofs.replying.write_numbers.Given as goal

abbrev pub invariant-loop-number : goal.invariant-loop-number
invariant-loop-number l = record {
  tokens : l.writer.tokens ++ number_tokens (drop l.number-index l.numbers) ≡ l.fn.writer.tokens ++ begin_array ∷ number_tokens l.numbers;
  before : l.writer.before ≡ l.fn.writer.before;
}
