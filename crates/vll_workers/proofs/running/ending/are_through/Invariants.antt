use Rattle.std.proofs.Common.{take}
use Rattle.std.specs.Prelude.{All}
use Rattle.vll_tokens.specs.Tokens.{IsThrough}
use Rattle.vll_workers.proofs.running.ending.are_through.Given as goal

abbrev pub invariant-loop-token : goal.invariant-loop-token
invariant-loop-token l = All IsThrough (take l.token-index l.tokens)
