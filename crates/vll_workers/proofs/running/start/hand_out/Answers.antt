use Rattle.std.proofs.Common.{List, subst, rules}
use Rattle.std.specs.Prelude.{All}
use Rattle.vll_tokens.specs.Shown.{TokenShown}
use Rattle.vll_tokens.specs.Tokens.{IsOf}
use Rattle.vll_tokens.proofs.Gained.{all_of}
use Rattle.vll_workers.proofs.running.start.hand_out.Goals as goal

pub put_all-requires-clause-own : goal.put_all-requires-clause-own
put_all-requires-clause-own g c = subst (λ (tokens : List TokenShown). All (IsOf g.T.Roster.tokens) tokens) c.requires.roster (all_of g.T.Roster.tokens)

pub returns-then-not-is_started-clause-tokens : goal.returns-then-not-is_started-clause-tokens
returns-then-not-is_started-clause-tokens g c = search rules
