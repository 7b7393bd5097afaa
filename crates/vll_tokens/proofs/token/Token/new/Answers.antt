use Rattle.vll_tokens.proofs.token.Token.new.Goals as goal

pub returns : goal.returns
returns c = c.resume.ensures
