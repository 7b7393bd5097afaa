use Rattle.vll_draw.proofs.Steps.{drawn_steps}
use Rattle.vll_draw.proofs.drawing.watched.Goals as goal

-- nothing was drawn at first
pub returns-clause-tape : goal.returns-clause-tape
returns-clause-tape c = c.in_ok-text.ensures.observed c.args.window (c.new-tape.ensures _)

pub returns-clause-words : goal.returns-clause-words
returns-clause-words c =
    drawn_steps _ c.args.window _ _ _ (c.in_ok-text.ensures.observed c.args.window (c.new-tape.ensures _))
