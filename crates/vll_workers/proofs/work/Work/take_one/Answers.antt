use Rattle.std.proofs.Common.{List, ◌++◌, ◌∷◌, ◌∙◌, subst, sym}
use Rattle.vll_workers.specs.Private.Work.{IsAtWork}
use Rattle.vll_tokens.specs.Shown.{TokenShown}
use Rattle.vll_workers.proofs.AtWork.{one_more, own_of, taken_back}
use Rattle.vll_tokens.proofs.Owned.{own_fits}
use Rattle.vll_workers.proofs.work.Work.take_one.Goals as goal

pub add-requires-clause-fit : goal.add-requires-clause-fit
add-requires-clause-fit g c κs within =
    own_fits g.N.Name.engine g.T.Roster.tokens c.in-Some.token c.requires.fit
    (own_of g.T.Roster.tokens c.args.self.pool.now c.args.worker.now (c.args.taken.now.untried ++ c.pop.new.self) c.in-Some.token
    (taken_back g.T.Roster.tokens c.args.self.pool.now c.args.worker.now c.args.taken.now.untried c.args.taken.now.tried c.pop.new.self c.in-Some.token c.requires.old c.in-Some.ensures.some))

pub returns-in-Some-clause-new : goal.returns-in-Some-clause-new
returns-in-Some-clause-new g c =
    subst (λ (l : List TokenShown). IsAtWork g.T.Roster.tokens c.args.self.pool.now c.args.worker.now (l ++ c.pop.new.self)) (sym c.add.ensures)
    (taken_back g.T.Roster.tokens c.args.self.pool.now c.args.worker.now c.args.taken.now.untried c.args.taken.now.tried c.pop.new.self c.in-Some.token c.requires.old c.in-Some.ensures.some)

pub add-requires-2-clause-fit : goal.add-requires-2-clause-fit
add-requires-2-clause-fit g c κs within = own_fits g.N.Name.engine g.T.Roster.tokens c.in_ok-token.token c.requires.fit c.in_ok-token.ensures.own

pub returns-clause-new : goal.returns-clause-new
returns-clause-new g c =
    let token = c.in_ok-token.token in
    let none = c.in_default.ensures.none in
    subst (λ (l : List TokenShown). IsAtWork g.T.Roster.tokens c.args.self.pool.now c.take.new.self (l ++ c.pop.new.self)) (sym c.add-2.ensures)
    (subst (λ (l : List TokenShown). IsAtWork g.T.Roster.tokens c.args.self.pool.now c.take.new.self ((token ∷ c.args.taken.now.untried) ++ l)) (none.0 ∙ sym none.1)
    (one_more g.T.Roster.tokens c.args.self.pool.now c.args.worker.now c.take.new.self (c.args.taken.now.untried ++ c.args.taken.now.tried) token c.requires.old
    c.in_ok-token.ensures.kept c.in_ok-token.ensures.pass c.in_ok-token.ensures.own c.in_ok-token.ensures.some))
