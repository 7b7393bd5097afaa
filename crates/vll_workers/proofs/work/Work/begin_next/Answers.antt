use Rattle.std.proofs.Common.{◌++◌, ◌∷◌, ◌∙◌, ap}
use Rattle.vll_tokens.specs.Shown.{TokenShown}
use Rattle.vll_workers.proofs.AtWork.{held_more, one_kept, own_of, popped, renewed_at_work, set_aside}
use Rattle.vll_tokens.proofs.Owned.{own_fits}
use Rattle.vll_workers.proofs.work.Work.begin_next.Goals as goal

pub keep-requires-clause-held : goal.keep-requires-clause-held
keep-requires-clause-held g c =
    held_more g.T.Roster.tokens c.args.self.pool.now c.args.worker.now (c.pop.new.self ++ c.args.taken.now.tried) c.in-Some.token
    (popped g.T.Roster.tokens c.args.self.pool.now c.args.worker.now c.args.taken.now.untried c.pop.new.self c.args.taken.now.tried c.in-Some.token c.requires.old c.in-Some.ensures.some)

pub returns-then-is_through-clause-new : goal.returns-then-is_through-clause-new
returns-then-is_through-clause-new g c =
    one_kept g.T.Roster.tokens c.args.self.pool.now c.args.worker.now c.keep.new.self (c.pop.new.self ++ c.args.taken.now.tried) c.in-Some.token
    (popped g.T.Roster.tokens c.args.self.pool.now c.args.worker.now c.args.taken.now.untried c.pop.new.self c.args.taken.now.tried c.in-Some.token c.requires.old c.in-Some.ensures.some)
    c.keep.ensures.kept c.keep.ensures.pass c.keep.ensures.view

pub is_left-requires-after_bounds : goal.is_left-requires-after_bounds
is_left-requires-after_bounds g c κs within =
    own_fits g.N.Name.engine g.T.Roster.tokens c.in-Some.token c.requires.fit
    (own_of g.T.Roster.tokens c.args.self.pool.now c.args.worker.now (c.pop.new.self ++ c.args.taken.now.tried) c.in-Some.token
    (popped g.T.Roster.tokens c.args.self.pool.now c.args.worker.now c.args.taken.now.untried c.pop.new.self c.args.taken.now.tried c.in-Some.token c.requires.old c.in-Some.ensures.some))

pub returns-then-is_left-clause-new : goal.returns-then-is_left-clause-new
returns-then-is_left-clause-new g c =
    set_aside g.T.Roster.tokens c.args.self.pool.now c.args.worker.now c.pop.new.self c.args.taken.now.tried c.push.new.self c.in-Some.token
    (popped g.T.Roster.tokens c.args.self.pool.now c.args.worker.now c.args.taken.now.untried c.pop.new.self c.args.taken.now.tried c.in-Some.token c.requires.old c.in-Some.ensures.some)
    (c.push.ensures ∙ ap (λ (t : TokenShown). t ∷ c.args.taken.now.tried) c.is_left.ensures)

pub keep-requires-in-Spent-clause-held : goal.keep-requires-in-Spent-clause-held
keep-requires-in-Spent-clause-held g c =
    held_more g.T.Roster.tokens c.args.self.pool.now c.args.worker.now (c.pop.new.self ++ c.args.taken.now.tried) c.begin_calls.new.token
    (renewed_at_work g.T.Roster.tokens c.args.self.pool.now c.args.worker.now (c.pop.new.self ++ c.args.taken.now.tried) c.in-Some.token c.begin_calls.new.token
    (popped g.T.Roster.tokens c.args.self.pool.now c.args.worker.now c.args.taken.now.untried c.pop.new.self c.args.taken.now.tried c.in-Some.token c.requires.old c.in-Some.ensures.some)
    c.begin_calls.ensures.own (c.begin_calls.ensures.client ∙ ap (λ (t : TokenShown). t.client) c.is_left.ensures))

pub returns-in-Free-clause-new : goal.returns-in-Free-clause-new
returns-in-Free-clause-new g c =
    set_aside g.T.Roster.tokens c.args.self.pool.now c.args.worker.now c.pop.new.self c.args.taken.now.tried c.push-in-Free.new.self c.begin_calls.new.token
    (renewed_at_work g.T.Roster.tokens c.args.self.pool.now c.args.worker.now (c.pop.new.self ++ c.args.taken.now.tried) c.in-Some.token c.begin_calls.new.token
    (popped g.T.Roster.tokens c.args.self.pool.now c.args.worker.now c.args.taken.now.untried c.pop.new.self c.args.taken.now.tried c.in-Some.token c.requires.old c.in-Some.ensures.some)
    c.begin_calls.ensures.own (c.begin_calls.ensures.client ∙ ap (λ (t : TokenShown). t.client) c.is_left.ensures))
    c.push-in-Free.ensures

pub returns-in-Held-clause-new : goal.returns-in-Held-clause-new
returns-in-Held-clause-new g c =
    set_aside g.T.Roster.tokens c.args.self.pool.now c.args.worker.now c.pop.new.self c.args.taken.now.tried c.push-in-Held.new.self c.begin_calls.new.token
    (renewed_at_work g.T.Roster.tokens c.args.self.pool.now c.args.worker.now (c.pop.new.self ++ c.args.taken.now.tried) c.in-Some.token c.begin_calls.new.token
    (popped g.T.Roster.tokens c.args.self.pool.now c.args.worker.now c.args.taken.now.untried c.pop.new.self c.args.taken.now.tried c.in-Some.token c.requires.old c.in-Some.ensures.some)
    c.begin_calls.ensures.own (c.begin_calls.ensures.client ∙ ap (λ (t : TokenShown). t.client) c.is_left.ensures))
    c.push-in-Held.ensures

pub returns-in-Spent-clause-new : goal.returns-in-Spent-clause-new
returns-in-Spent-clause-new g c =
    one_kept g.T.Roster.tokens c.args.self.pool.now c.args.worker.now c.keep-in-Spent.new.self (c.pop.new.self ++ c.args.taken.now.tried) c.begin_calls.new.token
    (renewed_at_work g.T.Roster.tokens c.args.self.pool.now c.args.worker.now (c.pop.new.self ++ c.args.taken.now.tried) c.in-Some.token c.begin_calls.new.token
    (popped g.T.Roster.tokens c.args.self.pool.now c.args.worker.now c.args.taken.now.untried c.pop.new.self c.args.taken.now.tried c.in-Some.token c.requires.old c.in-Some.ensures.some)
    c.begin_calls.ensures.own (c.begin_calls.ensures.client ∙ ap (λ (t : TokenShown). t.client) c.is_left.ensures))
    c.keep-in-Spent.ensures.kept c.keep-in-Spent.ensures.pass c.keep-in-Spent.ensures.view
