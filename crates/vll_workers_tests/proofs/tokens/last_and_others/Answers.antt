use Rattle.std.proofs.Common.{ap, length, refl}
use Rattle.vll_counters.specs.Shown.{SessionShown}
use Rattle.vll_workers_tests.proofs.Sessions.{last_session}
use Rattle.vll_workers_tests.proofs.tokens.last_and_others.Goals as goal

pub returns-clause-last : goal.returns-clause-last
returns-clause-last g c =
    let new = c.pop.new.self.items in
    let last = last_session g.N.Name.engine.table g.N.Name.engine.clients (length new) c.args.sessions.items new c.in-Some.session c.requires c.in-Some.ensures.items refl in
    ap (λ (s : SessionShown). s.table) last.last

pub returns-clause-others : goal.returns-clause-others
returns-clause-others g c =
    let new = c.pop.new.self.items in
    let last = last_session g.N.Name.engine.table g.N.Name.engine.clients (length new) c.args.sessions.items new c.in-Some.session c.requires c.in-Some.ensures.items refl in
    last.before
