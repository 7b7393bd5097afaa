use Rattle.std.proofs.Common.{◌∙◌, ap, inr, sym, rules}
use Rattle.vll_engine.specs.declared.passes.BegunOnto.TheVariants.{Refused}
use Rattle.vll_tokens.proofs.Gained.{client_begun, of_begun, spent_session}
use Rattle.vll_tokens.proofs.Owned.{own_fits}
use Rattle.vll_workers.proofs.work.Work.begin_calls.Goals as goal

pub looks_held-requires-after_bounds : goal.looks_held-requires-after_bounds
looks_held-requires-after_bounds g c κs within = own_fits g.N.Name.engine g.T.Roster.tokens c.loop.token c.requires.fit c.loop.invariant.0

pub begin-begun-requires-clause-fit : goal.begin-begun-requires-clause-fit
begin-begun-requires-clause-fit g c κs within = own_fits g.N.Name.engine g.T.Roster.tokens c.loop.token c.requires.fit c.loop.invariant.0

pub returns-in-Refused-clause-own : goal.returns-in-Refused-clause-own
returns-in-Refused-clause-own g c =
    of_begun g.N.Name.engine g.T.Roster.tokens c.loop.token c.begin-begun.new.self c.begin-begun.result c.loop.passes c.begin-begun.new.passes c.loop.invariant.0 (c.is_through.ensures.left c.if-is_through.false) c.begin-begun.ensures.begun

pub returns-in-Refused-clause-client : goal.returns-in-Refused-clause-client
returns-in-Refused-clause-client g c =
    client_begun g.N.Name.engine c.loop.token c.begin-begun.new.self c.begin-begun.result c.loop.passes c.begin-begun.new.passes c.begin-begun.ensures.begun ∙ c.loop.invariant.1

pub returns-in-Refused-clause-spent : goal.returns-in-Refused-clause-spent
returns-in-Refused-clause-spent g c is =
    inr (spent_session g.N.Name.engine c.loop.token c.begin-begun.new.self c.begin-begun.result c.loop.passes c.begin-begun.new.passes (c.is_through.ensures.left c.if-is_through.false) c.begin-begun.ensures.begun (c.in-Refused.is ∙ ap Refused (c.refused.ensures is)) ∙ sym c.requires.limit)

pub returns-in-Blocked-clause-own : goal.returns-in-Blocked-clause-own
returns-in-Blocked-clause-own g c =
    of_begun g.N.Name.engine g.T.Roster.tokens c.loop.token c.begin-begun.new.self c.begin-begun.result c.loop.passes c.begin-begun.new.passes c.loop.invariant.0 (c.is_through.ensures.left c.if-is_through.false) c.begin-begun.ensures.begun

pub returns-in-Blocked-clause-client : goal.returns-in-Blocked-clause-client
returns-in-Blocked-clause-client g c =
    client_begun g.N.Name.engine c.loop.token c.begin-begun.new.self c.begin-begun.result c.loop.passes c.begin-begun.new.passes c.begin-begun.ensures.begun ∙ c.loop.invariant.1

pub loop-preserved : goal.loop-preserved
loop-preserved g c = (
  of_begun g.N.Name.engine g.T.Roster.tokens c.loop.token c.begin-begun.new.self c.begin-begun.result c.loop.passes c.begin-begun.new.passes c.loop.invariant.0 (c.is_through.ensures.left c.if-is_through.false) c.begin-begun.ensures.begun,
  client_begun g.N.Name.engine c.loop.token c.begin-begun.new.self c.begin-begun.result c.loop.passes c.begin-begun.new.passes c.begin-begun.ensures.begun ∙ c.loop.invariant.1,
)

pub begin-begun-requires-clause-room : goal.begin-begun-requires-clause-room
begin-begun-requires-clause-room g c = search rules

pub returns-in-Blocked-clause-spent : goal.returns-in-Blocked-clause-spent
returns-in-Blocked-clause-spent g c = search rules
