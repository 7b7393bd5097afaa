use Rattle.vll_counters.specs.Headline.Views.{calls_in}
use Rattle.vll_stream.proofs.MadeSoFar.{the_calls}
use Rattle.vll_stream.proofs.epoch.closed.Goals as goal

pub returns-in-Ok-clause-records : goal.returns-in-Ok-clause-records
returns-in-Ok-clause-records g c =
    (calls_in c.in-Ok.closed.journal.items, the_calls g.N.Name.engine c.in-Ok.closed.journal.items c.args.sessions.items c.in-Ok.ensures.serial.clients c.in-Ok.ensures.sessions, c.in-Ok.ensures.serial.at_end)
