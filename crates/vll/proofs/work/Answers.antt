use Rattle.std.proofs.Common.{◌≡◌}
use Rattle.vll_scenario.specs.Streams.{AppendsBeginning}
use Rattle.vll.specs.Private.Acting.{RefusesAsked, explanation_in}
use Rattle.vll.proofs.Refused.{refuses, told}
use Rattle.vll.proofs.work.Goals as goal

pub returns-clause-explained : goal.returns-clause-explained
returns-clause-explained g c =
    let known = g.S.Source.remaining c.args.reader.now in
    let left = g.S.Source.remaining c.perform-done.new.reader in
    told (explanation_in c.perform-done.result) _ (RefusesAsked c.args.asked (c.perform-done.new.reader ≡ c.args.reader.now) known left) (AppendsBeginning (g.E.Sink.contents c.args.errors.now) (g.E.Sink.contents c.ended.new.errors))
    (λ t holds has. (has.0, has.1, refuses has.0 _ known left t _ holds has.2)) c.perform-done.ensures.refused c.ended.ensures.explained c.ended.ensures.quiet
