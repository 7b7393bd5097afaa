use Rattle.std.proofs.Common.{refl}
use Rattle.vll_draw.proofs.Taped.{same}
use Rattle.vll_draw.proofs.tape.TapeObserver.before.Goals as goal

pub returns : goal.returns
returns c = λ w past saw.
    let stands = c.in_ok-stand.ensures.stands w past saw in
    record {
      taped = same _ w past past c.stand.new.self _ stands.0 refl stands.0.events stands.0.ahead refl refl refl;
      claim = c.claim_of-self.ensures;
      before = stands.1;
    }
