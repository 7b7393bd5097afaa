use Rattle.std.proofs.Common.{None, refl}
use Rattle.vll.proofs.Refused.{explains, if_some}
use Rattle.vll.proofs.acting.serve.Goals as goal

pub returns-in-Err-clause-explained : goal.returns-in-Err-clause-explained
returns-in-Err-clause-explained g c =
    let r = c.in-Err.why.refusal in
    if_some r.text _ _ (λ t has. (refl, has)) (explains None None r r.text refl c.in-Err.ensures.parsed)
