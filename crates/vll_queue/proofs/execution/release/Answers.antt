use Rattle.std.proofs.Common.{◌<◌, List, All, length, refl, sym, ap, ◌∙◌, subst}
use Rattle.vll_record.specs.declared.claim.Claim.{Claim}
use Rattle.vll_queue.specs.Pass.{DoneShown}
use Rattle.vll_queue.proofs.Working.{claims_there}
use Rattle.vll_queue.proofs.execution.release.Goals as goal

pub release_all-requires-clause-there : goal.release_all-requires-clause-there
release_all-requires-clause-there g c =
    subst (λ (cs : List Claim). All (λ (d : Claim). d.id < length c.args.words.now.base.records) cs) (sym (ap (λ (d : DoneShown). d.pass.call.claims) c.done.view_is) ∙ c.done.invariant.1)
    (claims_there g.N.Name.engine c.args.words.now c.args.done.table c.args.done.pass c.args.done.pass.call c.requires.catalog c.requires.done.of c.requires.words refl)
