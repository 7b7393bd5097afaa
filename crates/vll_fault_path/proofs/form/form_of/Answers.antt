use Rattle.std.proofs.Common.{arith}
use Rattle.std.proofs.lemmas.Grind.{common_steps}
use Rattle.vll_fault_path.proofs.Forms.{slots-found}
use Rattle.vll_fault_path.proofs.form.form_of.Goals as goal

pub returns-in-Some : goal.returns-in-Some
returns-in-Some c =
    let table = c.forms_of.ensures c.args.edition in
    let found = slots-found c.args.edition c.args.word.now c.forms_of.result.now in
    grind (arith, common_steps)

pub returns-in-None : goal.returns-in-None
returns-in-None c =
    let table = c.forms_of.ensures c.args.edition in
    let found = slots-found c.args.edition c.args.word.now c.forms_of.result.now in
    grind (arith, common_steps)
