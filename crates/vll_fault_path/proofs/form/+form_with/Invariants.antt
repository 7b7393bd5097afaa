use Rattle.std.proofs.Common.{length}
use Rattle.vll_fault_path.proofs.form.+form_with.Given as goal

abbrev pub decreases-form_with : goal.decreases-form_with
decreases-form_with l = length l.forms.now
