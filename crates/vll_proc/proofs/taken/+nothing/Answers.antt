use Rattle.std.proofs.Common.{ap, ◌∙◌, arith}
use Rattle.std.proofs.lemmas.Grind.{common_steps}
use Rattle.vll_proc.proofs.Nothing.{does_nothing_repeat}
use Rattle.vll_proc.specs.Steps.{does_nothing}
use Rattle.vll_proc.proofs.taken.+nothing.Goals as goal

pub does_nothing-returns-else-turns-eq0 : goal.does_nothing-returns-else-turns-eq0
does_nothing-returns-else-turns-eq0 t c =
    let all = ap does_nothing c.in-Repeat.is ∙ does_nothing_repeat c.in-Repeat.turns c.in-Repeat.list in
    grind (arith, common_steps)
