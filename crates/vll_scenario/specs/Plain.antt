-- What a clause reads of a `Plain`.
use Rattle.std.specs.Prelude.{Bool, Option, is_some}
use Rattle.std.specs.declared.io.Error.{Error}
use Rattle.vll_scenario.specs.declared.plain.Plain.{Plain}

-- the reader or writer inside
abbrev pub plain_inner : {T : Type 0} → Plain T → T
plain_inner p = p.inner

-- why it failed the last time, if it has
abbrev pub plain_failure : {T : Type 0} → Plain T → Option Error
plain_failure p = p.failure

-- whether it has failed
abbrev pub plain_failed : {T : Type 0} → Plain T → Bool
plain_failed p = is_some (plain_failure p)
