-- The call that was made for a procedure, and has found what it needs.
use Rattle.std.specs.Prelude.{◌≡◌, ℕ, Bool, true, false, take, Option, Some, None}
use Rattle.std.specs.List.{list_all}
use Rattle.vll_proc.specs.declared.call.Call.{Call}
use Rattle.vll_proc.specs.declared.syntax.KeyAt.{KeyAt}
use Rattle.vll_proc.specs.declared.syntax.KeyAt.TheVariants as at
use Rattle.vll_proc.specs.declared.syntax.KeyDecl.{KeyDecl}
use Rattle.vll_proc.specs.declared.syntax.Proc.{Proc}
use Rattle.vll_proc.specs.Headline.Made.{call_of}

-- a key position names a record, as far as this depends on what was found
abbrev pub is_led : Option ℕ → KeyAt → Bool
is_led found (at.Fixed r) = true
is_led found (at.Arg i) = true
is_led None (at.Through i) = false
is_led (Some v) (at.Through i) = true

-- a call that was made for the procedure among `records` records, and has found what it needs
pub record IsCallOf (records : ℕ) (p : Proc) (c : Call) : Type 0 where
  pub count : c.arg_count ≡ p.args
  pub made : c ≡ call_of records c.number p (take c.arg_count c.args) c.found
  pub led : list_all (λ (k : KeyDecl). is_led c.found k.at) p.keys ≡ true
