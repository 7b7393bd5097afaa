-- When two calls are the same.
use Rattle.std.specs.Prelude.{Bool, ◌==◌}
use Rattle.std.specs.Option.{option_eq}
use Rattle.std.specs.Cmp.Lexicographic.{pointwise}
use Rattle.std.specs.Ordering.{eq_of_both, on}
use Rattle.vll_record.specs.Claim.{is_same_claim}
use Rattle.vll_proc.specs.declared.call.Call.{Call}

-- two calls are the same: of one procedure, with the same arguments, value found, claims and cells
abbrev pub is_same_call : Call → Call → Bool
is_same_call =
    eq_of_both (on (λ (c : Call). c.number) ◌==◌)
    (eq_of_both (on (λ (c : Call). c.arg_count) ◌==◌)
    (eq_of_both (on (λ (c : Call). c.args) (pointwise ◌==◌))
    (eq_of_both (on (λ (c : Call). c.found) (option_eq ◌==◌))
    (eq_of_both (on (λ (c : Call). c.cells) (pointwise ◌==◌))
    (on (λ (c : Call). c.claims) (pointwise is_same_claim))))))
