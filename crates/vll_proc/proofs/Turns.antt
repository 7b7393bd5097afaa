-- What is left of a number of turns once one of them is taken.
use Rattle.std.proofs.Common.{◌≡◌, ℕ, suc, ◌+◌, ◌-◌, ◌*◌, ◌<◌, Ok, refl, ap, ◌∙◌, arith}
use Rattle.vll_proc.proofs.Common.{Scene, Action, repeated}

-- if that turn does not end the call, the others begin where it ends
pub repeated-left : (n i : ℕ) (act : Action) (s t : Scene) → i < n → act s ≡ Ok t → repeated (n - i) act s ≡ repeated (n - (i + 1)) act t
repeated-left n i act s t lt goes_on =
    let one : n - i ≡ suc (n - (i + 1)) = omega arith in
    rw (one, goes_on) refl

-- what each turn may add
pub product-left : (n i size : ℕ) → i < n → (n - i) * size ≡ size + (n - (i + 1)) * size
product-left n i size lt =
    let one : n - i ≡ (n - (i + 1)) + 1 = omega arith in
    ap (λ (turns : ℕ). turns * size) one ∙ omega arith
