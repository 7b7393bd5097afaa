-- How a call is made from key positions and arguments.
use Rattle.std.specs.Prelude.{◌≡◌, ℕ, ◌<◌, ◌^◌, true, List, IfSome, Option, Some, Ok}
use Rattle.vll_record.specs.declared.claim.Claim.{Claim}
use Rattle.vll_proc.specs.declared.call.Call.{Call}
use Rattle.vll_proc.specs.declared.syntax.KeyDecl.{KeyDecl}
use Rattle.vll_proc.specs.declared.syntax.Proc.{Proc}
use Rattle.vll_proc.specs.Headline.Made.{place_for}
use Rattle.vll_proc.specs.Headline.Meaning.{record_named}
use Rattle.vll_proc.specs.WellFormed.{argument_is_declared}
use Rattle.vll_check.specs.Calls.{call_to}

-- the index of the claim on a key position's record
abbrev pub cell_of : ℕ → List Claim → List ℕ → Option ℕ → KeyDecl → ℕ
cell_of records claims args found k = place_for claims (record_named records args found k.at)

-- a key position names a declared argument, and a record whose number fits in 32 bits
pub record IsPlaced (records : ℕ) (args : List ℕ) (found : Option ℕ) (declared : ℕ) (k : KeyDecl) : Type 0 where
  pub known : argument_is_declared declared k ≡ true
  pub fits : IfSome (record_named records args found k.at) (λ (r : ℕ). r < 2 ^ 32)

-- the call is made from some arguments for the procedure, which has its number
abbrev pub IsMadeFor : ℕ → Proc → Call → Type 0
IsMadeFor records p call = (args : List ℕ) × (call_to records call.number (Some p) args ≡ Ok call)
