-- The call that is made from a name and arguments, or the lowest fault that applies; which calls may enter.
use Rattle.std.specs.Prelude.{◌≡◌, ℕ, ◌<◌, Bool, true, ◌==◌, nat_lt, List, [], map, length, Option, Some, None, slice_get, slice_index, Result, Ok, Err, All, if◌then◌else◌}
use Rattle.std.specs.List.{list_all}
use Rattle.vll_record.specs.declared.claim.Claim.{Claim}
use Rattle.vll_proc.specs.declared.call.Call.{Call}
use Rattle.vll_proc.specs.declared.syntax.KeyAt.TheVariants as at
use Rattle.vll_proc.specs.declared.syntax.KeyDecl.{KeyDecl}
use Rattle.vll_proc.specs.declared.syntax.Proc.{Proc}
use Rattle.vll_proc.specs.Headline.Made.{call_of}
use Rattle.vll_proc.specs.Made.{IsCallOf}
use Rattle.vll_proc.specs.WellFormed.{IsWellFormed}
use Rattle.vll_check.specs.declared.fault.CallFault.{CallFault}
use Rattle.vll_check.specs.declared.fault.CallFault.TheVariants.{UnknownProc, ArgCount, RecordRange}
use Rattle.vll_check.specs.Headline.Catalog.{Catalog}
use Rattle.vll_check.specs.Faults.{check_fault}
use Rattle.vll_check.specs.Names.{number_named}
use Rattle.vll_check.specs.Headline.Calls.{with_found}

-- an argument that names a key's record is below the number of records
abbrev pub place_is_there : ℕ → List ℕ → KeyDecl → Bool
place_is_there records args k = elim k.at [ at.Fixed r ↦ true | at.Arg i ↦ nat_lt (slice_index args i) records | at.Through i ↦ true ]

-- the call of a procedure, with nothing found, or the lowest fault that applies
abbrev pub call_to : ℕ → ℕ → Option Proc → List ℕ → Result Call CallFault
call_to records n None args = Err UnknownProc
call_to records n (Some p) args =
    if length args == p.args then (if list_all (place_is_there records args) p.keys then Ok (call_of records n p args None) else Err RecordRange) else Err ArgCount

-- the call of the procedure with a number, if there is one
abbrev pub call_numbered : ℕ → List Proc → Option ℕ → List ℕ → Result Call CallFault
call_numbered records procs None args = Err UnknownProc
call_numbered records procs (Some n) args = call_to records n (slice_get procs n) args

-- the call of the procedure with a name, or the lowest fault that applies
abbrev pub call_made : Catalog → List ℕ → List ℕ → Result Call CallFault
call_made c name args = call_numbered c.records c.procs (number_named name c.procs) args

-- the call is one that the library makes, from some name and some arguments
abbrev pub Fits : Catalog → Call → Type 0
Fits c call = (name : List ℕ) × (args : List ℕ) × (call_made c name args ≡ Ok call)

-- a call without what it finds: its procedure and its arguments, with no value found, no claims and no cells
abbrev pub bare : Call → Call
bare call = record call { found = None; claims = []; cells = [] }

-- as `bare`, for each call of a list
abbrev pub bares : List Call → List Call
bares calls = map bare calls

-- the call may enter: it is one that the library makes, with a value found if it has an indirect key
abbrev pub IsReady : Catalog → Call → Type 0
IsReady c call = (made : Call) × (v : ℕ) × (Fits c made × (call ≡ with_found c made v))

-- the call is made from some arguments for a procedure that passed the tests, on existing records
pub record CallsProcedure (c : Catalog) (call : Call) : Type 0 where
  pub procedure : Proc
  pub found : slice_get c.procs call.number ≡ Some procedure
  pub checked : check_fault c.records procedure ≡ None
  pub formed : IsWellFormed procedure
  pub made : IsCallOf c.records procedure call
  pub within : All (λ (d : Claim). d.id < c.records) call.claims
