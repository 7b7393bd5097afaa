-- A call's execution: its loads, stores and releases so far, the frame on which it runs, and its reply.
use Rattle.std.specs.Prelude.{◌≡◌, ℕ, ◌<◌, ◌≤◌, List, length, Some, None, slice_get, slice_index}
use Rattle.vll_record.specs.declared.claim.Claim.{Claim}
use Rattle.vll_record.specs.declared.claims.TheConstants.{MOST_CLAIMS}
use Rattle.vll_proc.specs.declared.call.Call.{Call}
use Rattle.vll_proc.specs.declared.syntax.Proc.{Proc}
use Rattle.vll_proc.specs.Cells.{Holds}
use Rattle.vll_proc.specs.Headline.Serial.{apply}
use Rattle.vll_core.specs.declared.execution.Execution.{Execution}

-- the cells of the first n claims have the values of their records
abbrev pub HoldsFirst : ℕ → List ℕ → List Claim → List ℕ → Type 0
HoldsFirst n cells claims records =
    (k : ℕ) (c : Claim) → k < n → slice_get claims k ≡ Some c → slice_index cells k ≡ slice_index records c.id

-- the execution of a call whose body has not run: the frame has the values that are loaded so far
pub record IsLoading (claims : List Claim) (records : List ℕ) (w : Execution) : Type 0 where
  pub within : w.loads ≤ length claims
  pub whole : length w.frame ≡ MOST_CLAIMS
  pub loaded : HoldsFirst w.loads w.frame claims records
  pub pending : w.reply ≡ None

-- a call's execution, if the records are those before it: until its last load the frame has the values loaded so far; from
-- then on it has the records' values after the call, and there is a reply
pub record IsAtWork (procs : List Proc) (call : Call) (records : List ℕ) (w : Execution) : Type 0 where
  pub within : w.loads ≤ length call.claims
  pub whole : length w.frame ≡ MOST_CLAIMS
  pub loaded : w.loads < length call.claims → HoldsFirst w.loads w.frame call.claims records
  pub pending : w.loads < length call.claims → w.reply ≡ None
  pub ran : w.loads ≡ length call.claims → w.reply ≡ Some (apply procs call records).reply
  pub holds : w.loads ≡ length call.claims → Holds w.frame call.claims (apply procs call records).records
