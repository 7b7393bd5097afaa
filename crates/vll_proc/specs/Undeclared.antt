-- Scenes that a procedure's declarations cannot tell apart, and ends that a caller cannot tell apart.
use Rattle.std.specs.Prelude.{◌≡◌, ℕ, ◌<◌, length, Result, Ok, Err, slice_index}
use Rattle.vll_proc.specs.declared.call.Reason.{Reason}
use Rattle.vll_proc.specs.declared.syntax.Proc.{Proc}
use Rattle.vll_proc.specs.Headline.Meaning.{Scene}

-- two scenes agree on each declared key position and argument, and on the records and outputs;
-- they have equally many locals, whatever those hold
pub record AgreeOnDeclared (p : Proc) (s t : Scene) : Type 0 where
  pub named : (k : ℕ) → k < length p.keys → slice_index s.named k ≡ slice_index t.named k
  pub args : (i : ℕ) → i < p.args → slice_index s.args i ≡ slice_index t.args i
  pub as_many_locals : length s.locals ≡ length t.locals
  pub records : s.records ≡ t.records
  pub outputs : s.outputs ≡ t.outputs

-- two bodies end with the same records and outputs, or with the same reason
abbrev pub EndsAlike : Result Scene Reason → Result Scene Reason → Type 0
EndsAlike (Ok s) (Ok t) = (s.records ≡ t.records) × (s.outputs ≡ t.outputs)
EndsAlike (Err why) (Err reason) = why ≡ reason
EndsAlike (Ok s) (Err why) = ⊥
EndsAlike (Err why) (Ok t) = ⊥
