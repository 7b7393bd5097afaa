-- Calls as they enter: the source of a call, what it claims once a value is found there.
use Rattle.std.specs.Prelude.{◌≡◌, ℕ, List, [], ◌∷◌, Option, Some, None, slice_get, is_some, take, if◌then◌else◌}
use Rattle.vll_proc.specs.declared.call.Call.{Call}
use Rattle.vll_proc.specs.declared.syntax.KeyDecl.{KeyDecl}
use Rattle.vll_proc.specs.declared.syntax.Proc.{Proc}
use Rattle.vll_proc.specs.Headline.Made.{call_of}
use Rattle.vll_proc.specs.Headline.Meaning.{record_named, source_of}
use Rattle.vll_check.specs.Headline.Catalog.{Catalog}

-- the key position at an index, if there is an index
abbrev pub key_at : List KeyDecl → Option ℕ → Option KeyDecl
key_at keys None = None
key_at keys (Some i) = slice_get keys i

-- the record that a key position names by a call's arguments
abbrev pub named_by : ℕ → Call → Option KeyDecl → Option ℕ
named_by records call None = None
named_by records call (Some k) = record_named records (take call.arg_count call.args) None k.at

-- the record by whose value a call of the procedure finds another one
abbrev pub source_by : ℕ → Option Proc → Call → Option ℕ
source_by records None call = None
source_by records (Some p) call = named_by records call (key_at p.keys (source_of p.keys))

-- as `source_by`, for a call that the library makes
abbrev pub source : Catalog → Call → Option ℕ
source c call = source_by c.records (slice_get c.procs call.number) call

-- a call of the procedure with a value found, if it has an indirect key
abbrev pub found_by : ℕ → Option Proc → Call → ℕ → Call
found_by records None call v = call
found_by records (Some p) call v = if is_some (source_of p.keys) then call_of records call.number p (take call.arg_count call.args) (Some v) else call

-- as `found_by`, for a call that the library makes: then it claims the record that the value leads to
abbrev pub with_found : Catalog → Call → ℕ → Call
with_found c call v = found_by c.records (slice_get c.procs call.number) call v

-- calls as they enter: these calls, each with a value found if it has an indirect key
abbrev pub AreFound : Catalog → List Call → List Call → Type 0
AreFound c [] [] = Unit {0}
AreFound c [] (x ∷ xs) = ⊥
AreFound c (call ∷ calls) [] = ⊥
AreFound c (call ∷ calls) (x ∷ xs) = ((v : ℕ) × (x ≡ with_found c call v)) × AreFound c calls xs
