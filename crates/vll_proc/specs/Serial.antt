-- The replies of calls made one at a time, and what each call keeps.
use Rattle.std.specs.Prelude.{ℕ, List, [], ◌∷◌}
use Rattle.vll_proc.specs.declared.call.Reply.{Reply}
use Rattle.vll_proc.specs.declared.syntax.Proc.{Proc}
use Rattle.vll_proc.specs.Headline.Serial.{apply, Made}

-- the replies of all calls of a list, one at a time
abbrev pub replies : List Proc → List Made → List ℕ → List Reply
replies procs [] records = []
replies procs (made ∷ more) records = (apply procs made.1 records).reply ∷ replies procs more (apply procs made.1 records).records

-- a call keeps a property of records: applied to any records that have it, it leaves records that have it
abbrev pub Keeps : List Proc → (List ℕ → Type 0) → Made → Type 0
Keeps procs Has made = (records : List ℕ) → Has records → Has (apply procs made.1 records).records
