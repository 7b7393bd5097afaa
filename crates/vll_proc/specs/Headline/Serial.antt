-- What calls do to records, one call at a time.
use Rattle.std.specs.Prelude.{ℕ, List, [], ◌∷◌, take, Result, Ok, Err, Option, Some, None, slice_get}
use Rattle.vll_proc.specs.declared.call.Reason.{Reason}
use Rattle.vll_proc.specs.declared.call.Reply.{Reply}
use Rattle.vll_proc.specs.declared.call.Reply.TheVariants.{Committed, Aborted}
use Rattle.vll_proc.specs.declared.call.Call.{Call}
use Rattle.vll_proc.specs.declared.syntax.Proc.{Proc}
use Rattle.vll_proc.specs.Headline.Meaning.{Scene, body}

-- the records and the reply after a call
pub record After : Type 0 where
  pub records : List ℕ
  pub reply : Reply

-- a body that ends with a reason changes no record
abbrev pub after : List ℕ → Result Scene Reason → After
after records (Ok s) = record { records = s.records; reply = Committed s.outputs }
after records (Err why) = record { records = records; reply = Aborted why }

-- a procedure's body for a call, applied to the records
abbrev pub applied : Proc → Call → List ℕ → After
applied p c records = after records (body p c records)

-- a call with a number that no procedure has does nothing; a library makes no such call
abbrev pub applied_at : Option Proc → Call → List ℕ → After
applied_at (Some p) c records = applied p c records
applied_at None c records = record { records = records; reply = Committed [] }

-- the call applied to the records: what its body means, or no change if that ends with a reason
abbrev pub apply : List Proc → Call → List ℕ → After
apply procs c records = applied_at (slice_get procs c.number) c records

-- a client and its call
abbrev pub Made : Type 0
Made = ℕ × Call

-- the records after all calls of a list, one at a time
abbrev pub end : List Proc → List Made → List ℕ → List ℕ
end procs [] records = records
end procs (made ∷ more) records = end procs more (apply procs made.1 records).records

-- the records after the first i calls
abbrev pub before : List Proc → List Made → List ℕ → ℕ → List ℕ
before procs calls records i = end procs (take i calls) records

-- the reply of call i, if there is one
abbrev pub answer : List Proc → List Made → List ℕ → ℕ → Option Reply
answer procs calls records i = answer_at procs (slice_get calls i) (before procs calls records i)
  where
    answer_at : List Proc → Option Made → List ℕ → Option Reply
    answer_at procs None now = None
    answer_at procs (Some made) now = Some (apply procs made.1 now).reply
