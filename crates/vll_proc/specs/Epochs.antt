-- Calls in epochs: lists of calls, each of which begins with the records that the one before it left.
use Rattle.std.specs.Prelude.{ℕ, List, [], ◌∷◌, ◌++◌}
use Rattle.vll_proc.specs.declared.call.Reply.{Reply}
use Rattle.vll_proc.specs.declared.syntax.Proc.{Proc}
use Rattle.vll_proc.specs.Headline.Serial.{Made, end}
use Rattle.vll_proc.specs.Serial.{replies}

-- the calls of all epochs, one epoch after the other
abbrev pub in_a_row : List (List Made) → List Made
in_a_row [] = []
in_a_row (calls ∷ more) = calls ++ in_a_row more

-- the replies of all epochs, one epoch after the other
abbrev pub replies_by_epochs : List Proc → List (List Made) → List ℕ → List Reply
replies_by_epochs procs [] records = []
replies_by_epochs procs (calls ∷ more) records = replies procs calls records ++ replies_by_epochs procs more (end procs calls records)

-- the records after the last epoch
abbrev pub end_by_epochs : List Proc → List (List Made) → List ℕ → List ℕ
end_by_epochs procs [] records = records
end_by_epochs procs (calls ∷ more) records = end_by_epochs procs more (end procs calls records)
