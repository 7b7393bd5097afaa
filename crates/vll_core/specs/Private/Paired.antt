-- The entries of the queue, made of its lines and statuses by ticket.
use Rattle.std.specs.Prelude.{List, [], ◌∷◌, map}
use Rattle.vll_sca.specs.declared.entry.Entry.{Entry}
use Rattle.vll_sca.specs.declared.status.Status.{Status}
use Rattle.vll_core.specs.declared.line.Line.{Line}
use Rattle.vll_core.specs.Queue.{QueueEntry, analysed}

-- each line with its status
abbrev pub paired : List Line → List Status → List QueueEntry
paired [] ss = []
paired (l ∷ ls) [] = []
paired (l ∷ ls) (s ∷ ss) = record { line = l; status = s } ∷ paired ls ss

-- the entries by ticket, as the analysis sees them
abbrev pub seen : List Line → List Status → List Entry
seen ls ss = map analysed (paired ls ss)
