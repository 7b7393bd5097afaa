-- A part of a service: some rounds, one after the other.
use Rattle.std.specs.Prelude.{◌≡◌, ℕ, Bool, true, List, ◌++◌, length, Option}
use Rattle.std.specs.Io.KnownBytes.{Appends, Consumes, IsAtEnd}
use Rattle.vll_proc.specs.Headline.Serial.{Made}
use Rattle.vll_proc.specs.Serial.{replies}
use Rattle.vll_check.specs.Headline.Catalog.{Catalog}
use Rattle.vll_lines.specs.Answers.{answers}
use Rattle.vll_lines.specs.Calls.{counts_asked}
use Rattle.vll_lines.specs.Counts.{all_counted}
use Rattle.vll_lines.specs.Request.{AreRequests}
use Rattle.vll_lines.specs.Lines.{CutsInto}
use Rattle.vll_lines.specs.declared.counts.Counts.{Counts}
use Rattle.vll_lines.specs.declared.counts.Rounds.{Rounds}
use Rattle.vll_lines.specs.declared.request.Request.{Request}
use Rattle.vll_stream.specs.Served.{AreOrdered}

-- where a service stands: what is left of the input, the bytes of the line that has begun, what was written, and the
-- calls made
pub record Place : Type 0 where
  pub input : Option (List ℕ)
  pub tail : List ℕ
  pub output : Option (List ℕ)
  pub counts : Counts

-- where a service stands with this reader, these bytes of a line, this writer and these calls
abbrev pub place_of : {S W : Type 0} → (S → Option (List ℕ)) → (W → Option (List ℕ)) → S → List ℕ → W → Counts → Place
place_of remaining contents reader tail writer counts = record { input = remaining reader; tail = tail; output = contents writer; counts = counts }

-- from one place to another, lines were cut off the input, up to its end if this is the last part, and answered by
-- these calls, as if they were made one at a time from these records
pub record IsPart (library : Catalog) (clients : ℕ) (records : List ℕ) (calls : List Made) (is_last : Bool) (old new : Place) : Type 0 where
  pub bytes : List ℕ
  pub read : Consumes old.input new.input bytes
  pub ended : is_last ≡ true → IsAtEnd new.input
  pub lines : List (List ℕ)
  pub cut : CutsInto is_last (old.tail ++ bytes) lines new.tail
  pub requests : List Request
  pub are : AreRequests library clients lines requests
  pub ordered : AreOrdered requests calls
  pub text : List ℕ
  pub rounds : List Rounds
  pub told : length rounds ≡ counts_asked requests
  pub answered : text ≡ answers library.procs requests old.counts records calls rounds
  pub written : Appends old.output new.output text
  pub counts : new.counts ≡ all_counted old.counts (replies library.procs calls records)
