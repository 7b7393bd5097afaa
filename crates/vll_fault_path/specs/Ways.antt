-- The way from a scenario to the piece of it that is faulty.
use Rattle.std.specs.Prelude.{◌≡◌, ℕ, min, List, [], ◌∷◌, ◌++◌, Option, Some, None, option_and_then, option_map, unwrap_or, if◌then◌else◌, codes}
use Rattle.std.specs.Fmt.{decimal}
use Rattle.serde_json.specs.Data.{Data}
use Rattle.serde_json.specs.Find.{at, get}
use Rattle.vll_proc.specs.declared.syntax.Edition.{Edition}
use Rattle.vll_proc.specs.declared.syntax.Edition.TheVariants.{One}
use Rattle.vll_proc.specs.declared.syntax.Proc.{Proc}
use Rattle.vll_check.specs.declared.fault.CheckFault.{CheckFault}
use Rattle.vll_check.specs.Pieces.{nothing_before}
use Rattle.vll_core.specs.declared.config.TheConstants.{MOST_RECORDS}
use Rattle.vll_scenario.specs.declared.fault.ScenarioFault.{ScenarioFault}
use Rattle.vll_scenario.specs.declared.fault.ScenarioFault.TheVariants as fault
use Rattle.vll_fault_path.specs.declared.piece.Step.{Step}
use Rattle.vll_fault_path.specs.declared.piece.Step.TheVariants as step
use Rattle.vll_fault_path.specs.Parts.{LeadsIn, whole}
use Rattle.vll_fault_path.specs.PieceTests as test
use Rattle.vll_fault_path.specs.PieceTests.{PieceTest, count_in, passes}
use Rattle.vll_fault_path.specs.Pieces.{Piece, pieces_of, pieces_of_scenario}
use Rattle.vll_scenario.specs.Shape.{edition_of}
use Rattle.vll_scenario.specs.Syntax.{proc_at}
use Rattle.vll_scenario.specs.Tree.{number_at}

-- the first of some pieces that does not pass a test
abbrev pub first_faulty : Edition → PieceTest → List Piece → Option Piece
first_faulty edition test [] = None
first_faulty edition test (p ∷ ps) = if passes edition test p then first_faulty edition test ps else Some p

-- a way leads from some pieces into the first faulty one, and on through its pieces, until none of them is faulty
abbrev pub Leads : Edition → PieceTest → List Piece → List Step → Type 0
Leads edition test ps [] = first_faulty edition test ps ≡ None
Leads edition test ps (step ∷ rest) = (at : Piece) × (first_faulty edition test ps ≡ Some at) × (at.step ≡ step) × Leads edition test (pieces_of edition at.kind at.value) rest

-- the edition in which a scenario is read, One if it has no valid version
abbrev pub edition_in : Data → Edition
edition_in d = unwrap_or (option_and_then edition_of (option_and_then number_at (get (codes "version") d))) One

-- the number of a scenario's records, no more than it may have
abbrev pub records_in : Data → ℕ
records_in d = min (unwrap_or (option_map count_in (get (codes "records") d)) 0) MOST_RECORDS

-- the procedure of a scenario at an index
abbrev pub procedure_in : Data → ℕ → Option Data
procedure_in d index = option_and_then (at index) (get (codes "procs") d)

-- a way leads from a procedure to the part at fault; no step if the procedure is not there
abbrev pub LeadsToPart : ℕ → CheckFault → Option Proc → List Step → Type 0
LeadsToPart records why (Some p) way = LeadsIn (record { procedure = p; records = records; fault = why }) nothing_before (whole p) way
LeadsToPart records why None way = way ≡ []

-- the way from a scenario to the piece at fault; no step if it is the scenario itself, or if the fault lies in no tree. A
-- call, and the names of all procedures, are one piece
abbrev pub LeadsToFault : Data → ScenarioFault → List Step → Type 0
LeadsToFault d (fault.Shape spot) way = Leads (edition_in d) test.Shape (pieces_of_scenario d) way
LeadsToFault d fault.Size way = Leads (edition_in d) test.Sizes (pieces_of_scenario d) way
LeadsToFault d (fault.Check index why) way = (rest : List Step) × (way ≡ step.Procs ∷ step.Item index ∷ rest)
    × LeadsToPart (records_in d) why (option_and_then (proc_at (edition_in d)) (procedure_in d index)) rest
LeadsToFault d fault.NameTwice way = way ≡ step.Procs ∷ []
LeadsToFault d (fault.Call client index why) way = way ≡ step.Clients ∷ step.Item client ∷ step.Call index ∷ []
LeadsToFault d _ way = way ≡ []

-- the text of a step
abbrev pub step_words : Step → List ℕ
step_words step.Version = codes "version"
step_words step.Records = codes "records"
step_words step.Procs = codes "procs"
step_words step.Clients = codes "clients"
step_words step.Cap = codes "cap"
step_words step.Bits = codes "bits"
step_words step.Limit = codes "limit"
step_words step.Hash = codes "hash"
step_words step.Schedule = codes "schedule"
step_words (step.Item i) = codes " " ++ decimal i
step_words step.Name = codes ", name"
step_words step.Args = codes ", args"
step_words step.Keys = codes ", keys"
step_words (step.Key i) = codes ", key " ++ decimal i
step_words step.Body = codes ", body"
step_words (step.Statement i) = codes ", statement " ++ decimal i
step_words (step.Call i) = codes ", call " ++ decimal i
step_words step.Proc = codes ", proc"
step_words (step.Argument i) = codes ", argument " ++ decimal i
step_words step.Index = codes ", index"
step_words step.Record = codes ", record"
step_words step.Code = codes ", code"
step_words step.Value = codes ", value"
step_words step.Test = codes ", test"
step_words step.FirstList = codes ", first list"
step_words step.SecondList = codes ", second list"
step_words step.Count = codes ", count"
step_words step.List = codes ", list"
step_words step.Operand = codes ", operand"
step_words step.LeftOperand = codes ", left operand"
step_words step.RightOperand = codes ", right operand"
step_words step.Client = codes ", client"
step_words step.Ticket = codes ", ticket"

-- the text of some steps
abbrev pub words_of : List Step → List ℕ
words_of [] = []
words_of (step ∷ steps) = step_words step ++ words_of steps
