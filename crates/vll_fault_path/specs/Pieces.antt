-- The pieces of a scenario: what each has to be, and the pieces inside it.
use Rattle.std.specs.Prelude.{ℕ, suc, ◌==◌, Bool, List, [], ◌∷◌, ◌++◌, length, Option, Some, None, option_and_then, is_some, if◌then◌else◌, codes}
use Rattle.serde_json.specs.Data.{Data, string, array, Items, no_items, item}
use Rattle.serde_json.specs.Events.{items_len}
use Rattle.serde_json.specs.Find.{as_array, as_str, get}
use Rattle.vll_proc.specs.declared.syntax.Edition.{Edition}
use Rattle.vll_fault_path.specs.declared.piece.Kind.{Kind}
use Rattle.vll_fault_path.specs.declared.piece.Kind.TheVariants as kind
use Rattle.vll_fault_path.specs.Forms.{form_of}
use Rattle.vll_fault_path.specs.declared.form.Slot.{Slot}
use Rattle.vll_fault_path.specs.declared.piece.Step.{Step}
use Rattle.vll_fault_path.specs.declared.piece.Step.TheVariants as step
use Rattle.vll_scenario.specs.Schedule.{event_at}
use Rattle.vll_scenario.specs.Shape.{asked_at, edition_of, may_names, must_names, placing_at, script_at}
use Rattle.vll_scenario.specs.Syntax.{code_at, expr_at, has_exactly, has_members, index_at, key_at, mode_at, proc_at, proc_names, stmt_at, stmts_at}
use Rattle.vll_scenario.specs.Tree.{list_at, number_at, u32_at, whole}

-- a piece: the step to it from the enclosing piece, what it has to be, and its value
pub record Piece : Type 0 where
  pub step : Step
  pub kind : Kind
  pub value : Data

-- whether a JSON value is what it has to be
abbrev pub is_read : Edition → Kind → Data → Bool
is_read edition kind.Version d = is_some (option_and_then edition_of (number_at d))
is_read edition kind.Number d = is_some (number_at d)
is_read edition kind.Whole d = is_some (u32_at d)
is_read edition kind.Index d = is_some (index_at d)
is_read edition kind.Code d = is_some (code_at d)
is_read edition kind.Text d = is_some (as_str d)
is_read edition kind.Hash d = is_some (placing_at d)
is_read edition kind.Records d = is_some (whole (list_at number_at d))
is_read edition kind.Procedures d = is_some (whole (list_at (proc_at edition) d))
is_read edition kind.Procedure d = is_some (proc_at edition d)
is_read edition kind.Keys d = is_some (whole (list_at key_at d))
is_read edition kind.Key d = is_some (key_at d)
is_read edition kind.Statements d = is_some (stmts_at edition d)
is_read edition kind.Statement d = is_some (stmt_at edition d)
is_read edition kind.Expression d = is_some (expr_at d)
is_read edition kind.Scripts d = is_some (whole (list_at script_at d))
is_read edition kind.Script d = is_some (script_at d)
is_read edition kind.Call d = is_some (asked_at d)
is_read edition kind.Arguments d = is_some (whole (list_at number_at d))
is_read edition kind.Schedule d = is_some (whole (list_at event_at d))
is_read edition kind.Event d = is_some (event_at d)

-- what the items of a piece have to be, if it is a list of any length
abbrev pub item_kind : Kind → Option Kind
item_kind kind.Records = Some kind.Number
item_kind kind.Arguments = Some kind.Number
item_kind kind.Procedures = Some kind.Procedure
item_kind kind.Scripts = Some kind.Script
item_kind kind.Schedule = Some kind.Event
item_kind kind.Script = Some kind.Call
item_kind kind.Keys = Some kind.Key
item_kind kind.Statements = Some kind.Statement
item_kind _ = None

-- the step to an item of such a list
abbrev pub item_step : Kind → ℕ → Step
item_step kind.Script i = step.Call i
item_step kind.Arguments i = step.Argument i
item_step kind.Keys i = step.Key i
item_step kind.Statements i = step.Statement i
item_step _ i = step.Item i

-- the items of a list as pieces, with indexes from i on
abbrev pub items_from : Kind → Kind → ℕ → Items → List Piece
items_from list kind i no_items = []
items_from list kind i (item d ds) = record { step = item_step list i; kind = kind; value = d } ∷ items_from list kind (suc i) ds

-- what follows a word, as pieces
abbrev pub pieces_behind : List Slot → Items → List Piece
pieces_behind [] ds = []
pieces_behind (s ∷ slots) no_items = []
pieces_behind (s ∷ slots) (item d ds) = record { step = s.step; kind = s.kind; value = d } ∷ pieces_behind slots ds

-- the pieces of a form, none if there are more or fewer than its word takes
abbrev pub pieces_of_slots : List Slot → Items → List Piece
pieces_of_slots slots ds = if length slots == items_len ds then pieces_behind slots ds else []

-- a value as a piece, if it is there
abbrev pub piece_if : Step → Kind → Option Data → List Piece
piece_if step kind None = []
piece_if step kind (Some d) = record { step = step; kind = kind; value = d } ∷ []

-- a member of an object as a piece, if it is there
abbrev pub member_piece : List ℕ → Step → Kind → Data → List Piece
member_piece name step kind d = piece_if step kind (get name d)

-- the pieces of a procedure
abbrev pub pieces_of_procedure : Data → List Piece
pieces_of_procedure d =
    if has_exactly proc_names d then
    member_piece (codes "name") step.Name kind.Text d ++ member_piece (codes "args") step.Args kind.Index d ++ member_piece (codes "keys") step.Keys kind.Keys d ++ member_piece (codes "body") step.Body kind.Statements d
    else []

-- the pieces of a call
abbrev pub pieces_of_call : Data → List Piece
pieces_of_call d =
    if has_exactly (codes "proc" ∷ codes "args" ∷ []) d then member_piece (codes "proc") step.Proc kind.Text d ++ member_piece (codes "args") step.Args kind.Arguments d else []

-- the pieces of a scenario, in the order in which they are tested
abbrev pub pieces_of_scenario : Data → List Piece
pieces_of_scenario d =
    if has_members must_names may_names d then
    member_piece (codes "version") step.Version kind.Version d ++ member_piece (codes "records") step.Records kind.Records d ++ member_piece (codes "procs") step.Procs kind.Procedures d ++
    member_piece (codes "clients") step.Clients kind.Scripts d ++ member_piece (codes "cap") step.Cap kind.Whole d ++ member_piece (codes "bits") step.Bits kind.Whole d ++
    member_piece (codes "limit") step.Limit kind.Whole d ++ member_piece (codes "hash") step.Hash kind.Hash d ++ member_piece (codes "schedule") step.Schedule kind.Schedule d
    else []

-- the pieces after the mode and the place of a key, if both are words
abbrev pub pieces_of_place : Edition → Option (List ℕ) → Option (List ℕ) → Items → List Piece
pieces_of_place edition (Some mode) (Some word) ds = if is_some (mode_at mode) then pieces_of_slots (form_of edition kind.Key word) ds else []
pieces_of_place edition _ _ ds = []

-- the pieces of a key, none if it does not have the form of one
abbrev pub pieces_of_key : Edition → Data → List Piece
pieces_of_key edition (array (item mode (item word ds))) = pieces_of_place edition (as_str mode) (as_str word) ds
pieces_of_key edition _ = []

-- the pieces after a word
abbrev pub pieces_of_words : Edition → Kind → Data → List Piece
pieces_of_words edition kind (array (item (string word) ds)) = pieces_of_slots (form_of edition kind word) ds
pieces_of_words edition kind _ = []

-- the pieces of a value that is not a list of any length
abbrev pub pieces_of_form : Edition → Kind → Data → List Piece
pieces_of_form edition kind.Procedure d = pieces_of_procedure d
pieces_of_form edition kind.Call d = pieces_of_call d
pieces_of_form edition kind.Key d = pieces_of_key edition d
pieces_of_form edition kind d = pieces_of_words edition kind d

-- the items of a list, none if there is no list
abbrev pub pieces_of_list : Kind → Kind → Option Items → List Piece
pieces_of_list list kind None = []
pieces_of_list list kind (Some ds) = items_from list kind 0 ds

-- the items of a value that has to be a list, or the pieces of any other value
abbrev pub pieces_by : Edition → Kind → Option Kind → Data → List Piece
pieces_by edition kind (Some of) d = pieces_of_list kind of (as_array d)
pieces_by edition kind None d = pieces_of_form edition kind d

-- the pieces of a value that has to be of a kind, in the order in which they are tested; none if it does not have the form
abbrev pub pieces_of : Edition → Kind → Data → List Piece
pieces_of edition kind d = pieces_by edition kind (item_kind kind) d
