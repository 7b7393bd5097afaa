-- The forms of a list that begins with a word: what follows each word.
use Rattle.std.specs.Prelude.{ℕ, List, [], ◌∷◌, map, Option, Some, None, unwrap_or, if◌then◌else◌, codes}
use Rattle.std.specs.Str.{bytes_eq}
use Rattle.vll_proc.specs.declared.syntax.Edition.{Edition}
use Rattle.vll_proc.specs.declared.syntax.Edition.TheVariants.{One, Two}
use Rattle.vll_scenario.specs.Syntax.{Table, find_word}
use Rattle.vll_fault_path.specs.declared.form.Form.{Form}
use Rattle.vll_fault_path.specs.declared.form.Slot.{Slot}
use Rattle.vll_fault_path.specs.declared.piece.Kind.{Kind}
use Rattle.vll_fault_path.specs.declared.piece.Kind.TheVariants as kind
use Rattle.vll_fault_path.specs.declared.piece.Step.{Step}
use Rattle.vll_fault_path.specs.declared.piece.Step.TheVariants as step

-- a piece that follows the word of a form
abbrev slot : Step → Kind → Slot
slot step kind = record { step = step; kind = kind }

-- a form with one piece after its word
abbrev one : Step → Kind → List Slot
one step kind = slot step kind ∷ []

-- the two operands of an operation
abbrev operands : List Slot
operands = slot step.LeftOperand kind.Expression ∷ slot step.RightOperand kind.Expression ∷ []

-- the index and the value of a `let` or a `set`
abbrev assignment : List Slot
assignment = slot step.Index kind.Index ∷ slot step.Value kind.Expression ∷ []

-- what follows each word for a key's record: an index or a record
abbrev pub key_forms : Table (List Slot)
key_forms = (codes "arg", one step.Index kind.Index) ∷ (codes "fixed", one step.Record kind.Whole) ∷ (codes "through", one step.Index kind.Index) ∷ []

-- what follows each word of expressions
abbrev pub expression_forms : Table (List Slot)
expression_forms =
    (codes "arg", one step.Index kind.Index) ∷ (codes "key", one step.Index kind.Index) ∷ (codes "local", one step.Index kind.Index) ∷
    (codes "add", operands) ∷ (codes "sub", operands) ∷ (codes "mul", operands) ∷ (codes "div", operands) ∷ (codes "rem", operands) ∷
    (codes "min", operands) ∷ (codes "max", operands) ∷ (codes "equal", operands) ∷ (codes "less", operands) ∷ (codes "not", one step.Operand kind.Expression) ∷ []

-- what follows each word of events: a client, nothing or a ticket
abbrev pub event_forms : Table (List Slot)
event_forms =
    (codes "find", one step.Client kind.Whole) ∷ (codes "enter", one step.Client kind.Whole) ∷ (codes "claim", []) ∷ (codes "admit", []) ∷ (codes "front", []) ∷ (codes "scan", []) ∷
    (codes "load", one step.Ticket kind.Whole) ∷ (codes "store", one step.Ticket kind.Whole) ∷ (codes "release", one step.Ticket kind.Whole) ∷ (codes "finish", one step.Ticket kind.Whole) ∷ []

-- what follows `repeat`, which edition One does not have
abbrev pub repeat_form : Edition → List Slot
repeat_form One = []
repeat_form Two = slot step.Count kind.Index ∷ slot step.List kind.Statements ∷ []

-- what follows each word of statements
abbrev pub statement_forms : Edition → Table (List Slot)
statement_forms edition =
    (codes "let", assignment) ∷ (codes "set", assignment) ∷ (codes "if", slot step.Test kind.Expression ∷ slot step.FirstList kind.Statements ∷ slot step.SecondList kind.Statements ∷ []) ∷
    (codes "abort", one step.Code kind.Code) ∷ (codes "reply", one step.Value kind.Expression) ∷ (codes "repeat", repeat_form edition) ∷ []

-- what follows each word of a piece of a kind; of a key, each word behind its mode
abbrev pub forms_in : Edition → Kind → Table (List Slot)
forms_in edition kind.Key = key_forms
forms_in edition kind.Statement = statement_forms edition
forms_in edition kind.Expression = expression_forms
forms_in edition kind.Event = event_forms
forms_in edition _ = []

-- what follows a word, nothing if it is unknown
abbrev pub form_of : Edition → Kind → List ℕ → List Slot
form_of edition kind word = unwrap_or (find_word word (forms_in edition kind)) []

-- what follows a word that editions from a first one on have, nothing in an earlier one
abbrev pub slots_since : Edition → Edition → List Slot → List Slot
slots_since One Two slots = []
slots_since _ _ slots = slots

-- what follows the word of a form
abbrev pub slots_in : Edition → Form → List Slot
slots_in edition f = slots_since edition f.since f.slots.now

-- what follows each word of some forms
abbrev pub table_in : Edition → List Form → Table (List Slot)
table_in edition forms = map (λ f. (f.word.now, slots_in edition f)) forms

-- the form with a word, if there is one
abbrev pub find_form : List ℕ → List Form → Option Form
find_form word [] = None
find_form word (f ∷ fs) = if bytes_eq word f.word.now then Some f else find_form word fs
