-- The state of a body that runs on a call's cells, as a scene of its meaning.
use Rattle.std.specs.Prelude.{ℕ, ◌<◌, List, [], replicate, Result, Ok, Err, Option, Some, None, slice_index}
use Rattle.vll_record.specs.declared.claims.TheConstants.{MOST_CLAIMS}
use Rattle.vll_proc.specs.declared.limits.TheConstants.{MOST_LOCALS}
use Rattle.vll_proc.specs.declared.call.Call.{Call}
use Rattle.vll_proc.specs.declared.call.Reason.{Reason}
use Rattle.vll_proc.specs.declared.run.Progress.{Progress}
use Rattle.vll_proc.specs.declared.syntax.Expr.{Expr, Add', Sub', Mul', Div', Rem', Min', Max', Equal', Less'}
use Rattle.vll_proc.specs.Headline.Meaning.{Scene, sum, difference, product, quotient, remainder, lesser, greater, equality, order}

-- the scene whose records are the cells: each key position names its claim's cell
abbrev pub scene_of : Call → List ℕ → Progress → Scene
scene_of c cells p = record { named = c.cells; args = c.args; locals = p.locals; records = cells; outputs = p.outputs }

-- the scene in which a body begins on the cells of a call
abbrev pub cell_opening : Call → List ℕ → Scene
cell_opening c cells = record { named = c.cells; args = c.args; locals = replicate MOST_LOCALS 0; records = cells; outputs = [] }

-- each key position of a call has one of the first n cells
abbrev pub HasCellsBelow : ℕ → Call → Type 0
HasCellsBelow n c = (k : ℕ) → k < MOST_CLAIMS → slice_index c.cells k < n

-- each key position of a call has one of the cells
abbrev pub HasCells : Call → Type 0
HasCells = HasCellsBelow MOST_CLAIMS

-- the result of an expression's operator on two operands, and 0 if it does not have two
abbrev pub operation_of : Expr → ℕ → ℕ → Result ℕ Reason
operation_of (Add' p a q b) x y = sum x y
operation_of (Sub' p a q b) x y = difference x y
operation_of (Mul' p a q b) x y = product x y
operation_of (Div' p a q b) x y = quotient x y
operation_of (Rem' p a q b) x y = remainder x y
operation_of (Min' p a q b) x y = lesser x y
operation_of (Max' p a q b) x y = greater x y
operation_of (Equal' p a q b) x y = equality x y
operation_of (Less' p a q b) x y = order x y
operation_of other x y = Ok 0

-- a number, or the reason that was noted
abbrev pub noted : Option Reason → ℕ → Result ℕ Reason
noted None n = Ok n
noted (Some why) n = Err why

-- a result, or the reason that was noted before it
abbrev pub behind : Option Reason → Result ℕ Reason → Result ℕ Reason
behind None r = r
behind (Some why) r = Err why

-- the outcome of a step that ends with a result: the scene after it, or the reason
abbrev pub ended : Result Unit Reason → Scene → Result Scene Reason
ended (Ok u) s = Ok s
ended (Err why) s = Err why
