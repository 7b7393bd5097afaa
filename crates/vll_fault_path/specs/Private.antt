-- What the search for the piece at fault handles. Cited by private contracts alone.
use Rattle.std.specs.Prelude.{◌≡◌, ◌⊎◌, ℕ, suc, min, Bool, true, false, nat_le, List, ◌++◌, Option, Some, None, is_none, Result, Ok, Err}
use Rattle.serde_json.specs.View.{view}
use Rattle.vll_proc.specs.declared.limits.TheConstants.{MOST_DEPTH}
use Rattle.vll_proc.specs.declared.syntax.Edition.{Edition}
use Rattle.vll_proc.specs.declared.syntax.Expr.{Expr}
use Rattle.vll_proc.specs.declared.syntax.Stmt.{Stmt, Let, Set, Reply}
use Rattle.vll_proc.specs.WellFormed.{body_depth, may_repeat, stmt_depth}
use Rattle.vll_check.specs.declared.fault.CheckFault.{CheckFault}
use Rattle.vll_check.specs.declared.fault.CheckFault.TheVariants.{TooDeep, TooLong, TooManyReplies, TooMuchWork, Turns}
use Rattle.vll_check.specs.declared.piece.Before.{Before}
use Rattle.vll_check.specs.declared.piece.Piecewise.{Piecewise}
use Rattle.vll_check.specs.Pieces.{after_list, after_statement}
use Rattle.vll_fault_path.specs.declared.part.Behind.{Behind}
use Rattle.vll_fault_path.specs.declared.part.Stop.{Stop}
use Rattle.vll_fault_path.specs.declared.part.Stop.TheVariants.{Fault, NoMemory}
use Rattle.vll_fault_path.specs.declared.piece.Step.{Step}
use Rattle.vll_fault_path.specs.declared.way.Found.{Found}
use Rattle.vll_fault_path.specs.Parts.{LeadsIn, Part, list, part_passes, statement}
use Rattle.vll_fault_path.specs.PieceTests as test
use Rattle.vll_fault_path.specs.PieceTests.{passes}
use Rattle.vll_fault_path.specs.Pieces.{Piece, pieces_of}
use Rattle.vll_fault_path.specs.Ways.{Leads, first_faulty}

-- a piece that was found, as contracts see it
abbrev pub piece_of : Found → Piece
piece_of f = record { step = f.step; kind = f.kind; value = view f.value.now }

-- no piece is other than what it has to be
abbrev pub all_read : Edition → List Piece → Bool
all_read edition ps = is_none (first_faulty edition test.Shape ps)

-- a way through some pieces to the one that is not what it has to be has come behind some steps
abbrev pub LeadsBehind : Edition → List Piece → List Step → List Step → Type 0
LeadsBehind edition ps old new = (rest : List Step) × (new ≡ old ++ rest) × Leads edition test.Shape ps rest

-- some pieces were searched: all are what they have to be, and the steps are as before, or one is not, and the way to it
-- has come behind them
abbrev pub EndsPieces : Edition → List Piece → Option Found → List Step → List Step → Type 0
EndsPieces edition ps None old new = (new ≡ old) × (all_read edition ps ≡ true)
EndsPieces edition ps (Some f) old new = (all_read edition ps ≡ false) × LeadsBehind edition ps old new

-- a piece was searched
abbrev pub EndsPiece : Edition → Piece → Option Found → List Step → List Step → Type 0
EndsPiece edition p None old new = (new ≡ old) × (passes edition test.Shape p ≡ true)
EndsPiece edition p (Some f) old new = (passes edition test.Shape p ≡ false) × LeadsBehind edition (pieces_of edition p.kind p.value) old new

-- a way from a part to the one at fault has come behind some steps
abbrev pub LeadsOn : Piecewise → Before → Part → List Step → List Step → Type 0
LeadsOn t before part old new = (rest : List Step) × (new ≡ old ++ rest) × LeadsIn t before part rest

-- the test with this fault is of the whole body, and of no statement in it
abbrev pub is_counted : CheckFault → Bool
is_counted TooManyReplies = true
is_counted TooLong = true
is_counted TooMuchWork = true
is_counted why = false

-- a statement of this depth passes it, as far as it is of depths
abbrev pub is_shallow : CheckFault → ℕ → Bool
is_shallow TooDeep levels = nat_le levels MOST_DEPTH
is_shallow why levels = true

-- a `Repeat` of this depth passes it, as far as it is of turns or depths
abbrev pub allows_repeat : CheckFault → Edition → ℕ → ℕ → Bool
allows_repeat Turns edition turns levels = may_repeat edition turns
allows_repeat why edition turns levels = is_shallow why levels

-- a statement has a value
abbrev pub HasValue : Stmt → Expr → Type 0
HasValue st e = ((i : ℕ) × (st ≡ Let i e)) ⊎ (((i : ℕ) × (st ≡ Set i e)) ⊎ (st ≡ Reply e))

-- how deep a part is, as far as a body may be, and one more if it is deeper
abbrev pub IsDepth : ℕ → ℕ → Type 0
IsDepth levels d = d ≡ min levels (suc MOST_DEPTH)

-- a part was searched: it passes, and the steps are as before, or it does not, and a way on to the fault has come behind
-- them
abbrev pub EndsSearch : {B : Type 0} → Piecewise → Before → Part → (B → Type 0) → Result B Stop → List Step → List Step → Type 0
EndsSearch t before part IsBehind (Ok b) old new = (new ≡ old) × (part_passes t before part ≡ true) × IsBehind b
EndsSearch t before part IsBehind (Err (Fault n)) old new = (part_passes t before part ≡ false) × LeadsOn t before part old new
EndsSearch t before part IsBehind (Err NoMemory) old new = Unit {0}

-- what holds behind a part that is so deep
pub record IsBehind (before : Before) (levels : ℕ) (b : Behind) : Type 0 where
  pub before_is : b.before ≡ before
  pub depth_is : IsDepth levels b.depth

-- a statement was searched
abbrev pub EndsStatement : Piecewise → Before → Stmt → Result Behind Stop → List Step → List Step → Type 0
EndsStatement t before st = EndsSearch t before (statement st) (IsBehind (after_statement before st) (stmt_depth st))

-- a list of statements was searched
abbrev pub EndsList : Piecewise → Before → List Stmt → Result Behind Stop → List Step → List Step → Type 0
EndsList t before sts = EndsSearch t before (list sts) (IsBehind (after_list before sts) (body_depth sts))
