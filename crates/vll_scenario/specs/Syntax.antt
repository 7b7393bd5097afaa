-- The parts of procedures, as JSON trees. A list of another length, and anything not listed here, is not one.
use Rattle.std.specs.Prelude.{ℕ, ◌^◌, Bool, false, ◌&&◌, List, [], ◌∷◌, Option, Some, None, option_and_then, option_map, is_some, if◌then◌else◌, codes}
use Rattle.std.specs.List.{list_all, list_any}
use Rattle.std.specs.Str.{bytes_eq}
use Rattle.serde_json.specs.Data.{Data, null, number, string, array, object, Items, no_items, item, Members, no_members, member}
use Rattle.serde_json.specs.Find.{as_u64, as_str, get, get_member}
use Rattle.vll_record.specs.declared.claim.Mode.{Mode}
use Rattle.vll_record.specs.declared.claim.Mode.TheVariants.{Read, Write}
use Rattle.vll_proc.specs.declared.syntax.Edition.{Edition}
use Rattle.vll_proc.specs.declared.syntax.Edition.TheVariants.{One, Two}
use Rattle.vll_proc.specs.declared.syntax.Expr.{Expr, Num, Arg, Key, Local, Add, Sub, Mul, Div, Rem, Min, Max, Equal, Less, Not}
use Rattle.vll_proc.specs.declared.syntax.Stmt.{Stmt, Let, Set, If, Abort, Reply, Repeat}
use Rattle.vll_proc.specs.declared.syntax.KeyAt.{KeyAt}
use Rattle.vll_proc.specs.declared.syntax.KeyAt.TheVariants as at
use Rattle.vll_proc.specs.declared.syntax.KeyDecl.{KeyDecl}
use Rattle.vll_proc.specs.declared.syntax.Proc.{Proc}
use Rattle.vll_scenario.specs.Tree.{below, number_at, u32_at, list_at, whole}

infixl 10 ◌>>=◌
-- continues if there is a value
abbrev pub ◌>>=◌ : {A B : Type 0} → Option A → (A → Option B) → Option B
o >>= go = option_and_then go o

-- an index of an argument, a key or a local, or a count of arguments or of turns
abbrev pub index_at : Data → Option ℕ
index_at d = below (2 ^ 8) (number_at d)

-- both, if both are there
abbrev pub both_of : {A B C : Type 0} → (A → B → C) → Option A → Option B → Option C
both_of f a b = do
  x ← a
  y ← b
  Some (f x y)

-- words, each with its meaning
abbrev pub Table : Type 0 → Type 0
Table A = List (List ℕ × A)

-- the meaning of a word
abbrev pub find_word : {A : Type 0} → List ℕ → Table A → Option A
find_word word [] = None
find_word word (row ∷ rows) = if bytes_eq word row.0 then Some row.1 else find_word word rows

-- the words that are followed by an index
abbrev pub leaves : Table (ℕ → Expr)
leaves = (codes "arg", Arg) ∷ (codes "key", Key) ∷ (codes "local", Local) ∷ []

-- the words that are followed by two expressions
abbrev pub operations : Table (Expr → Expr → Expr)
operations =
    (codes "add", Add) ∷ (codes "sub", Sub) ∷ (codes "mul", Mul) ∷ (codes "div", Div) ∷ (codes "rem", Rem) ∷
    (codes "min", Min) ∷ (codes "max", Max) ∷ (codes "equal", Equal) ∷ (codes "less", Less) ∷ []

-- ["arg", i], ["key", i] and ["local", i]
abbrev pub leaf : List ℕ → Option ℕ → Option Expr
leaf word i = do
  make ← find_word word leaves
  option_map make i

-- ["add", e, e] and the like
abbrev pub operation : List ℕ → Option Expr → Option Expr → Option Expr
operation word a b = do
  make ← find_word word operations
  both_of make a b

-- a number is an expression, and so are the lists of these forms
abbrev pub expr_at : Data → Option Expr
expr_at (number n) = option_map Num (as_u64 n)
expr_at (array (item (string word) (item d no_items))) = if bytes_eq word (codes "not") then option_map Not (expr_at d) else leaf word (index_at d)
expr_at (array (item (string word) (item a (item b no_items)))) = operation word (expr_at a) (expr_at b)
expr_at _ = None

-- the code of an abort
abbrev pub code_at : Data → Option ℕ
code_at d = below (2 ^ 16) (number_at d)

-- ["abort", code] and ["reply", e]
abbrev pub abort_or_reply : List ℕ → Data → Option Stmt
abort_or_reply word d = if bytes_eq word (codes "abort") then option_map Abort (code_at d) else (if bytes_eq word (codes "reply") then option_map Reply (expr_at d) else None)

-- ["let", i, e] and ["set", i, e]
abbrev pub let_or_set : List ℕ → Data → Data → Option Stmt
let_or_set word i e = if bytes_eq word (codes "let") then both_of Let (index_at i) (expr_at e) else (if bytes_eq word (codes "set") then both_of Set (index_at i) (expr_at e) else None)

-- ["if", e, [..], [..]]
abbrev pub branch : List ℕ → Option Expr → Option (List Stmt) → Option (List Stmt) → Option Stmt
branch word test first second = do
  e ← test
  xs ← first
  ys ← second
  if bytes_eq word (codes "if") then Some (If e xs ys) else None

-- ["repeat", turns, [..]], which edition One does not have
abbrev pub repeat : Edition → Option ℕ → Option (List Stmt) → Option Stmt
repeat One turns list = None
repeat Two turns list = both_of Repeat turns list

abbrev mutual
  -- the lists of these forms are statements of an edition
  pub stmt_at : Edition → Data → Option Stmt
  stmt_at edition (array (item (string word) (item d no_items))) = abort_or_reply word d
  stmt_at edition (array (item (string word) (item d (item e no_items)))) = if bytes_eq word (codes "repeat") then repeat edition (index_at d) (stmts_at edition e) else let_or_set word d e
  stmt_at edition (array (item (string word) (item e (item first (item second no_items))))) = branch word (expr_at e) (stmts_at edition first) (stmts_at edition second)
  stmt_at edition _ = None

  -- a list of statements
  pub stmts_at : Edition → Data → Option (List Stmt)
  stmts_at edition (array ds) = each_stmt edition ds
  stmts_at edition _ = None

  -- the statements of a list, if each of its items is one
  pub each_stmt : Edition → Items → Option (List Stmt)
  each_stmt edition no_items = Some []
  each_stmt edition (item d ds) = both_of (λ x xs. x ∷ xs) (stmt_at edition d) (each_stmt edition ds)

-- "read" and "write"
abbrev pub mode_at : List ℕ → Option Mode
mode_at word = if bytes_eq word (codes "read") then Some Read else (if bytes_eq word (codes "write") then Some Write else None)

-- the place of a key: "arg" or "through" with an index, or "fixed" with a record
abbrev pub place_at : List ℕ → Data → Option KeyAt
place_at word d =
    if bytes_eq word (codes "arg") then option_map at.Arg (index_at d) else
    (if bytes_eq word (codes "through") then option_map at.Through (index_at d) else (if bytes_eq word (codes "fixed") then option_map at.Fixed (u32_at d) else None))

-- a key of a mode and a place
abbrev pub key_of : Mode → KeyAt → KeyDecl
key_of mode place = record { mode = mode; at = place }

-- ["read", "arg", i] and the like
abbrev pub key_at : Data → Option KeyDecl
key_at (array (item (string mode) (item (string word) (item d no_items)))) = both_of key_of (mode_at mode) (place_at word d)
key_at _ = None

-- the names of an object's members
abbrev pub names_of : Members → List (List ℕ)
names_of no_members = []
names_of (member name d ms) = name ∷ names_of ms

-- an object has a member of each name
abbrev pub has_all : List (List ℕ) → Members → Bool
has_all names ms = list_all (λ name. is_some (get_member name ms)) names

-- each member of an object has one of the names
abbrev pub has_only : List (List ℕ) → Members → Bool
has_only names ms = list_all (λ name. list_any (bytes_eq name) names) (names_of ms)

-- an object that has all members in `must`, and none outside `may`
abbrev pub has_members : List (List ℕ) → List (List ℕ) → Data → Bool
has_members must may (object ms) = has_all must ms && has_only may ms
has_members must may _ = false

-- an object with these members and no others
abbrev pub has_exactly : List (List ℕ) → Data → Bool
has_exactly names d = has_members names names d

-- the value of a member, `null` if it is absent
abbrev pub member_at : List ℕ → Data → Data
member_at name d = or_null (get name d)
  where
    or_null : Option Data → Data
    or_null None = null
    or_null (Some d) = d

-- the members of a procedure
abbrev pub proc_names : List (List ℕ)
proc_names = codes "name" ∷ codes "args" ∷ codes "keys" ∷ codes "body" ∷ []

-- a procedure of an edition: an object with exactly `name`, `args`, `keys` and `body`
abbrev pub proc_at : Edition → Data → Option Proc
proc_at edition d = if has_exactly proc_names d then parts_of edition d else None
  where
    parts_of : Edition → Data → Option Proc
    parts_of edition d = do
      name ← as_str (member_at (codes "name") d)
      args ← index_at (member_at (codes "args") d)
      keys ← whole (list_at key_at (member_at (codes "keys") d))
      body ← stmts_at edition (member_at (codes "body") d)
      Some (record { edition = edition; name = name; args = args; keys = keys; body = body })
