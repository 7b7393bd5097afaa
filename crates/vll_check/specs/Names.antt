-- The names of a list of procedures.
use Rattle.std.specs.Prelude.{ℕ, suc, Bool, false, ◌||◌, List, [], ◌∷◌, Option, Some, None, if◌then◌else◌}
use Rattle.std.specs.List.{list_any}
use Rattle.std.specs.Str.{bytes_eq}
use Rattle.vll_proc.specs.declared.syntax.Proc.{Proc}

-- two procedures have the same name
abbrev pub has_name_twice : List Proc → Bool
has_name_twice [] = false
has_name_twice (p ∷ ps) = list_any (λ (q : Proc). bytes_eq p.name q.name) ps || has_name_twice ps

-- the number of the first procedure with a name, if numbers begin at n
abbrev pub number_from : ℕ → List ℕ → List Proc → Option ℕ
number_from n name [] = None
number_from n name (p ∷ ps) = if bytes_eq name p.name then Some n else number_from (suc n) name ps

-- the number of the first procedure with a name
abbrev pub number_named : List ℕ → List Proc → Option ℕ
number_named name procs = number_from 0 name procs
