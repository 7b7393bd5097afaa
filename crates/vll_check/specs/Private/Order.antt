-- The order in which a library keeps its checked procedures: by their names.
use Rattle.std.specs.Prelude.{◌≡◌, ℕ, ◌<◌, List, length, map, slice_index_or, None, All}
use Rattle.std.specs.Cmp.Lexicographic.{slice_cmp}
use Rattle.std.specs.declared.cmp.Ordering.{Ordering}
use Rattle.std.specs.Ordering.{nat_cmp, is_lt}
use Rattle.std.specs.List.Sorted.{IsSortedBy, IsStrictlySortedBy}
use Rattle.vll_proc.specs.declared.syntax.Proc.{Proc}
use Rattle.vll_check.specs.Entry.{Entry, procedure_of}
use Rattle.vll_check.specs.Faults.{check_fault}

-- how two entries' names compare, byte by byte
abbrev pub by_name : Entry → Entry → Ordering
by_name d e = slice_cmp nat_cmp d.procedure.name e.procedure.name

-- no name is less than the one before it
abbrev pub IsInOrder : List Entry → Type 0
IsInOrder es = IsSortedBy (λ d e. is_lt (by_name d e)) es

-- each procedure passed the tests for its number of records
abbrev pub AllPassed : List Entry → Type 0
AllPassed es = All (λ (e : Entry). check_fault e.records e.procedure ≡ None) es

-- the entries, each with its index as its number
pub record AreNumbered (es fs : List Entry) : Type 0 where
  pub long : length fs ≡ length es
  pub each : (n : ℕ) (d : Entry) → n < length es → slice_index_or fs n d ≡ record (slice_index_or es n d) { number = n }

-- each number is the number of one entry
pub record HaveNumbers (es : List Entry) : Type 0 where
  pub within : (k : ℕ) (d : Entry) → k < length es → (slice_index_or es k d).number < length es
  pub apart : (j k : ℕ) (d : Entry) → j < length es → k < length es → (slice_index_or es j d).number ≡ (slice_index_or es k d).number → j ≡ k

-- the entries, with the entry at each number having as its place the index of the entry with that number
pub record ArePlaced (es fs : List Entry) : Type 0 where
  pub long : length fs ≡ length es
  pub kept : (k : ℕ) (d : Entry) → k < length es → slice_index_or fs k d ≡ record (slice_index_or es k d) { place = (slice_index_or fs k d).place }
  pub each : (k : ℕ) (d : Entry) → k < length es → (slice_index_or fs (slice_index_or es k d).number d).place ≡ k

-- the procedures in the order of their numbers:
-- each entry's place is the index of the procedure whose number is the entry's index
abbrev pub numbered : List Entry → List Proc
numbered es = map (λ (e : Entry). (slice_index_or es e.place e).procedure) es

-- places and numbers are inverse to each other
pub record IsIndexed (es : List Entry) : Type 0 where
  pub place : (n : ℕ) (d : Entry) → n < length es → (slice_index_or es n d).place < length es
  pub number : (k : ℕ) (d : Entry) → k < length es → (slice_index_or es k d).number < length es
  pub of_place : (n : ℕ) (d : Entry) → n < length es → (slice_index_or es (slice_index_or es n d).place d).number ≡ n
  pub of_number : (k : ℕ) (d : Entry) → k < length es → (slice_index_or es (slice_index_or es k d).number d).place ≡ k

-- the entries sorted by name, where each procedure is found by the index that it had before, which is its number
pub record AreArranged (es fs : List Entry) : Type 0 where
  pub long : length fs ≡ length es
  pub rising : IsStrictlySortedBy by_name fs
  pub indexed : IsIndexed fs
  pub same : numbered fs ≡ map procedure_of es
