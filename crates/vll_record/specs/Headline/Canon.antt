-- How a short list is stored in an array: its items first, then a filler.
use Rattle.std.specs.Prelude.{ℕ, ◌-◌, List, ◌++◌, length, replicate}

-- the array of n places that holds a list
abbrev pub laid : {A : Type 0} → ℕ → A → List A → List A
laid n blank xs = xs ++ replicate (n - length xs) blank
