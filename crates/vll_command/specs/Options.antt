-- What a command line gives for a file, and for the number of an option.
use Rattle.std.specs.Prelude.{◌≡◌, ◌<◌, ◌^◌, ℕ, List, Option, Some, None, string_bytes}
use Rattle.std.specs.Str.Parse.{IsNumeral, digits_value, without_leading_plus}
use Rattle.vll_command.specs.declared.action.Input.{Input}
use Rattle.vll_command.specs.declared.action.Input.TheVariants as input

-- a text of decimal digits, which a plus may precede, and its value; None if it is not a number of 32 bits
abbrev pub IsNumber : List ℕ → Option ℕ → Type 0
IsNumber t (Some n) = IsNumeral 10 (without_leading_plus t) × (n ≡ digits_value 10 (without_leading_plus t))
IsNumber t None = ¬ (IsNumeral 10 (without_leading_plus t) × (digits_value 10 (without_leading_plus t) < 2 ^ 32))

-- an option that is absent gives no number, and one that is present the number of its text
abbrev pub Gives : Option (List ℕ) → Option ℕ → Type 0
Gives text number = (text ≡ None → number ≡ None) × ((t : List ℕ) → text ≡ Some t → IsNumber t number)

-- a path that is given stands for its file, and no path for standard input
abbrev pub GivesInput : Option (List ℕ) → Input → Type 0
GivesInput path input.Standard = path ≡ None
GivesInput path (input.File file) = path ≡ Some (string_bytes file)
