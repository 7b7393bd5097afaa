-- A text as it is shown to a person.
use Rattle.std.specs.Prelude.{ℕ, List, ◌++◌, nat_le, if◌then◌else◌, codes}
use Rattle.std.specs.Fmt.{char_count, take_chars}
use Rattle.vll_scenario.specs.declared.shown.TheConstants.{MOST_SHOWN}

-- a text with at most so many characters, or else the first ones and two dots
abbrev pub shortened : List ℕ → List ℕ
shortened text = if nat_le (char_count text) MOST_SHOWN then text else take_chars MOST_SHOWN text ++ codes ".."
