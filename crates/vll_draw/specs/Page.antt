-- The page of a replay: below its drawings is a list of the lines of the replay's text.
use Rattle.std.specs.Prelude.{◌≡◌, ℕ, List, ◌++◌, Option, Ok, codes}
use Rattle.std.specs.List.{flat_map, enumerate_from}
use Rattle.std.specs.Fmt.{decimal}
use Rattle.std.specs.Str.Lines.{lines}
use Rattle.vll_scenario.specs.Headline.Setup.{Setup}
use Rattle.vll_scenario.specs.Reading.{IsRead}
use Rattle.vll_replay.specs.Replay.{text_of_setup}
use Rattle.vll_replay.specs.Headline.Text.{Text}
use Rattle.vll_draw.specs.OneByOne.{with_schedule}

-- the item of a line, with the line's number from 0
abbrev pub item : ℕ × Text → Text
item (i, line) = codes "<li id=\"l" ++ decimal i ++ codes "\">" ++ line ++ codes "</li>\n"

-- the start of the list
abbrev pub list_start : Text
list_start = codes "<ol>\n"

-- the end of the list and of the page
abbrev pub list_end : Text
list_end = codes "</ol>\n</body>\n</html>\n"

-- after the drawings the page lists the lines of the text, and then it ends
pub record Lists (page text : Text) : Type 0 where
  pub drawn : Text
  pub whole : page ≡ drawn ++ list_start ++ flat_map item (enumerate_from 0 (lines text)) ++ list_end

-- a scenario was read, and this holds of a page that lists the lines of its replay; if it has no schedule, then of the
-- replay in which its calls are made one after the other
abbrev pub Draws : Option (List ℕ) → Option (List ℕ) → (Text → Type 0) → Type 0
Draws old new Holds = (setup : Setup) × IsRead old new (Ok setup) × ((page : Text) × Lists page (text_of_setup (with_schedule setup)) × Holds page)
