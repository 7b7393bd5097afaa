-- The events of a schedule. A list of another length, and anything not listed here, is not an event.
use Rattle.std.specs.Prelude.{ℕ, List, [], ◌∷◌, Option, None, option_map, codes}
use Rattle.serde_json.specs.Data.{Data, string, array, no_items, item}
use Rattle.vll_core.specs.declared.event.Event.{Event}
use Rattle.vll_core.specs.declared.event.Event.TheVariants.{Find, Enter, Claim, Admit, Front, Scan, Load, Store, Release, Finish}
use Rattle.vll_scenario.specs.Tree.{u32_at}
use Rattle.vll_scenario.specs.Syntax.{◌>>=◌, Table, find_word}

-- the words that are events by themselves
abbrev pub words_alone : Table Event
words_alone = (codes "claim", Claim) ∷ (codes "admit", Admit) ∷ (codes "front", Front) ∷ (codes "scan", Scan) ∷ []

-- the words that are followed by a client or a ticket
abbrev pub words_with_number : Table (ℕ → Event)
words_with_number = (codes "find", Find) ∷ (codes "enter", Enter) ∷ (codes "load", Load) ∷ (codes "store", Store) ∷ (codes "release", Release) ∷ (codes "finish", Finish) ∷ []

-- ["enter", client], ["load", ticket] and the like
abbrev pub event_with : List ℕ → Option ℕ → Option Event
event_with word n = do
  make ← find_word word words_with_number
  option_map make n

-- ["claim"], ["enter", client] and the like
abbrev pub event_at : Data → Option Event
event_at (array (item (string word) no_items)) = find_word word words_alone
event_at (array (item (string word) (item d no_items))) = event_with word (u32_at d)
event_at _ = None
