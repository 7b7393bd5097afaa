-- What contracts see of the words, and their type's invariant.
use Rattle.std.specs.Prelude.{◌≡◌, ◌+◌, ◌*◌, ◌≤◌, length, vec_capacity, vec_len}
use Rattle.vll_check.specs.Catalog.{IsCatalog}
use Rattle.vll_counters.specs.declared.words.Words.TheInside.{Inside}
use Rattle.vll_counters.specs.Shown.{WordsShown, base_of}

-- what contracts see of the words
abbrev pub words_shown : Inside → WordsShown
words_shown w = record { table = w.table.shared.table_id; base = base_of w.table.shared.key }

-- there is a turn word and two words for each record, and room for as many words; the library makes calls on these
-- records
pub record AreWordsKept (w : Inside) : Type 0 where
  pub words : w.table.shared.table_id.words ≡ 1 + 2 * length w.table.shared.key.records.value.items
  pub slots : w.table.shared.table_id.slots ≡ 0
  pub catalog : IsCatalog w.table.shared.key.library.value
  pub records : w.table.shared.key.library.value.records ≡ length w.table.shared.key.records.value.items
  pub empty : vec_len w.room ≡ 0
  pub room : 1 + 2 * length w.table.shared.key.records.value.items ≤ vec_capacity w.room
