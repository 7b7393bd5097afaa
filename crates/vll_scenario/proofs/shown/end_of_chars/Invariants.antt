-- The first characters up to an index, with so many left to come, are those of the whole text.
use Rattle.std.proofs.Common.{◌≡◌, ◌++◌, ◌+◌, take, drop}
use Rattle.std.specs.Fmt.{char_count, take_chars}
use Rattle.vll_scenario.proofs.shown.end_of_chars.Given as goal

abbrev pub invariant-loop-index : goal.invariant-loop-index
invariant-loop-index l = (take l.index l.text ++ take_chars l.left (drop l.index l.text) ≡ take_chars l.most l.text)
    × (l.left + char_count l.text ≡ l.most + char_count (drop l.index l.text))
