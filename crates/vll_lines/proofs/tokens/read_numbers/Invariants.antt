-- What has been read of the list are the numbers so far.
use Rattle.std.proofs.Common.{◌≡◌, ℕ, ◌≤◌, length}
use Rattle.json.specs.Json.{items, parse_map, value}
use Rattle.serde_json.specs.Read.{converted, of_items}
use Rattle.vll_lines.proofs.ReadTokens.{numbers_before}
use Rattle.vll_lines.proofs.tokens.read_numbers.Given as goal

abbrev pub invariant-items : goal.invariant-items
invariant-items l =
    (n : ℕ) × (length l.reader ≤ n)
    × (converted of_items (items (value 125) (length l.initial.reader) l.initial.reader) ≡ parse_map (numbers_before l.args.items) (converted of_items (items (value 125) n l.reader)))
    × (length l.reader ≤ length l.initial.reader)

abbrev pub decreases-items : goal.decreases-items
decreases-items l = length l.reader
