-- What has been told is told by the members so far.
use Rattle.std.proofs.Common.{◌≡◌, ℕ, ◌≤◌, length}
use Rattle.json.specs.Json.{members, value}
use Rattle.serde_json.specs.Data.{Members, no_members}
use Rattle.serde_json.specs.Read.{converted, of_members}
use Rattle.vll_lines.specs.Private.Tokens.{Says}
use Rattle.vll_lines.proofs.tokens.read_members.Given as goal

abbrev pub invariant-members : goal.invariant-members
invariant-members l =
    (found : Members) × (n : ℕ) × (length l.reader ≤ n)
    × (converted (λ ms. of_members ms no_members) (members (value 126) (length l.initial.reader) l.initial.reader) ≡ converted (λ ms. of_members ms found) (members (value 126) n l.reader))
    × Says l.told l.args.items found

abbrev pub decreases-members : goal.decreases-members
decreases-members l = length l.reader
