-- What has been read of a line, token by token.
use Rattle.std.specs.Prelude.{◌≡◌, ℕ, true, List, [], ◌∷◌, length, IfSome, None, Some, Ok, codes}
use Rattle.json.specs.Json.{members, value}
use Rattle.json.specs.Token.{Token}
use Rattle.serde_json.specs.Data.{Data, Items, no_items, item, Members, no_members, number, object, unsigned}
use Rattle.serde_json.specs.Find.{get}
use Rattle.serde_json.specs.Read.{converted, of_json, of_members}
use Rattle.vll_scenario.specs.Syntax.{has_only}
use Rattle.vll_lines.specs.Request.{args_of, client_of, id_of, may_names, name_of}
use Rattle.vll_lines.specs.declared.tokens.Told.{Told}

-- a value was read, which may nest so deep, and these tokens follow
abbrev pub IsRead : ℕ → List Token → Data → List Token → Type 0
IsRead depth tokens d rest = converted of_json (value depth tokens) ≡ Some (d, rest)

-- a list of numbers
abbrev pub numbers_in : List ℕ → Items
numbers_in [] = no_items
numbers_in (n ∷ ns) = item (number (unsigned n)) (numbers_in ns)

-- the members of an object were read, after its brace
abbrev pub AreRead : List Token → Members → List Token → Type 0
AreRead tokens found rest = converted (λ ms. of_members ms no_members) (members (value 126) (length tokens) tokens) ≡ Some (found, rest)

-- members of a line tell this, with these arguments
pub record Says (told : Told) (args : List ℕ) (found : Members) : Type 0 where
  pub only : has_only may_names found ≡ true
  pub no_counts : get (codes "counts") (object found) ≡ None
  pub no_records : get (codes "records") (object found) ≡ None
  pub id : id_of (object found) ≡ Ok told.id
  pub client : client_of (object found) ≡ Ok told.client
  pub name : IfSome told.name (λ s. name_of (object found) ≡ Ok s.now)
  pub list : told.has_args ≡ true → args_of (object found) ≡ Ok args
