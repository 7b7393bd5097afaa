-- The length of the longest list in a JSON tree.
use Rattle.std.specs.Prelude.{ℕ, max}
use Rattle.serde_json.specs.Data.{Data, null, boolean, number, string, array, object, Items, no_items, item, Members, no_members, member}
use Rattle.serde_json.specs.Events.{items_len}

abbrev mutual
  -- the length of the longest list in a tree, 0 if it has none
  pub longest_list : Data → ℕ
  longest_list null = 0
  longest_list (boolean b) = 0
  longest_list (number x) = 0
  longest_list (string s) = 0
  longest_list (array ds) = max (items_len ds) (longest_in_items ds)
  longest_list (object ms) = longest_in_members ms

  -- the length of the longest list inside the items of a list
  pub longest_in_items : Items → ℕ
  longest_in_items no_items = 0
  longest_in_items (item d ds) = max (longest_list d) (longest_in_items ds)

  -- the length of the longest list inside the members of an object
  pub longest_in_members : Members → ℕ
  longest_in_members no_members = 0
  longest_in_members (member name d ms) = max (longest_list d) (longest_in_members ms)
