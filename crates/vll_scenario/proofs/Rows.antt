-- What some JSON trees are as statements, and which editions there are, computed.
use Rattle.std.proofs.Common.{◌≡◌, ℕ, [], ◌∷◌, Some, None, refl}
use Rattle.std.specs.Prelude.{codes}
use Rattle.serde_json.specs.Data.{Data, number, string, array, no_items, item, unsigned}
use Rattle.vll_proc.specs.declared.syntax.Edition.TheVariants.{One, Two}
use Rattle.vll_proc.specs.declared.syntax.Stmt.{Abort, Repeat}
use Rattle.vll_scenario.specs.Shape.{edition_of}
use Rattle.vll_scenario.specs.Syntax.{stmt_at}

-- ["abort", 7]
abbrev abort_tree : Data
abort_tree = array (item (string (codes "abort")) (item (number (unsigned 7)) no_items))

-- ["repeat", turns, [["abort", 7]]]
abbrev repeat_tree : ℕ → Data
repeat_tree turns = array (item (string (codes "repeat")) (item (number (unsigned turns)) (item (array (item abort_tree no_items)) no_items)))

repeat_in_edition_two : stmt_at Two (repeat_tree 64) ≡ Some (Repeat 64 (Abort 7 ∷ []))
repeat_in_edition_two = refl

repeat_in_edition_one : stmt_at One (repeat_tree 64) ≡ None
repeat_in_edition_one = refl

turns_past_8_bits : stmt_at Two (repeat_tree 256) ≡ None
turns_past_8_bits = refl

abort_in_edition_one : stmt_at One abort_tree ≡ Some (Abort 7)
abort_in_edition_one = refl

first_version : edition_of 1 ≡ Some One
first_version = refl

second_version : edition_of 2 ≡ Some Two
second_version = refl

no_third_version : edition_of 3 ≡ None
no_third_version = refl
