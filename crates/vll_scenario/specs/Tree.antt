-- What a JSON tree is read as.
use Rattle.std.specs.Prelude.{◌≡◌, ℕ, suc, ◌^◌, List, [], ◌∷◌, Option, Some, None, option_and_then, Result, Ok, Err, nat_lt, if◌then◌else◌}
use Rattle.serde_json.specs.Data.{Data, Items, no_items, item}
use Rattle.serde_json.specs.Find.{as_number, as_u64, as_array}
use Rattle.vll_scenario.specs.declared.reading.tree.Misread.{Misread}
use Rattle.vll_scenario.specs.declared.reading.tree.Misread.TheVariants as misread

-- a whole number of 64 bits without a sign
abbrev pub number_at : Data → Option ℕ
number_at d = option_and_then as_u64 (as_number d)

-- a number that is below a bound
abbrev pub below : ℕ → Option ℕ → Option ℕ
below limit o = option_and_then (λ n. if nat_lt n limit then Some n else None) o

-- a whole number of 32 bits without a sign
abbrev pub u32_at : Data → Option ℕ
u32_at d = below (2 ^ 32) (number_at d)

-- one more item in front, and an index one higher
abbrev pub in_front : {A : Type 0} → Option A → Result (List A) ℕ → Result (List A) ℕ
in_front None others = Err 0
in_front (Some a) (Ok xs) = Ok (a ∷ xs)
in_front (Some a) (Err i) = Err (suc i)

-- the reading of each item, or the index of the first item that has none
abbrev pub each : {A : Type 0} → (Data → Option A) → Items → Result (List A) ℕ
each f no_items = Ok []
each f (item d ds) = in_front (f d) (each f ds)

-- `each` for the items of a list, or index 0 if there is no list
abbrev pub each_of : {A : Type 0} → (Data → Option A) → Option Items → Result (List A) ℕ
each_of f None = Err 0
each_of f (Some ds) = each f ds

-- the readings of a list, or the index of its first faulty item, which is 0 if there is no list
abbrev pub list_at : {A : Type 0} → (Data → Option A) → Data → Result (List A) ℕ
list_at f d = each_of f (as_array d)

-- a list, without the index of a faulty item
abbrev pub whole : {A : Type 0} → Result A ℕ → Option A
whole (Ok a) = Some a
whole (Err i) = None

-- the result is the reading, unless memory ran out
abbrev pub Gives : {A : Type 0} → Result A Misread → Option A → Type 0
Gives (Ok a) reading = reading ≡ Some a
Gives (Err misread.NoMemory) reading = Unit {0}
Gives (Err misread.Faulty) reading = reading ≡ None
