-- Values of a line, read token by token.
use Rattle.std.proofs.Common.{◌≡◌, ℕ, ◌^◌, ◌<◌, false, ◌==◌, List, [], ◌∷◌, ◌++◌, length, get_or, Option, None, Some, IfSome, OnSome, refl, sym, ap, ◌∙◌, lt-ltb, arith}
use Rattle.std.specs.Option.{SomeIff}
use Rattle.fast_float.specs.Text.{IsInteger, Parts, digits_of, scan}
use Rattle.json.specs.Lex.{tokens}
use Rattle.json.specs.Json.{items, members, parse_map, value}
use Rattle.json.specs.Token.{Token}
use Rattle.json.proofs.Grammar.{value_is, value-begin_array, value-begin_object}
use Rattle.serde_json.specs.Data.{Items, no_items, item, Members, array, number, object, string, unsigned}
use Rattle.serde_json.specs.Read.{converted, number_of, of_items, of_json, read}
use Rattle.vll_lines.proofs.Grammar.{converted-array, converted-object, whole_read}
use Rattle.vll_lines.specs.Private.Tokens.{AreRead, IsRead, numbers_in}

pub string_read : (depth : ℕ) (ts : List Token) (s : List ℕ) (rest : List Token) → ts ≡ Token.string s ∷ rest → IsRead depth ts (string s) rest
string_read depth ts s rest is = ap (converted of_json) (ap (value depth) is ∙ value_is depth (Token.string s ∷ rest))

pub number_read : (depth : ℕ) (ts : List Token) (s : List ℕ) (n : ℕ) (rest : List Token) → ts ≡ Token.number s ∷ rest → number_of s ≡ Some (unsigned n) → IsRead depth ts (number (unsigned n)) rest
number_read depth ts s n rest is whole = ap (converted of_json) (ap (value depth) is ∙ value_is depth (Token.number s ∷ rest)) ∙ rw whole

whole_number : (s : List ℕ) (n : ℕ) → (get_or s 0 0 == 45) ≡ false → IsInteger (scan s) → digits_of (scan s) < 2 ^ 64 → digits_of (scan s) ≡ n → number_of s ≡ Some (unsigned n)
unfolding number_of
whole_number s n plain whole fits is = rw (plain, lt-ltb _ _ whole.0, whole.1, whole.2, lt-ltb _ _ fits) (ap (λ m. Some (unsigned m)) is)

-- the number of a numeral without a sign, if it is whole
pub if_unsigned : (s : List ℕ) (p : Parts) (r : Option ℕ) → (get_or s 0 0 == 45) ≡ false → p ≡ scan s → SomeIff r (IsInteger p × (digits_of p < 2 ^ 64)) (digits_of p) → IfSome r (λ n. number_of s ≡ Some (unsigned n))
if_unsigned s p None plain is read = tt
if_unsigned s p (Some n) plain is read =
    let at : (IsInteger (scan s) × (digits_of (scan s) < 2 ^ 64)) × (n ≡ digits_of (scan s)) = rw is at read in
    whole_number s n plain at.0.0 at.0.1 (sym at.1)

pub array_read : (ts : List Token) (ds : Items) (after rest : List Token) → ts ≡ Token.begin_array ∷ after → converted of_items (items (value 125) (length after) after) ≡ Some (ds, rest) → IsRead 126 ts (array ds) rest
array_read ts ds after rest is inside =
    ap (converted of_json) (ap (value 126) is ∙ value-begin_array 126 after (omega arith)) ∙ converted-array (items (value 125) (length after) after) ∙ ap (parse_map array) inside

-- an object was read that is the whole text
pub object_read : (text : List ℕ) (found : Members) (after rest : List Token) → tokens text ≡ Token.begin_object ∷ after → AreRead after found rest → rest ≡ [] → read text ≡ Some (object found)
object_read text found after rest is are none =
    whole_read (value 127 (tokens text)) (object found)
    (ap (converted of_json) (ap (value 127) is ∙ value-begin_object 127 after (omega arith)) ∙ converted-object (members (value 126) (length after) after)
    ∙ ap (parse_map object) (are ∙ ap (λ (r : List Token). Some (found, r)) none))

-- another clause of a result that is there
pub on_some : {A P Q : Type 0} (r : Option A) → OnSome r P → (P → Q) → OnSome r Q
on_some None h f = tt
on_some (Some a) h f = f h

-- ---- numbers, one after the other

abbrev pub numbers_before : List ℕ → Items → Items
numbers_before [] rest = rest
numbers_before (n ∷ ns) rest = item (number (unsigned n)) (numbers_before ns rest)

pub numbers_all : (ns : List ℕ) → numbers_before ns no_items ≡ numbers_in ns
numbers_all [] = refl
numbers_all (n ∷ ns) = ap (item (number (unsigned n))) (numbers_all ns)

numbers_push : (ns : List ℕ) (n : ℕ) (rest : Items) → numbers_before ns (item (number (unsigned n)) rest) ≡ numbers_before (ns ++ n ∷ []) rest
numbers_push [] n rest = refl
numbers_push (m ∷ ns) n rest = ap (item (number (unsigned m))) (numbers_push ns n rest)

pub one_more_number : (ns : List ℕ) (n : ℕ) (r : Option (Items × List Token)) → parse_map (numbers_before ns) (parse_map (item (number (unsigned n))) r) ≡ parse_map (numbers_before (ns ++ n ∷ [])) r
one_more_number ns n None = refl
one_more_number ns n (Some p) = ap (λ ds. Some (ds, p.1)) (numbers_push ns n p.0)
