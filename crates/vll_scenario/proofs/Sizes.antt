-- No list in a JSON text has more items than the text has bytes, so the index of a fault is at most their number.
use Rattle.std.proofs.Common.{◌≡◌, ℕ, zero, suc, ◌≤◌, max, Bool, true, false, List, [], ◌∷◌, length, Option, Some, None, option_map, option_and_then, Result, Ok, Err, Ordering, Less, Equal, Greater, refl, subst, nat_cmp, arith}
use Rattle.std.specs.Prelude.{⊤}
use Rattle.std.specs.Cmp.Lexicographic.{slice_cmp}
use Rattle.std.specs.Ordering.{match_ordering}
use Rattle.json.specs.Token.{Token}
use Rattle.json.specs.Lex.{Lexeme, token, comma, colon, Class, quote, backslash, operator, space, other, class, Mode, between, in_word, in_string, in_escape, lex_byte, lex, Place, fresh, after_value, after_comma, after_key, begins_colon, may_begin, may_close, if_allowed, place_token, punctuate, tokens}
use Rattle.json.specs.Json as json
use Rattle.json.specs.Json.{Parse, parse_map, after_end_array, read_key, items_step, members_step, items, members, value_with, value}
use Rattle.serde_json.specs.Data.{Data, number, array, object, Items, no_items, item, Members, no_members, member, put}
use Rattle.serde_json.specs.Events.{items_len}
use Rattle.serde_json.specs.Find.{get, get_member}
use Rattle.serde_json.specs.Read.{number_of, of_json, of_items, of_members, max_depth, read}
use Rattle.vll_scenario.specs.Private.Longest.{longest_list, longest_in_items, longest_in_members}
use Rattle.vll_scenario.specs.Syntax.{member_at}
use Rattle.vll_scenario.specs.Tree.{in_front, each, list_at}

-- ---- no more tokens than bytes, and one

length-lex_byte : (m : Mode) (c : Class) (x n : ℕ) (xs : List ℕ) (k : Mode → List Lexeme) → ((next : Mode) → length (k next) ≤ n) → length (lex_byte m c x xs k) ≤ suc n
length-lex_byte between quote x n xs k h = omega (arith, h in_string)
length-lex_byte between backslash x n xs k h = omega (arith, h in_word)
length-lex_byte between operator x n xs k h = omega (arith, h between)
length-lex_byte between space x n xs k h = omega (arith, h between)
length-lex_byte between other x n xs k h = omega (arith, h in_word)
length-lex_byte in_word quote x n xs k h = omega (arith, h in_word)
length-lex_byte in_word backslash x n xs k h = omega (arith, h in_word)
length-lex_byte in_word operator x n xs k h = omega (arith, h between)
length-lex_byte in_word space x n xs k h = omega (arith, h between)
length-lex_byte in_word other x n xs k h = omega (arith, h in_word)
length-lex_byte in_string quote x n xs k h = omega (arith, h between)
length-lex_byte in_string backslash x n xs k h = omega (arith, h in_escape)
length-lex_byte in_string operator x n xs k h = omega (arith, h in_string)
length-lex_byte in_string space x n xs k h = omega (arith, h in_string)
length-lex_byte in_string other x n xs k h = omega (arith, h in_string)
length-lex_byte in_escape c x n xs k h = omega (arith, h in_string)

length-lex : (m : Mode) (xs : List ℕ) → length (lex m xs) ≤ length xs
unfolding lex
length-lex m [] = omega arith
length-lex m (x ∷ xs) = length-lex_byte m (class x) x (length xs) xs (λ next. lex next xs) (λ next. length-lex next xs)

length-if_allowed : (b : Bool) (t : Token) (n : ℕ) (k : Place → List Token) (next : Place) → length (k next) ≤ suc n → length (if_allowed b t k next) ≤ suc (suc n)
length-if_allowed true t n k next h = omega arith
length-if_allowed false t n k next h = omega arith

length-place_token : (p : Place) (t : Token) (b : Bool) (n : ℕ) (k : Place → List Token) → ((next : Place) → length (k next) ≤ suc n) → length (place_token p t b k) ≤ suc (suc n)
length-place_token p Token.begin_object b n k h = length-if_allowed (may_begin p) _ n k fresh (h fresh)
length-place_token p Token.end_object b n k h = length-if_allowed (may_close p) _ n k after_value (h after_value)
length-place_token p Token.begin_array b n k h = length-if_allowed (may_begin p) _ n k fresh (h fresh)
length-place_token p Token.end_array b n k h = length-if_allowed (may_close p) _ n k after_value (h after_value)
length-place_token p (Token.key s) b n k h = omega arith
length-place_token p (Token.string s) true n k h = length-if_allowed (may_begin p) _ n k after_key (h after_key)
length-place_token p (Token.string s) false n k h = length-if_allowed (may_begin p) _ n k after_value (h after_value)
length-place_token p (Token.number s) b n k h = length-if_allowed (may_begin p) _ n k after_value (h after_value)
length-place_token p (Token.boolean c) b n k h = length-if_allowed (may_begin p) _ n k after_value (h after_value)
length-place_token p Token.null b n k h = length-if_allowed (may_begin p) _ n k after_value (h after_value)
length-place_token p Token.bad b n k h = omega arith

length-punctuate : (p : Place) (ls : List Lexeme) → length (punctuate p ls) ≤ suc (length ls)
unfolding punctuate
length-punctuate fresh [] = omega arith
length-punctuate after_value [] = omega arith
length-punctuate after_comma [] = omega arith
length-punctuate after_key [] = omega arith
length-punctuate fresh (token t ∷ ls) = length-place_token fresh t (begins_colon ls) (length ls) _ (λ next. length-punctuate next ls)
length-punctuate after_value (token t ∷ ls) = length-place_token after_value t (begins_colon ls) (length ls) _ (λ next. length-punctuate next ls)
length-punctuate after_comma (token t ∷ ls) = length-place_token after_comma t (begins_colon ls) (length ls) _ (λ next. length-punctuate next ls)
length-punctuate after_key (token t ∷ ls) = length-place_token after_key t (begins_colon ls) (length ls) _ (λ next. length-punctuate next ls)
length-punctuate after_value (comma ∷ ls) = omega (arith, length-punctuate after_comma ls)
length-punctuate after_key (colon ∷ ls) = omega (arith, length-punctuate fresh ls)
length-punctuate fresh (comma ∷ ls) = omega arith
length-punctuate after_comma (comma ∷ ls) = omega arith
length-punctuate after_key (comma ∷ ls) = omega arith
length-punctuate fresh (colon ∷ ls) = omega arith
length-punctuate after_value (colon ∷ ls) = omega arith
length-punctuate after_comma (colon ∷ ls) = omega arith

length-tokens : (text : List ℕ) → length (tokens text) ≤ suc (length text)
length-tokens text = omega (arith, length-punctuate fresh (lex between text), length-lex between text)

-- ---- the longest list in a JSON value

abbrev len : json.Items → ℕ
len json.no_items = 0
len (json.item j js) = suc (len js)

abbrev mutual
  longest : json.Json → ℕ
  longest json.null = 0
  longest (json.boolean b) = 0
  longest (json.number s) = 0
  longest (json.string s) = 0
  longest (json.array js) = max (len js) (items_longest js)
  longest (json.object ms) = members_longest ms

  items_longest : json.Items → ℕ
  items_longest json.no_items = 0
  items_longest (json.item j js) = max (longest j) (items_longest js)

  members_longest : json.Members → ℕ
  members_longest json.no_members = 0
  members_longest (json.member k j ms) = max (longest j) (members_longest ms)

-- what is read has at most n by f, and leaves at most n tokens
abbrev AtMost : {A : Type 0} → (A → ℕ) → ℕ → Option (A × List Token) → Type 0
AtMost f n None = ⊤
AtMost f n (Some p) = (f p.0 ≤ n) × (length p.1 ≤ n)

-- at most m items are read
abbrev ItemsAtMost : ℕ → ℕ → Option (json.Items × List Token) → Type 0
ItemsAtMost m n None = ⊤
ItemsAtMost m n (Some p) = (len p.0 ≤ m) × (items_longest p.0 ≤ n) × (length p.1 ≤ n)

abbrev Leaves : ℕ → Option (List Token) → Type 0
Leaves n None = ⊤
Leaves n (Some ts) = length ts ≤ n

abbrev KeyLeaves : ℕ → Option (Option (List ℕ) × List Token) → Type 0
KeyLeaves n None = ⊤
KeyLeaves n (Some p) = length p.1 ≤ n

Leaves-after_end_array : (n : ℕ) (ts : List Token) → length ts ≤ n → Leaves n (after_end_array ts)
Leaves-after_end_array n [] h = tt
Leaves-after_end_array n (Token.end_array ∷ ts) h = omega arith
Leaves-after_end_array n (_ ∷ ts) h = tt

KeyLeaves-read_key : (n : ℕ) (ts : List Token) → length ts ≤ n → KeyLeaves n (read_key ts)
KeyLeaves-read_key n [] h = tt
KeyLeaves-read_key n (Token.end_object ∷ ts) h = omega arith
KeyLeaves-read_key n (Token.key s ∷ ts) h = omega arith
KeyLeaves-read_key n (_ ∷ ts) h = tt

mapped : {A B : Type 0} (f : A → ℕ) (g : B → ℕ) (n : ℕ) (h : A → B) → ((a : A) → f a ≤ n → g (h a) ≤ n) → (o : Option (A × List Token)) → AtMost f n o → AtMost g n (parse_map h o)
mapped f g n h k None x = tt
mapped f g n h k (Some p) x = (k p.0 x.0, x.1)

array_read : (m n : ℕ) → m ≤ n → (o : Option (json.Items × List Token)) → ItemsAtMost m n o → AtMost longest n (parse_map json.array o)
array_read m n h None x = tt
array_read m n h (Some p) x = (omega (arith, x.0, x.1), x.2)

module _ (n : ℕ) (p : Parse json.Json) (within : (ts : List Token) → length ts ≤ suc n → AtMost longest n (p ts)) where
  item_front : (m : ℕ) (j : json.Json) → longest j ≤ n → (o : Option (json.Items × List Token)) → ItemsAtMost m n o → ItemsAtMost (suc m) n (parse_map (json.item j) o)
  item_front m j h None x = tt
  item_front m j h (Some q) x = (omega (arith, x.0), omega (arith, x.1), x.2)

  item_read : (m : ℕ) (more : Parse json.Items) → ((ts : List Token) → length ts ≤ n → ItemsAtMost m n (more ts)) → (o : Option (json.Json × List Token)) → AtMost longest n o
      → ItemsAtMost (suc m) n (option_and_then (λ q. parse_map (json.item q.0) (more q.1)) o)
  item_read m more again None x = tt
  item_read m more again (Some q) x = item_front m q.0 x.0 (more q.1) (again q.1 x.1)

  item_turn : (m : ℕ) (more : Parse json.Items) → ((ts : List Token) → length ts ≤ n → ItemsAtMost m n (more ts)) → (ts : List Token) → length ts ≤ n → (o : Option (List Token)) → Leaves n o → ItemsAtMost (suc m) n (items_step p more ts o)
  item_turn m more again ts h (Some r) x = (omega arith, omega arith, x)
  item_turn m more again ts h None x = item_read m more again (p ts) (within ts (omega arith))

  ItemsAtMost-items : (m : ℕ) (ts : List Token) → length ts ≤ n → ItemsAtMost m n (items p m ts)
  unfolding items
  ItemsAtMost-items zero ts h = tt
  ItemsAtMost-items (suc m) ts h = item_turn m (items p m) (ItemsAtMost-items m) ts h (after_end_array ts) (Leaves-after_end_array n ts h)

  member_read : (k : List ℕ) (more : Parse json.Members) → ((ts : List Token) → length ts ≤ n → AtMost members_longest n (more ts)) → (o : Option (json.Json × List Token)) → AtMost longest n o
      → AtMost members_longest n (option_and_then (λ q. parse_map (json.member k q.0) (more q.1)) o)
  member_read k more again None x = tt
  member_read k more again (Some q) x = mapped members_longest members_longest n (json.member k q.0) (λ ms y. omega (arith, x.0)) (more q.1) (again q.1 x.1)

  member_turn : (more : Parse json.Members) → ((ts : List Token) → length ts ≤ n → AtMost members_longest n (more ts)) → (o : Option (Option (List ℕ) × List Token)) → KeyLeaves n o
      → AtMost members_longest n (option_and_then (λ q. members_step p more q.0 q.1) o)
  member_turn more again None x = tt
  member_turn more again (Some (None, ts)) x = (omega arith, x)
  member_turn more again (Some (Some k, ts)) x = member_read k more again (p ts) (within ts (omega arith))

  AtMost-members : (m : ℕ) (ts : List Token) → length ts ≤ n → AtMost members_longest n (members p m ts)
  unfolding members
  AtMost-members zero ts h = tt
  AtMost-members (suc m) ts h = member_turn (members p m) (AtMost-members m) (read_key ts) (KeyLeaves-read_key n ts h)

one_level : (n : ℕ) (a : Parse json.Items) (o : Parse json.Members) → ((ts : List Token) → length ts ≤ n → AtMost longest n (parse_map json.array (a ts)))
    → ((ts : List Token) → length ts ≤ n → AtMost longest n (parse_map json.object (o ts))) → (ts : List Token) → length ts ≤ suc n → AtMost longest n (value_with a o ts)
one_level n a o p q [] h = tt
one_level n a o p q (Token.begin_object ∷ ts) h = q ts (omega arith)
one_level n a o p q (Token.end_object ∷ ts) h = tt
one_level n a o p q (Token.begin_array ∷ ts) h = p ts (omega arith)
one_level n a o p q (Token.end_array ∷ ts) h = tt
one_level n a o p q (Token.key s ∷ ts) h = tt
one_level n a o p q (Token.string s ∷ ts) h = (omega arith, omega arith)
one_level n a o p q (Token.number s ∷ ts) h = (omega arith, omega arith)
one_level n a o p q (Token.boolean b ∷ ts) h = (omega arith, omega arith)
one_level n a o p q (Token.null ∷ ts) h = (omega arith, omega arith)
one_level n a o p q (Token.bad ∷ ts) h = tt

AtMost-value : (n d : ℕ) (ts : List Token) → length ts ≤ suc n → AtMost longest n (value d ts)
unfolding value
AtMost-value n zero = one_level n (λ ts. None) (λ ts. None) (λ ts h. tt) (λ ts h. tt)
AtMost-value n (suc d) =
    one_level n (λ ts. items (value d) (length ts) ts) (λ ts. members (value d) (length ts) ts)
    (λ ts h. array_read (length ts) n h _ (ItemsAtMost-items n (value d) (AtMost-value n d) (length ts) ts h))
    (λ ts h. mapped members_longest longest n json.object (λ ms x. x) _ (AtMost-members n (value d) (AtMost-value n d) (length ts) ts h))

-- ---- the longest list in the data

abbrev Within : {A : Type 0} → (A → ℕ) → ℕ → Option A → Type 0
Within f n None = ⊤
Within f n (Some a) = f a ≤ n

abbrev ItemsWithin : ℕ → ℕ → Option Items → Type 0
ItemsWithin m n None = ⊤
ItemsWithin m n (Some ds) = (items_len ds ≤ m) × (longest_in_items ds ≤ n)

longest_in_members-match_ordering : (o : Ordering) (a b c : Members) (n : ℕ) → longest_in_members a ≤ n → longest_in_members b ≤ n → longest_in_members c ≤ n → longest_in_members (match_ordering o a b c) ≤ n
longest_in_members-match_ordering Less a b c n p q r = p
longest_in_members-match_ordering Equal a b c n p q r = q
longest_in_members-match_ordering Greater a b c n p q r = r

longest_in_members-put : (k : List ℕ) (d : Data) (ms : Members) (n : ℕ) → longest_list d ≤ n → longest_in_members ms ≤ n → longest_in_members (put k d ms) ≤ n
longest_in_members-put k d no_members n p q = omega arith
longest_in_members-put k d (member l e ms) n p q =
    longest_in_members-match_ordering _ (member k d (member l e ms)) (member l d ms) (member l e (put k d ms)) n (omega arith) (omega arith) (omega (arith, longest_in_members-put k d ms n p (omega arith)))

number_within : (n : ℕ) (o : Option _) → Within longest_list n (option_map number o)
number_within n None = tt
number_within n (Some x) = omega arith

array_within : (m n : ℕ) → m ≤ n → (o : Option Items) → ItemsWithin m n o → Within longest_list n (option_map array o)
array_within m n h None x = tt
array_within m n h (Some ds) x = omega (arith, x.0, x.1)

object_within : (n : ℕ) (o : Option Members) → Within longest_in_members n o → Within longest_list n (option_map object o)
object_within n None x = tt
object_within n (Some ms) x = x

more_within : (m n : ℕ) (d : Data) → longest_list d ≤ n → (o : Option Items) → ItemsWithin m n o → ItemsWithin (suc m) n (option_map (item d) o)
more_within m n d h None x = tt
more_within m n d h (Some ds) x = (omega (arith, x.0), omega (arith, x.1))

item_within : (m n : ℕ) (more : Option Items) → ItemsWithin m n more → (o : Option Data) → Within longest_list n o → ItemsWithin (suc m) n (option_and_then (λ d. option_map (item d) more) o)
item_within m n more x None y = tt
item_within m n more x (Some d) y = more_within m n d y more x

member_within : (n : ℕ) (more : Data → Option Members) → ((d : Data) → longest_list d ≤ n → Within longest_in_members n (more d)) → (o : Option Data) → Within longest_list n o → Within longest_in_members n (option_and_then more o)
member_within n more x None y = tt
member_within n more x (Some d) y = x d y

mutual
  Within-of_json : (j : json.Json) (n : ℕ) → longest j ≤ n → Within longest_list n (of_json j)
  Within-of_json json.null n h = omega arith
  Within-of_json (json.boolean b) n h = omega arith
  Within-of_json (json.number s) n h = number_within n (number_of s)
  Within-of_json (json.string s) n h = omega arith
  Within-of_json (json.array js) n h = array_within (len js) n (omega arith) _ (Within-of_items js n (omega arith))
  Within-of_json (json.object ms) n h = object_within n _ (Within-of_members ms no_members n h (omega arith))

  Within-of_items : (js : json.Items) (n : ℕ) → items_longest js ≤ n → ItemsWithin (len js) n (of_items js)
  Within-of_items json.no_items n h = (omega arith, omega arith)
  Within-of_items (json.item j js) n h = item_within (len js) n _ (Within-of_items js n (omega arith)) _ (Within-of_json j n (omega arith))

  Within-of_members : (ms : json.Members) (found : Members) (n : ℕ) → members_longest ms ≤ n → longest_in_members found ≤ n → Within longest_in_members n (of_members ms found)
  Within-of_members json.no_members found n h k = k
  Within-of_members (json.member name j ms) found n h k =
      member_within n (λ d. of_members ms (put name d found)) (λ d x. Within-of_members ms (put name d found) n (omega arith) (longest_in_members-put name d found n x k)) _ (Within-of_json j n (omega arith))

converted_within : (n : ℕ) (o : Option json.Json) → Within longest n o → Within longest_list n (option_and_then of_json o)
converted_within n None x = tt
converted_within n (Some j) x = Within-of_json j n x

last_within : (n : ℕ) (o : Option (json.Json × List Token)) → AtMost longest n o → Within longest n (option_and_then (λ p. json.if_last p.0 p.1) o)
last_within n None x = tt
last_within n (Some (j, [])) x = x.0
last_within n (Some (j, t ∷ ts)) x = tt

pub longest_list-read : (text : List ℕ) (d : Data) → read text ≡ Some d → longest_list d ≤ length text
longest_list-read text d e = subst (Within longest_list (length text)) e (converted_within _ _ (last_within _ _ (AtMost-value (length text) max_depth (tokens text) (length-tokens text))))

-- ---- a member's list

found_within : (o : Ordering) (d : Data) (rest : Option Data) (n : ℕ) → longest_list d ≤ n → Within longest_list n rest → Within longest_list n (match_ordering o rest (Some d) rest)
found_within Less d rest n p q = q
found_within Equal d rest n p q = p
found_within Greater d rest n p q = q

get_member-within : (name : List ℕ) (ms : Members) (n : ℕ) → longest_in_members ms ≤ n → Within longest_list n (get_member name ms)
get_member-within name no_members n h = tt
get_member-within name (member l d ms) n h = found_within (slice_cmp nat_cmp name l) d (get_member name ms) n (omega arith) (get_member-within name ms n (omega arith))

get-within : (name : List ℕ) (d : Data) (n : ℕ) → longest_list d ≤ n → Within longest_list n (get name d)
get-within name (object ms) n h = get_member-within name ms n h
get-within name _ n h = tt

found_member : (name : List ℕ) (d : Data) (n : ℕ) (o : Option Data) → get name d ≡ o → Within longest_list n o → longest_list (member_at name d) ≤ n
found_member name d n None e h = rw e (omega arith)
found_member name d n (Some x) e h = rw e h

pub member-within : (name : List ℕ) (d : Data) (n : ℕ) → longest_list d ≤ n → longest_list (member_at name d) ≤ n
member-within name d n few = found_member name d n (get name d) refl (get-within name d n few)

pub get-within-Some : (name : List ℕ) (d x : Data) (n : ℕ) → longest_list d ≤ n → get name d ≡ Some x → longest_list x ≤ n
get-within-Some name d x n few is = subst (Within longest_list n) is (get-within name d n few)

-- a fault's index is at most n
abbrev FaultWithin : {A : Type 0} → ℕ → Result (List A) ℕ → Type 0
FaultWithin n (Ok xs) = ⊤
FaultWithin n (Err i) = i ≤ n

fault_in_front : {A : Type 0} (n : ℕ) (a : Option A) (others : Result (List A) ℕ) → FaultWithin n others → FaultWithin (suc n) (in_front a others)
fault_in_front n None others h = omega arith
fault_in_front n (Some a) (Ok xs) h = tt
fault_in_front n (Some a) (Err i) h = omega arith

fault_in_each : {A : Type 0} (f : Data → Option A) (ds : Items) (n : ℕ) → items_len ds ≤ n → FaultWithin n (each f ds)
fault_in_each f no_items n h = tt
fault_in_each f (item d ds) zero h = absurd (omega arith)
fault_in_each f (item d ds) (suc n) h = fault_in_front n (f d) (each f ds) (fault_in_each f ds n (omega arith))

fault_in_list : {A : Type 0} (f : Data → Option A) (d : Data) (n : ℕ) → longest_list d ≤ n → FaultWithin n (list_at f d)
fault_in_list f (array ds) n h = fault_in_each f ds n (omega arith)
fault_in_list f _ n h = omega arith

-- the index of the first faulty item of a list
pub index-within : {A : Type 0} (f : Data → Option A) (d : Data) (n i : ℕ) → longest_list d ≤ n → list_at f d ≡ Err i → i ≤ n
index-within f d n i few fault = subst (FaultWithin n) fault (fault_in_list f d n few)
