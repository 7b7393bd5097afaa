-- What a made call says of its procedure: each key position has the cell of its claim.
use Rattle.std.proofs.Common.{◌≡◌, ℕ, zero, suc, ◌-◌, ◌<◌, ◌≤◌, Bool, true, false, ◌==◌, List, [], ◌∷◌, length, map, take, replicate, get_or, Option, Some, None, slice_index, refl, sym, ap, ap₂, unwrap_or, slice_get, ◌∙◌, arith, ⊎_elim, if◌then◌else◌}
use Rattle.vll_proc.proofs.Common.{list_all, ltb-true, cases_lt, leb-true, eq-eqb, cond-true, false≢true, get_or-map, get_or_append_left, get_or-append_right, get_or_past, length-map, slice_get_within, none-some, slice_get-get_or, MOST_CLAIMS, Claim, Mode, Read, IsRising, mode_on, stronger_of, mode_on-claims_of, Call, Edition, One, Two, KeyDecl, Proc, asking, asked_by, asked, place_of, place_for, is_led, IsCallOf, found_at, led_to, or_else, record_named, source_at, source_of, HasCells, HasCellsBelow, IsWellFormed, most_keys, argument_is_declared, has_source, have_sources, is_direct, IsRising-claims_of, length-claims_of-le}
use Rattle.std.proofs.lemmas.Map.Views.{exact_unsigned_eq}
use Rattle.vll_record.specs.Headline.Canon.{laid}
use Rattle.vll_record.specs.Headline.Claim.{claims_of, stronger}
use Rattle.vll_proc.specs.declared.syntax.KeyAt.{KeyAt}
use Rattle.vll_proc.specs.declared.syntax.KeyAt.TheVariants as at
use Rattle.vll_proc.proofs.Copy.{IsPlaceFor, both_true}

-- a record that is claimed stands at its place
place_of-stands : (cs : List Claim) (r : ℕ) (m : Mode) → mode_on cs r ≡ Some m → IsPlaceFor cs (place_of cs r) r
place_of-stands [] r m e = absurd (none-some m e)
place_of-stands (c ∷ cs) r m e = by_first (c.id == r) refl (place_of-stands cs r m) e
  where
    by_first : (same : Bool) → (c.id == r) ≡ same → (mode_on cs r ≡ Some m → IsPlaceFor cs (place_of cs r) r) → (if same then stronger_of c.mode (mode_on cs r) else mode_on cs r) ≡ Some m → IsPlaceFor (c ∷ cs) (if same then 0 else suc (place_of cs r)) r
    by_first true same rest e = record { claim = c; stands = refl; is_for = exact_unsigned_eq c.id r same }
    by_first false other rest e = let found = rest e in record { claim = found.claim; stands = found.stands; is_for = found.is_for }

mode_on_first-stronger : (c : Claim) (o : Option Mode) → (m : Mode) × (stronger_of c.mode o ≡ Some m)
mode_on_first-stronger c None = (c.mode, refl)
mode_on_first-stronger c (Some n) = (stronger c.mode n, refl)

-- some claim is asked for the record of each key position
mode_on-asked : (f : KeyDecl → Claim) (keys : List KeyDecl) (k : ℕ) (d : KeyDecl) → k < length keys → (m : Mode) × (mode_on (map f keys) (f (get_or keys k d)).id ≡ Some m)
mode_on-asked f [] k d lt = absurd (omega arith)
mode_on-asked f (x ∷ xs) zero d lt =
    let here = mode_on_first-stronger (f x) (mode_on (map f xs) (f x).id) in
    (here.0, cond-true ((f x).id == (f x).id) _ _ (eq-eqb (f x).id (f x).id refl) ∙ here.1)
mode_on-asked f (x ∷ xs) (suc k) d lt =
    let rest = mode_on-asked f xs k d (omega arith) in
    let r : ℕ = (f (get_or xs k d)).id in
    by_first r ((f x).id == r) rest.0 rest.1
  where
    by_first : (r : ℕ) (same : Bool) (m : Mode) → mode_on (map f xs) r ≡ Some m → (n : Mode) × ((if same then stronger_of (f x).mode (mode_on (map f xs) r) else mode_on (map f xs) r) ≡ Some n)
    by_first r true m is = (stronger (f x).mode m, ap (stronger_of (f x).mode) is)
    by_first r false m is = (m, is)

-- a list that is laid is read as itself
slice_index-laid : (n : ℕ) (xs : List ℕ) (i : ℕ) → slice_index (laid n 0 xs) i ≡ slice_index xs i
slice_index-laid n xs i =
    ⊎_elim
    (λ (lt : i < length xs). get_or_append_left xs (replicate (n - length xs) 0) 0 i lt)
    (λ (ge : length xs ≤ i).
    get_or-append_right xs (replicate (n - length xs) 0) (length xs) i 0 refl ge
    ∙ zeros (n - length xs) (i - length xs) ∙ sym (get_or_past xs i 0 ge))
    (cases_lt i (length xs))
  where
    zeros : (n i : ℕ) → get_or (replicate {A = ℕ} n 0) i 0 ≡ 0
    zeros zero i = refl
    zeros (suc n) zero = refl
    zeros (suc n) (suc i) = zeros n i

list_all_get : {X : Type 0} (p : X → Bool) (xs : List X) (k : ℕ) (d : X) → list_all p xs ≡ true → k < length xs → p (get_or xs k d) ≡ true
list_all_get p [] k d h lt = absurd (omega arith)
list_all_get p (x ∷ xs) zero d h lt = (both_true _ _ h).0
list_all_get p (x ∷ xs) (suc k) d h lt = list_all_get p xs k d (both_true _ _ h).1 (omega arith)

-- the record of a key position, where it names one
abbrev pub number_named : ℕ → List ℕ → Option ℕ → KeyDecl → ℕ
number_named count args found k = unwrap_or (record_named count args found k.at) 0

-- the claim that it asks for there
abbrev pub claim_named : ℕ → List ℕ → Option ℕ → KeyDecl → Claim
claim_named count args found k = record { id = number_named count args found k; mode = k.mode }

-- a declared position that is led names a record
pub names_one : (count n : ℕ) (args : List ℕ) (found : Option ℕ) (k : KeyDecl) → argument_is_declared n k ≡ true → is_led found k.at ≡ true → n ≤ length args
    → record_named count args found k.at ≡ Some (number_named count args found k)
names_one count n args found k h led le = named k.at h led
  where
    led_one : (found : Option ℕ) (i : ℕ) → is_led found (at.Through i) ≡ true → led_to count found ≡ Some (unwrap_or (led_to count found) 0)
    led_one None i led = absurd (false≢true led)
    led_one (Some v) i led = refl

    named : (at : KeyAt) → argument_is_declared n (record k { at = at }) ≡ true → is_led found at ≡ true → record_named count args found at ≡ Some (unwrap_or (record_named count args found at) 0)
    named (at.Fixed r) h led = refl
    named (at.Arg i) h led =
        let lt = ltb-true i n h in
        let there : slice_get args i ≡ Some (get_or args i 0) = slice_get-get_or args i 0 (omega arith) in
        there ∙ ap Some (sym (ap (λ (o : Option ℕ). unwrap_or o 0) there))
    named (at.Through i) h led = led_one found i led

-- what declared positions that are led ask for
pub asked_by-declared : (count n : ℕ) (args : List ℕ) (found : Option ℕ) (keys : List KeyDecl) → list_all (argument_is_declared n) keys ≡ true → list_all (λ (k : KeyDecl). is_led found k.at) keys ≡ true → n ≤ length args
    → asked_by count args found keys ≡ map (claim_named count args found) keys
asked_by-declared count n args found [] h led le = refl
asked_by-declared count n args found (k ∷ ks) h led le =
    let both = both_true _ _ h in
    let ledb = both_true _ _ led in
    ap (λ (o : Option ℕ). asking k.mode o (asked_by count args found ks)) (names_one count n args found k both.0 ledb.0 le)
    ∙ ap (λ (cs : List Claim). claim_named count args found k ∷ cs) (asked_by-declared count n args found ks both.1 ledb.1 le)

slice_get-take : (n : ℕ) (xs : List ℕ) (i : ℕ) → i < n → slice_get (take n xs) i ≡ slice_get xs i
slice_get-take zero xs i lt = absurd (omega arith)
slice_get-take (suc n) [] i lt = refl
slice_get-take (suc n) (x ∷ xs) zero lt = refl
slice_get-take (suc n) (x ∷ xs) (suc i) lt = slice_get-take n xs i (omega arith)

-- a key is named alike by the arguments and by those of them that were passed
record_named-take : (count n : ℕ) (args : List ℕ) (found : Option ℕ) (k : KeyDecl) → argument_is_declared n k ≡ true → record_named count (take n args) found k.at ≡ record_named count args found k.at
record_named-take count n args found k h = named k.at h
  where
    named : (at : KeyAt) → argument_is_declared n (record k { at = at }) ≡ true → record_named count (take n args) found at ≡ record_named count args found at
    named (at.Arg i) h = slice_get-take n args i (ltb-true i n h)
    named other h = refl

-- the claims of a made call
pub claims_made : (n : ℕ) (p : Proc) (c : Call) → IsCallOf n p c → c.claims ≡ claims_of (asked n p (take c.arg_count c.args) c.found)
claims_made n p c made = ap (λ (x : Call). x.claims) made.made

-- as many arguments were passed as are declared
args_passed : (n : ℕ) (p : Proc) (c : Call) → IsCallOf n p c → p.args ≤ length (take c.arg_count c.args)
args_passed n p c made = omega (arith, ap (λ (x : Call). x.arg_count) made.made, made.count)

-- they are those of the records that its key positions name
pub claims_named : (n : ℕ) (p : Proc) (c : Call) → IsWellFormed p → IsCallOf n p c → c.claims ≡ claims_of (map (claim_named n (take c.arg_count c.args) c.found) p.keys)
claims_named n p c formed made =
    claims_made n p c made ∙ ap claims_of (asked_by-declared n p.args (take c.arg_count c.args) c.found p.keys formed.key_args made.led (args_passed n p c made))

pub claims_rise : (n : ℕ) (p : Proc) (c : Call) → IsCallOf n p c → IsRising c.claims
claims_rise n p c made = rw (claims_made n p c made) (IsRising-claims_of (asked n p (take c.arg_count c.args) c.found))

-- in no edition are there more key positions than there may be claims
pub keys_few : (p : Proc) → IsWellFormed p → length p.keys ≤ MOST_CLAIMS
keys_few p formed = few p.edition (leb-true (length p.keys) (most_keys p.edition) formed.few_keys)
  where
    few : (edition : Edition) → length p.keys ≤ most_keys edition → length p.keys ≤ MOST_CLAIMS
    few One le = omega arith
    few Two le = le

pub claims_few : (n : ℕ) (p : Proc) (c : Call) → IsWellFormed p → IsCallOf n p c → length c.claims ≤ MOST_CLAIMS
claims_few n p c formed made =
    let few = keys_few p formed in
    let as_asked = length-claims_of-le (map (claim_named n (take c.arg_count c.args) c.found) p.keys) in
    rw (claims_named n p c formed made) (omega (arith, length-map p.keys (claim_named n (take c.arg_count c.args) c.found)))

pub some_key : KeyDecl
some_key = record { mode = Read; at = at.Fixed 0 }

-- the record that a key position names, by the arguments that were passed
pub key_record : (p : Proc) (c : Call) (records : List ℕ) → IsWellFormed p → IsCallOf (length records) p c → (k : ℕ) → k < length p.keys
    → slice_index (map (λ (d : KeyDecl). found_at records (record_named (length records) c.args c.found d.at)) p.keys) k ≡ number_named (length records) (take c.arg_count c.args) c.found (get_or p.keys k some_key)
key_record p c records formed made k lt =
    let n : ℕ = length records in
    let key : KeyDecl = get_or p.keys k some_key in
    let declared : argument_is_declared c.arg_count key ≡ true =
    rw made.count (list_all_get (argument_is_declared p.args) p.keys k some_key formed.key_args lt) in
    get_or-map (λ (d : KeyDecl). found_at records (record_named n c.args c.found d.at)) p.keys k some_key 0 lt
    ∙ ap (found_at records) (sym (record_named-take n c.arg_count c.args c.found key declared)
    ∙ names_one n p.args (take c.arg_count c.args) c.found key (list_all_get (argument_is_declared p.args) p.keys k some_key formed.key_args lt) (list_all_get (λ (d : KeyDecl). is_led c.found d.at) p.keys k some_key made.led lt) (args_passed n p c made))

-- the cell of a key position is the place of the claim of the record that it names
cell_place : (n : ℕ) (p : Proc) (c : Call) → IsWellFormed p → IsCallOf n p c → (k : ℕ) → k < length p.keys
    → IsPlaceFor c.claims (slice_index c.cells k) (number_named n (take c.arg_count c.args) c.found (get_or p.keys k some_key))
cell_place n p c formed made k lt =
    let args : List ℕ = take c.arg_count c.args in
    let key : KeyDecl = get_or p.keys k some_key in
    let cell : KeyDecl → ℕ = λ d. place_for (claims_of (asked n p args c.found)) (record_named n args c.found d.at) in
    let claims : List Claim = claims_of (map (claim_named n args c.found) p.keys) in
    let declared : argument_is_declared p.args key ≡ true = list_all_get (argument_is_declared p.args) p.keys k some_key formed.key_args lt in
    let led : is_led c.found key.at ≡ true = list_all_get (λ (d : KeyDecl). is_led c.found d.at) p.keys k some_key made.led lt in
    let same : cell key ≡ place_of claims (number_named n args c.found key) =
    ap₂ (λ (cs : List Claim) (o : Option ℕ). place_for (claims_of cs) o)
    (asked_by-declared n p.args args c.found p.keys formed.key_args made.led (args_passed n p c made)) (names_one n p.args args c.found key declared led (args_passed n p c made)) in
    let cell_is : slice_index c.cells k ≡ place_of claims (number_named n args c.found key) =
    ap (λ (x : Call). slice_index x.cells k) made.made ∙ slice_index-laid MOST_CLAIMS (map cell p.keys) k ∙ get_or-map cell p.keys k some_key 0 lt ∙ same in
    let claimed = mode_on-asked (claim_named n args c.found) p.keys k some_key lt in
    rw (cell_is, claims_named n p c formed made)
    (place_of-stands claims (number_named n args c.found key) claimed.0 (mode_on-claims_of (map (claim_named n args c.found) p.keys) (number_named n args c.found key) ∙ claimed.1))

-- as `cell_place`, for the record as a body names it
pub key_place : (p : Proc) (c : Call) (records : List ℕ) → IsWellFormed p → IsCallOf (length records) p c → (k : ℕ) → k < length p.keys
    → IsPlaceFor c.claims (slice_index c.cells k) (slice_index (map (λ (d : KeyDecl). found_at records (record_named (length records) c.args c.found d.at)) p.keys) k)
key_place p c records formed made k lt = rw (key_record p c records formed made k lt) (cell_place (length records) p c formed made k lt)

-- each key position has one of the cells of the claims, and the first one if there are none
pub HasCellsBelow-made : (n most : ℕ) (p : Proc) (c : Call) → IsWellFormed p → IsCallOf n p c → 0 < most → length c.claims ≤ most → HasCellsBelow most c
HasCellsBelow-made n most p c formed made some few k lt =
    ⊎_elim
    (λ (within : k < length p.keys).
    let place = cell_place n p c formed made k within in
    omega (arith, slice_get_within c.claims (slice_index c.cells k) place.claim place.stands))
    (λ (past : length p.keys ≤ k).
    let args : List ℕ = take c.arg_count c.args in
    let cell : KeyDecl → ℕ = λ d. place_for (claims_of (asked n p args c.found)) (record_named n args c.found d.at) in
    let cell_is : slice_index c.cells k ≡ 0 =
    ap (λ (x : Call). slice_index x.cells k) made.made ∙ slice_index-laid MOST_CLAIMS (map cell p.keys) k
    ∙ get_or_past (map cell p.keys) k 0 (omega (arith, length-map p.keys cell)) in
    omega arith)
    (cases_lt k (length p.keys))

pub HasCells-made : (n : ℕ) (p : Proc) (c : Call) → IsWellFormed p → IsCallOf n p c → HasCells c
HasCells-made n p c formed made = HasCellsBelow-made n MOST_CLAIMS p c formed made (omega arith) (claims_few n p c formed made)

same_some : (a b : ℕ) → ◌≡◌ {A = Option ℕ} (Some a) (Some b) → a ≡ b
same_some a b h = ap (λ (o : Option ℕ). unwrap_or o a) h

-- a key position by whose record another one is found is one of the procedure's
pub source_within : (p : Proc) (i : ℕ) → IsWellFormed p → source_of p.keys ≡ Some i → i < length p.keys
source_within p i formed is = within p.keys 0 p.keys formed.sources is
  where
    direct : (all : List KeyDecl) (i : ℕ) → is_direct (slice_get all i) ≡ true → i < length all
    direct [] i h = absurd (false≢true h)
    direct (k ∷ ks) zero h = omega arith
    direct (k ∷ ks) (suc i) h = let lt = direct ks i h in omega arith

    here : (at : KeyAt) (mode : Mode) (all : List KeyDecl) (place : ℕ) (rest : Option ℕ) → has_source all place (record { mode = mode; at = at }) ≡ true → or_else (source_at at) rest ≡ Some i → (rest ≡ Some i → i < length all) → i < length all
    here (at.Through j) mode all place rest h is behind = let lt = direct all j (both_true _ _ h).1 in let same = same_some j i is in omega arith
    here other mode all place rest h is behind = behind is

    within : (all : List KeyDecl) (place : ℕ) (keys : List KeyDecl) → have_sources all place keys ≡ true → source_of keys ≡ Some i → i < length all
    within all place [] h is = absurd (none-some i is)
    within all place (k ∷ ks) h is =
        let both = both_true _ _ h in
        here k.at k.mode all place (source_of ks) both.0 is (λ later. within all (suc place) ks both.1 later)
